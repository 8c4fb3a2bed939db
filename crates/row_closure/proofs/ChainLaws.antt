-- Chains of one rule more.
use Rattle.std.proofs.Common.{◌≡◌, ◌⊎◌, inl, inr, ⊎_elim, ℕ, zero, suc, ◌+◌, ◌<◌, List, [], ◌∷◌, ◌++◌, length, length-append, Some, refl, sym, ap, ◌∙◌, subst, arith}
use Rattle.std.specs.Prelude.{slice_get, slice_set, slice_index_or, replicate}
use Rattle.std.proofs.lemmas.Bool.{cases_lt}
use Rattle.std.proofs.lemmas.List.{length-set}
use Rattle.std.proofs.lemmas.Option.{slice_get-get_or}
use Rattle.row_closure.specs.declared.rule.Rule.{Rule}
use Rattle.row_closure.specs.declared.rule.Premise.{Premise}
use Rattle.row_closure.specs.declared.rule.Premise.TheVariants as premise
use Rattle.row_closure.specs.declared.chains.Chains.{Chains}
use Rattle.row_closure.specs.Closure.{AreWithin}
use Rattle.row_closure.specs.Chains.{row_of, IsLast, AreChains}
use Rattle.row_closure.proofs.Places.{get_push, get_set}

abbrev zeros : ℕ → List ℕ
zeros n = replicate n 0

zero_of : (n k l : ℕ) → slice_get (zeros n) k ≡ Some l → l ≡ 0
zero_of zero k l e = cc e
zero_of (suc n) zero l e = cc e
zero_of (suc n) (suc k) l e = zero_of n k l e

as_many : (n : ℕ) → length (zeros n) ≡ n
as_many zero = refl
as_many (suc n) = ap suc (as_many n)

-- a rule names rows that are there
pub row_within : (p : Premise) (count : ℕ) (rules : List Rule) → AreWithin count rules → (k : ℕ) (r : Rule) → slice_get rules k ≡ Some r → row_of p r < count
row_within premise.First count rules within k r e = (within k r e).0
row_within premise.Second count rules within k r e = (within k r e).1

module _ (p : Premise) (rules : List Rule) (count : ℕ) where
  pub no_chains : (c : Chains) → c.last.items ≡ zeros count → c.before.items ≡ [] → AreChains p rules count 0 c
  no_chains c last before =
      record {
        rows = ap length last ∙ as_many count;
        counted = ap length before;
        last = λ row l e.
            let none : l ≡ 0 = zero_of count row l (sym (ap (λ xs. slice_get xs row) last) ∙ e) in
            record { inside = omega (arith, none); names = λ k r f. absurd (omega (arith, none, f)); behind = λ k r f g. absurd (omega (arith, g)) };
        before = λ k l r e. cc (sym (ap (λ (xs : List ℕ). slice_get xs k) before) ∙ e);
      }

  module _ (n : ℕ) (old new : Chains) (r : Rule) (row : ℕ) (chains : AreChains p rules count n old) (there : slice_get rules n ≡ Some r) (at : row ≡ row_of p r) (inside : row < count) (last : new.last.items ≡ slice_set old.last.items row (n + 1)) (before : new.before.items ≡ old.before.items ++ slice_index_or old.last.items row 0 ∷ []) where
    was : IsLast p rules n row (slice_index_or old.last.items row 0)
    was = chains.last row (slice_index_or old.last.items row 0) (slice_get-get_or old.last.items row 0 (omega (arith, inside, chains.rows)))

    newest : IsLast p rules (n + 1) row (n + 1)
    newest = record {
      inside = omega arith;
      names = λ k s e f. let same : n ≡ k = omega (arith, e) in let rule : Some r ≡ Some s = sym there ∙ ap (slice_get rules) same ∙ f in ap (row_of p) (cc (sym rule)) ∙ sym at;
      behind = λ k s f g. absurd (omega (arith, f, g));
    }

    other : (o l : ℕ) → (o ≡ row → ⊥) → IsLast p rules n o l → IsLast p rules (n + 1) o l
    other o l apart w = record {
      inside = let i = w.inside in omega (arith, i);
      names = w.names;
      behind = λ k s f g e h.
          ⊎_elim
          (λ lt. w.behind k s f lt e h)
          (λ le. let same : k ≡ n = omega (arith, g, le) in let rule : Some r ≡ Some s = sym there ∙ ap (slice_get rules) (sym same) ∙ e in apart (sym h ∙ ap (row_of p) (cc (sym rule)) ∙ sym at))
          (cases_lt k n);
    }

    last_of : (o l : ℕ) → ((o ≡ row) × (l ≡ n + 1)) ⊎ ((o ≡ row → ⊥) × (slice_get old.last.items o ≡ Some l)) → IsLast p rules (n + 1) o l
    last_of o l (inl h) = subst (λ x. IsLast p rules (n + 1) x l) (sym h.0) (subst (λ x. IsLast p rules (n + 1) row x) (sym h.1) newest)
    last_of o l (inr h) = other o l h.0 (chains.last o l h.1)

    before_of : (k l : ℕ) (s : Rule) → slice_get rules k ≡ Some s → (slice_get old.before.items k ≡ Some l) ⊎ ((k ≡ length old.before.items) × (l ≡ slice_index_or old.last.items row 0)) → IsLast p rules k (row_of p s) l
    before_of k l s e (inl h) = chains.before k l s h e
    before_of k l s e (inr h) =
        let same : k ≡ n = h.0 ∙ chains.counted in
        let rule : Some r ≡ Some s = sym there ∙ ap (slice_get rules) (sym same) ∙ e in
        let row_is : row ≡ row_of p s = at ∙ ap (row_of p) (cc rule) in
        subst (λ x. IsLast p rules x (row_of p s) l) (sym same) (subst (λ x. IsLast p rules n x l) row_is (subst (λ x. IsLast p rules n row x) (sym h.1) was))

    pub one_more : AreChains p rules count (n + 1) new
    one_more = record {
      rows = ap length last ∙ length-set old.last.items row (n + 1) ∙ chains.rows;
      counted = omega (arith, ap length before, length-append old.before.items (slice_index_or old.last.items row 0 ∷ []), chains.counted);
      last = λ o l e. last_of o l (get_set old.last.items row (n + 1) o l (sym (ap (λ xs. slice_get xs o) last) ∙ e));
      before = λ k l s e f. before_of k l s f (get_push old.before.items (slice_index_or old.last.items row 0) k l (sym (ap (λ (xs : List ℕ). slice_get xs k) before) ∙ e));
    }
