-- Bits after offsets that were added one after the other.
use Rattle.std.proofs.Common.{◌≡◌, ℕ, ◌+◌, ◌<◌, ◌≤◌, Bool, true, false, List, [], ◌∷◌, ◌++◌, length, take, get_or, set, Some, refl, sym, ap, subst, ◌∙◌, arith}
use Rattle.std.specs.Prelude.{◌||◌, slice_get, replicate, nat_eq}
use Rattle.std.proofs.Math.Bool.{or_assoc}
use Rattle.std.proofs.lemmas.Bool.{eq-eqb, eqb-true, ne_eqb}
use Rattle.std.proofs.lemmas.List.{length-set, length-replicate, get_or-replicate, get_or_past, get_or-set_same, get_or-set_other, take_more, take_all}
use Rattle.std.proofs.lemmas.List.Folds.{list_any-append}
use Rattle.std.proofs.lemmas.Option.{slice_get_within, get_or_from_slice_get}
use Rattle.code_places.specs.Among.{is_among}
use Rattle.code_places.specs.Marks.{Marks}

same : (b : Bool) → b ≡ (b || false)
same true = refl
same false = refl

set_true : (b : Bool) → true ≡ (b || true)
set_true true = refl
set_true false = refl

pub marks_none : (bits : List Bool) → Marks [] bits bits
marks_none bits = record { size = refl; each = λ n lt. same (get_or bits n false) }

pub marks_after : (ps qs : List ℕ) (a b c : List Bool) → Marks ps a b → Marks qs b c → Marks (ps ++ qs) a c
marks_after ps qs a b c first second =
    record {
      size = second.size ∙ first.size;
      each = λ n lt.
          second.each n (omega (arith, first.size))
          ∙ ap (λ bit. bit || is_among qs n) (first.each n lt)
          ∙ or_assoc (get_or a n false) (is_among ps n) (is_among qs n)
          ∙ ap (λ b. get_or a n false || b) (sym (list_any-append (λ place. nat_eq place n) ps qs));
    }

-- an offset that has no bit
pub marks_past : (at : ℕ) (bits : List Bool) → length bits ≤ at → Marks (at ∷ []) bits bits
marks_past at bits past =
    record { size = refl; each = λ n lt. same (get_or bits n false) ∙ ap (λ t. get_or bits n false || (t || false)) (sym (ne_eqb at n (λ e. omega (arith, e, past, lt)))) }

-- the bit of one
pub marks_at : (at : ℕ) (bits : List Bool) → at < length bits → Marks (at ∷ []) bits (set bits at true)
marks_at at bits inside = record { size = length-set bits at true; each = λ n lt. by n (nat_eq at n) refl }
  where
    by : (n : ℕ) (t : Bool) → nat_eq at n ≡ t → get_or (set bits at true) n false ≡ (get_or bits n false || (nat_eq at n || false))
    by n true e =
        let here : at ≡ n = eqb-true at n e in
        subst (λ m. get_or (set bits at true) m false ≡ (get_or bits m false || (nat_eq at n || false))) here
        (get_or-set_same bits at true false inside ∙ set_true (get_or bits at false) ∙ ap (λ t. get_or bits at false || (t || false)) (sym e))
    by n false e =
        get_or-set_other bits at n true false (λ s. false_true (sym e ∙ eq-eqb at n (sym s)))
        ∙ same (get_or bits n false)
        ∙ ap (λ t. get_or bits n false || (t || false)) (sym e)
      where
        false_true : false ≡ true → ⊥
        false_true f = cc

-- one more of a list
pub marks_more : (ts : List ℕ) (k t : ℕ) (a b c : List Bool) → slice_get ts k ≡ Some t → Marks (take k ts) a b → Marks (t ∷ []) b c → Marks (take (k + 1) ts) a c
marks_more ts k t a b c there first second =
    let inside = slice_get_within ts k t there in
    let one : take (k + 1) ts ≡ take k ts ++ t ∷ [] = take_more ts k 0 inside ∙ ap (λ x. take k ts ++ x ∷ []) (get_or_from_slice_get ts k t 0 there) in
    subst (λ ps. Marks ps a c) (sym one) (marks_after (take k ts) (t ∷ []) a b c first second)

pub marks_done : (ts : List ℕ) (k : ℕ) (a b : List Bool) → length ts ≤ k → Marks (take k ts) a b → Marks ts a b
marks_done ts k a b past marks = subst (λ ps. Marks ps a b) (take_all k ts past) marks

-- bits that were all unset before
pub marked : (ps : List ℕ) (size : ℕ) (bits : List Bool) → Marks ps (replicate size false) bits → (n : ℕ) → n < size → get_or bits n false ≡ is_among ps n
marked ps size bits marks n lt =
    let long : n < length (replicate size false) = omega (arith, length-replicate size false) in
    marks.each n long ∙ ap (λ bit. bit || is_among ps n) (get_or-replicate size n false false lt)

pub marked_past : (ps : List ℕ) (size : ℕ) (bits : List Bool) → Marks ps (replicate size false) bits → (n : ℕ) → size ≤ n → get_or bits n false ≡ false
marked_past ps size bits marks n past = let long : length bits ≤ n = omega (arith, marks.size, length-replicate size false) in get_or_past bits n false long
