-- One answer more.
use Rattle.std.proofs.Common.{◌≡◌, ◌∙◌, ℕ, zero, suc, ◌⊎◌, inl, inr, List, [], ◌∷◌, ◌++◌, length, take, drop, Option, Some, None, sym, ap}
use Rattle.std.specs.Prelude.{slice_get, slice_set, unwrap_or}
use Rattle.std.specs.Option.{option_map}
use Rattle.std.proofs.lemmas.List.{length-set}
use Rattle.std.proofs.Math.Seq.{take-append_seam}
use Rattle.classes.specs.Classes.{Classes}
use Rattle.classes.specs.Queries.{target}
use Rattle.board_ids.specs.Ids.{id_of}
use Rattle.tiny_types.specs.declared.found.FoundTarget.{FoundTarget}
use Rattle.tiny_types.specs.Found.{AreFound}

-- what stands in a list of which one was replaced is that one, or stood there before
set_or : {A : Type 0} (xs : List A) (n k : ℕ) (x a : A) → slice_get (slice_set xs n x) k ≡ Some a → (a ≡ x) ⊎ (slice_get xs k ≡ Some a)
set_or [] n k x a e = inr e
set_or (y ∷ xs) zero zero x a e = let same : x ≡ a = cc e in inl (sym same)
set_or (y ∷ xs) zero (suc k) x a e = inr e
set_or (y ∷ xs) (suc n) zero x a e = inr e
set_or (y ∷ xs) (suc n) (suc k) x a e = set_or xs n k x a e

pub one_more : (cs : Classes) (found : List (Option FoundTarget)) (n : ℕ) (new : FoundTarget) → AreFound cs found → option_map id_of new.body ≡ target cs (id_of new.class) (id_of new.method) → AreFound cs (slice_set found n (Some new))
one_more cs found n new are right =
    record {
      count = length-set found n (Some new) ∙ are.count;
      each = λ k f e. by k f (set_or found n k (Some new) (Some f) e);
    }
  where
    by : (k : ℕ) (f : FoundTarget) → (Some f ≡ Some new) ⊎ (slice_get found k ≡ Some (Some f)) → option_map id_of f.body ≡ target cs (id_of f.class) (id_of f.method)
    by k f (inl same) = let is : f ≡ new = cc same in ap (λ (g : FoundTarget). option_map id_of g.body) is ∙ right ∙ sym (ap (λ (g : FoundTarget). target cs (id_of g.class) (id_of g.method)) is)
    by k f (inr old) = are.each k f old

pub kept_there : {A : Type 0} (xs : List (Option A)) (n : ℕ) (x : A) → unwrap_or (slice_get xs n) None ≡ Some x → slice_get xs n ≡ Some (Some x)
kept_there {A = A} xs n x e = go (slice_get xs n) e
  where
    go : (o : Option (Option A)) → unwrap_or o None ≡ Some x → o ≡ Some (Some x)
    go None h = absurd (cc h)
    go (Some y) h = ap Some h

-- a list that was written over another one of its length
pub written : {A : Type 0} (n : ℕ) (new old : List A) → n ≡ length new → take n (new ++ drop (length new) old) ≡ new
written n new old e = ap (λ k. take k (new ++ drop (length new) old)) e ∙ take-append_seam new (drop (length new) old)
