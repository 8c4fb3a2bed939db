-- No member of a list of rows that passes a test is before a row, just where the first one isn't.
use Rattle.std.proofs.Common.{◌≡◌, ℕ, suc, ◌≤◌, Bool, true, false, List, [], ◌∷◌, Some, refl, sym, ap, ◌∙◌, arith, cond}
use Rattle.std.specs.Prelude.{◌&&◌, ◌||◌, nat_le, nat_lt, not}
use Rattle.std.specs.List.{list_any, find}
use Rattle.std.specs.Option.{option_map}
use Rattle.std.proofs.lemmas.Bool.{ltb-true, ltb-false, le-ltb, lt-leb, le-leb}
use Rattle.machine.specs.Data.{Id}
use Rattle.assemblies.specs.Binding.{id_at, numbered}
use Rattle.member_tests.specs.Rows.{is_not_before}

module _ {A B : Type 0} (make : ℕ → A → B) (id : B → Id) (file n : ℕ) (test : B → Bool) (ids : (i : ℕ) (x : A) → id (make i x) ≡ id_at file i) where
  abbrev before : B → Bool
  before y = nat_lt (id y).row n && test y

  none_later : (i : ℕ) (xs : List A) → n ≤ i → list_any before (numbered make i xs) ≡ false
  none_later i [] h = refl
  none_later i (x ∷ xs) h =
      ap (λ b. (b && test (make i x)) || list_any before (numbered make (suc i) xs)) (ap (λ (c : Id). nat_lt c.row n) (ids i x) ∙ le-ltb i n h)
      ∙ none_later (suc i) xs (omega (arith, h))

  pub first_is_before : (i : ℕ) (xs : List A) → not (list_any before (numbered make i xs)) ≡ is_not_before n (option_map id (find test (numbered make i xs)))
  first_is_before i [] = refl
  first_is_before i (x ∷ xs) =
      ap (λ (c : Id). not ((nat_lt c.row n && test (make i x)) || list_any before (numbered make (suc i) xs))) (ids i x)
      ∙ by (test (make i x)) (nat_lt i n) refl (first_is_before (suc i) xs)
      ∙ sym (here (test (make i x)))
    where
      here : (t : Bool) → is_not_before n (option_map id (cond t (Some (make i x)) (find test (numbered make (suc i) xs)))) ≡ cond t (nat_le n i) (is_not_before n (option_map id (find test (numbered make (suc i) xs))))
      here true = ap (λ (c : Id). nat_le n c.row) (ids i x)
      here false = refl

      by : (t b : Bool) → nat_lt i n ≡ b → not (list_any before (numbered make (suc i) xs)) ≡ is_not_before n (option_map id (find test (numbered make (suc i) xs))) → not ((b && t) || list_any before (numbered make (suc i) xs)) ≡ cond t (nat_le n i) (is_not_before n (option_map id (find test (numbered make (suc i) xs))))
      by false true e ih = ih
      by false false e ih = ih
      by true true e ih = sym (lt-leb n i (ltb-true i n e))
      by true false e ih =
          let low = ltb-false i n e in
          ap not (none_later (suc i) xs (omega (arith, low))) ∙ sym (le-leb n i low)
