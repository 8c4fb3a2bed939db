-- Tests of each thing of a list as it is seen.
use Rattle.std.proofs.Common.{◌≡◌, ℕ, ◌<◌, ◌≤◌, Bool, true, false, List, [], ◌∷◌, length, map, take, get_or, Option, Some, refl, sym, ap, ◌∙◌}
use Rattle.std.specs.Prelude.{◌||◌, slice_get}
use Rattle.std.specs.List.{list_all, list_any}
use Rattle.std.proofs.lemmas.List.{take_all}
use Rattle.std.proofs.lemmas.List.Folds.{list_all-map, list_all_at, list_any_at}
use Rattle.cil_code.specs.declared.clause.Clause.{Clause}
use Rattle.code_places.specs.Clauses.{clause_seen, stands_well}

any_map : {A B : Type 0} (test : B → Bool) (seen : A → B) (xs : List A) → list_any test (map seen xs) ≡ list_any (λ x. test (seen x)) xs
any_map test seen [] = refl
any_map test seen (x ∷ xs) = ap (λ b. test (seen x) || b) (any_map test seen xs)

module _ {A B : Type 0} (test : B → Bool) (seen : A → B) (xs : List A) (i : ℕ) where
  pub all_stops : (d : A) → i < length xs → test (seen (get_or xs i d)) ≡ false → false ≡ list_all test (map seen xs)
  all_stops d lt bad = sym (list_all-map test seen xs ∙ list_all_at (λ x. test (seen x)) xs i d lt bad)

  pub all_done : length xs ≤ i → list_all (λ x. test (seen x)) (take i xs) ≡ true → true ≡ list_all test (map seen xs)
  all_done past e = sym (list_all-map test seen xs ∙ ap (list_all (λ x. test (seen x))) (sym (take_all i xs past)) ∙ e)

  pub any_stops : (d : A) → i < length xs → test (seen (get_or xs i d)) ≡ true → true ≡ list_any test (map seen xs)
  any_stops d lt good = sym (any_map test seen xs ∙ list_any_at (λ x. test (seen x)) xs i d lt good)

  pub any_done : length xs ≤ i → list_any (λ x. test (seen x)) (take i xs) ≡ false → false ≡ list_any test (map seen xs)
  any_done past e = sym (any_map test seen xs ∙ ap (list_any (λ x. test (seen x))) (sym (take_all i xs past)) ∙ e)

-- the clause of a number, and those before it
pub stands_at : (code : List ℕ) (clauses items before : List Clause) (n : ℕ) (x : Clause) (told : Bool) → items ≡ clauses → before ≡ take n items → slice_get items n ≡ Some x
    → told ≡ stands_well code (map clause_seen before) (clause_seen x) → (c : Clause) → slice_get clauses n ≡ Some c → told ≡ stands_well code (map clause_seen (take n clauses)) (clause_seen c)
stands_at code clauses items before n x told same front at tells c there =
    let one : Path (Option Clause) (Some x) (Some c) = sym at ∙ ap (λ cs. slice_get cs n) same ∙ there in
    let this : x ≡ c = cc in
    tells ∙ ap (λ bs. stands_well code (map clause_seen bs) (clause_seen x)) (front ∙ ap (take n) same) ∙ ap (λ k. stands_well code (map clause_seen (take n clauses)) (clause_seen k)) this
