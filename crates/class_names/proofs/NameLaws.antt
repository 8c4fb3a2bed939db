-- Full names by what is behind each unit.
use Rattle.std.proofs.Common.{◌≡◌, ℕ, zero, suc, ◌+◌, ◌-◌, ◌<◌, ◌≤◌, Bool, true, false, List, [], ◌∷◌, ◌++◌, length, Option, Some, None, refl, sym, ap, ◌∙◌, arith}
use Rattle.std.specs.Prelude.{slice_get, nat_lt, unwrap_or, if◌then◌else◌}
use Rattle.std.specs.Option.{option_map}
use Rattle.std.proofs.lemmas.Bool.{lt-ltb, le-ltb, ltb-true, ltb-false}
use Rattle.machine.specs.Data.{Id}
use Rattle.classes.specs.Classes.{Classes}
use Rattle.classes.specs.Queries.{enclosing_of}
use Rattle.class_names.specs.Units.{own_units, units_within}
use Rattle.class_names.specs.Ends.{from_end}
use Rattle.class_names.proofs.TextLaws.{get_front, get_behind, joined_length}

pub end_low : {A : Type 0} (xs : List A) (k : ℕ) → k < length xs → from_end xs k ≡ slice_get xs (length xs - (k + 1))
end_low xs k low = ap (λ b. if b then slice_get xs (length xs - (k + 1)) else None) (lt-ltb k (length xs) low)

pub end_high : {A : Type 0} (xs : List A) (k : ℕ) → length xs ≤ k → from_end xs k ≡ None
end_high xs k high = ap (λ b. if b then slice_get xs (length xs - (k + 1)) else None) (le-ltb k (length xs) high)

pub end_at : {A : Type 0} (xs : List A) (k behind : ℕ) → behind + k + 1 ≡ length xs → from_end xs behind ≡ slice_get xs k
end_at xs k behind e = end_low xs behind (omega (arith, e)) ∙ ap (slice_get xs) (omega (arith, e))

pub some_there : {A : Type 0} (xs : List A) (k : ℕ) → k < length xs → slice_get xs k ≡ None → ⊥
some_there [] k low e = omega (arith, low)
some_there (x ∷ xs) zero low e = cc e
some_there (x ∷ xs) (suc k) low e = some_there xs k (omega (arith, low)) e

-- what few are behind is in the last part
pub end_last : {A : Type 0} (xs ys : List A) (k : ℕ) → k < length ys → from_end (xs ++ ys) k ≡ from_end ys k
end_last xs ys k low =
    let many = joined_length xs ys in
    end_low (xs ++ ys) k (omega (arith, many, low)) ∙ get_behind xs ys (length (xs ++ ys) - (k + 1)) (length ys - (k + 1)) (omega (arith, many, low)) ∙ sym (end_low ys k low)

get_first : {A : Type 0} (xs ys : List A) (k : ℕ) → k < length xs → slice_get (xs ++ ys) k ≡ slice_get xs k
get_first [] ys k low = absurd (omega (arith, low))
get_first (x ∷ xs) ys zero low = refl
get_first (x ∷ xs) ys (suc k) low = get_first xs ys k (omega (arith, low))

-- and what more are behind, in the first one
pub end_first : {A : Type 0} (xs ys : List A) (k left : ℕ) → k ≡ length ys + left → from_end (xs ++ ys) k ≡ from_end xs left
end_first xs ys k left e = by (nat_lt left (length xs)) refl
  where
    by : (b : Bool) → nat_lt left (length xs) ≡ b → from_end (xs ++ ys) k ≡ from_end xs left
    by true q =
        let low = ltb-true left (length xs) q in
        let many = joined_length xs ys in
        end_low (xs ++ ys) k (omega (arith, many, low, e))
        ∙ ap (slice_get (xs ++ ys)) (omega (arith, many, low, e))
        ∙ get_first xs ys (length xs - (left + 1)) (omega (arith, low))
        ∙ sym (end_low xs left low)
    by false q =
        let high = ltb-false left (length xs) q in
        let many = joined_length xs ys in
        end_high (xs ++ ys) k (omega (arith, many, high, e)) ∙ sym (end_high xs left high)

-- ---- a step out of a class

module _ (cs : Classes) (n : ℕ) (c : Id) where
  pub inner : enclosing_of cs c ≡ None → units_within (suc n) cs c ≡ own_units cs c
  inner e = ap (λ o. unwrap_or (option_map (λ outer. units_within n cs outer ++ 43 ∷ []) o) [] ++ own_units cs c) e

  pub nested : (outer : Id) → enclosing_of cs c ≡ Some outer → units_within (suc n) cs c ≡ (units_within n cs outer ++ 43 ∷ []) ++ own_units cs c
  nested outer e = ap (λ o. unwrap_or (option_map (λ outer. units_within n cs outer ++ 43 ∷ []) o) [] ++ own_units cs c) e

  pub inner_length : enclosing_of cs c ≡ None → length (units_within (suc n) cs c) ≡ length (own_units cs c)
  inner_length e = ap length (inner e)

  pub nested_length : (outer : Id) → enclosing_of cs c ≡ Some outer → length (units_within (suc n) cs c) ≡ length (units_within n cs outer) + 1 + length (own_units cs c)
  nested_length outer e =
      let whole = ap length (nested outer e) in
      let two = joined_length (units_within n cs outer ++ 43 ∷ []) (own_units cs c) in
      let one = joined_length (units_within n cs outer) (43 ∷ []) in
      omega (arith, whole, two, one)

  -- the plus sign
  pub plus_end : (outer : Id) → enclosing_of cs c ≡ Some outer → from_end (units_within (suc n) cs c) (length (own_units cs c)) ≡ Some 43
  plus_end outer e =
      ap (λ xs. from_end xs (length (own_units cs c))) (nested outer e)
      ∙ end_first (units_within n cs outer ++ 43 ∷ []) (own_units cs c) (length (own_units cs c)) 0 (omega arith)
      ∙ end_last (units_within n cs outer) (43 ∷ []) 0 (omega arith)
      ∙ end_low (43 ∷ []) 0 (omega arith)

  pub own_end : (k : ℕ) → k < length (own_units cs c) → from_end (units_within (suc n) cs c) k ≡ from_end (own_units cs c) k
  own_end k low = end_last _ (own_units cs c) k low

  pub outer_end : (outer : Id) → enclosing_of cs c ≡ Some outer → (k left : ℕ) → k ≡ length (own_units cs c) + 1 + left → from_end (units_within (suc n) cs c) k ≡ from_end (units_within n cs outer) left
  outer_end outer e k left at =
      ap (λ xs. from_end xs k) (nested outer e)
      ∙ end_first (units_within n cs outer ++ 43 ∷ []) (own_units cs c) k (1 + left) (omega (arith, at))
      ∙ end_first (units_within n cs outer) (43 ∷ []) (1 + left) left (omega arith)
