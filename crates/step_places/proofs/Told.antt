-- The n-th place of a list, by what is told of it.
use Rattle.std.proofs.Common.{◌≡◌, ℕ, zero, suc, ◌<◌, List, [], ◌∷◌, length, Option, Some, None, refl, arith}
use Rattle.std.specs.Prelude.{slice_get}
use Rattle.std.specs.Option.{option_map}
use Rattle.std.proofs.lemmas.Option.{slice_get_within}
use Rattle.machine.specs.Data.{PlaceType, Value}
use Rattle.machine.specs.Numbers.{PlaceKind, kind_of}

item_there : {A : Type 0} (xs : List A) (n : ℕ) → n < length xs → (x : A) × (slice_get xs n ≡ Some x)
item_there [] n l = absurd (omega (arith, l))
item_there (x ∷ xs) zero l = (x, refl)
item_there (x ∷ xs) (suc n) l = item_there xs n (omega (arith, l))

both_past : {A B : Type 0} (xs : List A) (ys : List B) (n : ℕ) → length ys ≡ length xs → slice_get xs n ≡ None → slice_get ys n ≡ None
both_past [] [] n e h = refl
both_past [] (y ∷ ys) n e h = absurd (omega (arith, e))
both_past (x ∷ xs) [] n e h = refl
both_past (x ∷ xs) (y ∷ ys) zero e h = absurd (cc h)
both_past (x ∷ xs) (y ∷ ys) (suc n) e h = both_past xs ys n (omega (arith, e)) h

-- a place of a kind, and its value
pub record Place (types : List PlaceType) (vs : List Value) (n : ℕ) (kind : Option PlaceKind) : Type 0 where
  pub type : PlaceType
  pub typed : slice_get types n ≡ Some type
  pub kind_is : kind_of type ≡ kind
  pub within : n < length types
  pub value : Value
  pub there : slice_get vs n ≡ Some value

pub told : (types : List PlaceType) (vs : List Value) (n : ℕ) (kind : Option PlaceKind) → length vs ≡ length types → option_map kind_of (slice_get types n) ≡ Some kind → Place types vs n kind
told types vs n kind size e = by (slice_get types n) refl e
  where
    by : (o : Option PlaceType) → slice_get types n ≡ o → option_map kind_of o ≡ Some kind → Place types vs n kind
    by None q h = absurd (cc h)
    by (Some type) q h =
        let within : n < length types = slice_get_within types n type q in
        let item = item_there vs n (omega (arith, within, size)) in
        record { type = type; typed = q; kind_is = cc h; within = within; value = item.0; there = item.1 }

pub no_type : (types : List PlaceType) (n : ℕ) → option_map kind_of (slice_get types n) ≡ None → slice_get types n ≡ None
no_type types n e = by (slice_get types n) refl e
  where
    by : (o : Option PlaceType) → slice_get types n ≡ o → option_map kind_of o ≡ None → slice_get types n ≡ None
    by None q h = q
    by (Some type) q h = absurd (cc h)

pub no_value : (types : List PlaceType) (vs : List Value) (n : ℕ) → length vs ≡ length types → option_map kind_of (slice_get types n) ≡ None → slice_get vs n ≡ None
no_value types vs n size e = both_past types vs n size (no_type types n e)
