-- A class is reached up the superclasses alone: what is implemented leads to interfaces alone.
use Rattle.std.proofs.Common.{◌≡◌, ◌⊎◌, inl, inr, ℕ, zero, suc, Bool, true, false, List, [], ◌∷◌, ◌++◌, map, Option, Some, None, refl, sym, ap, ◌∙◌, subst}
use Rattle.std.specs.Prelude.{◌||◌, slice_get}
use Rattle.std.specs.List.{list_any}
use Rattle.std.proofs.lemmas.Bool.{cases_Bool, both_ways}
use Rattle.std.proofs.lemmas.List.Folds.{list_any-append}
use Rattle.machine.specs.Data.{Id, id_eq}
use Rattle.machine_typed.proofs.Types.{id_same}
use Rattle.classes.specs.Classes.{Classes}
use Rattle.classes.specs.Queries.{listed, reaches, above, parents, superclass_of, interfaces_of, is_interface, is_sub, is_or_implements}
use Rattle.member_keys.specs.declared.keys.ClassId.{ClassId}
use Rattle.member_keys.specs.Seen.{class_seen}
use Rattle.class_order.specs.Order.{InOrder}

pub or_false : (b : Bool) → (b || false) ≡ b
or_false true = refl
or_false false = refl

pub any_seen : (w : Id) (xs : List ClassId) → list_any (id_eq w) (map class_seen xs) ≡ list_any (λ c. id_eq w (class_seen c)) xs
any_seen w [] = refl
any_seen w (x ∷ xs) = ap (λ b. id_eq w (class_seen x) || b) (any_seen w xs)

none_of : (p : Id → Bool) (xs : List Id) → ((k : Id) (n : ℕ) → slice_get xs n ≡ Some k → p k ≡ false) → list_any p xs ≡ false
none_of p [] each = refl
none_of p (x ∷ xs) each = ap (λ b. b || list_any p xs) (each x 0 refl) ∙ none_of p xs (λ k n e. each k (suc n) e)

module _ (cs : Classes) (o : InOrder cs) (z : Id) (class : is_interface cs z ≡ false) where
  apart : (c : Id) → is_interface cs c ≡ true → id_eq c z ≡ false
  apart c i = by (cases_Bool (id_eq c z))
    where
      by : (id_eq c z ≡ true) ⊎ (id_eq c z ≡ false) → id_eq c z ≡ false
      by (inl e) = absurd (both_ways (is_interface cs z) class (subst (λ w. is_interface cs w ≡ true) (id_same c z e) i))
      by (inr e) = e

  from_interface : (m : ℕ) (c : Id) → is_interface cs c ≡ true → reaches m (parents cs) c z ≡ false
  from_interface zero c i = apart c i
  from_interface (suc m) c i =
      ap (λ b. b || list_any (λ d. reaches m (parents cs) d z) (parents cs c)) (apart c i)
      ∙ ap (λ q. list_any (λ d. reaches m (parents cs) d z) (listed q ++ interfaces_of cs c)) (o.no_super c i)
      ∙ none_of (λ d. reaches m (parents cs) d z) (interfaces_of cs c) (λ k n e. from_interface m k (o.interfaces_only c k n e))

  up_alone : (m : ℕ) (c : Id) → reaches m (parents cs) c z ≡ reaches m (above cs) c z
  up_alone zero c = refl
  up_alone (suc m) c =
      ap (λ b. id_eq c z || b)
      (list_any-append (λ d. reaches m (parents cs) d z) (above cs c) (interfaces_of cs c)
      ∙ ap (λ b. list_any (λ d. reaches m (parents cs) d z) (above cs c) || b) (none_of (λ d. reaches m (parents cs) d z) (interfaces_of cs c) (λ k n e. from_interface m k (o.interfaces_only c k n e)))
      ∙ or_false (list_any (λ d. reaches m (parents cs) d z) (above cs c))
      ∙ by (superclass_of cs c) (λ d. up_alone m d))
    where
      by : (q : Option Id) → ((d : Id) → reaches m (parents cs) d z ≡ reaches m (above cs) d z) → list_any (λ d. reaches m (parents cs) d z) (listed q) ≡ list_any (λ d. reaches m (above cs) d z) (listed q)
      by None ih = refl
      by (Some d) ih = ap (λ b. b || false) (ih d)

  pub class_reached : (c : Id) → is_sub cs c z ≡ is_or_implements cs c z
  class_reached c = sym (up_alone cs.size c)
