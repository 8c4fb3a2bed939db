-- What two types leave where neither is assignable to the other, and where one is.
use Rattle.std.proofs.Common.{◌≡◌, ◌⊎◌, inl, inr, ℕ, zero, suc, ◌<◌, Bool, true, false, Option, Some, None, refl, sym, ap, ◌∙◌, arith}
use Rattle.std.specs.Prelude.{if◌then◌else◌, IfSome}
use Rattle.std.specs.Option.{option_map}
use Rattle.std.proofs.lemmas.Bool.{cases_Bool, both_ways}
use Rattle.ecma_types.specs.declared.stack.PlaceType.{PlaceType as WorldPlace}
use Rattle.ecma_types.specs.declared.stack.StackType.{StackType as WorldType}
use Rattle.machine.specs.Data.{Id, Cell, Bits, Refers, CliType, Basic, EnumOf, ClassOf, ValueOf, ArrayOf, cell_of, type_eq}
use Rattle.machine.specs.Program.{Program}
use Rattle.machine_typed.specs.Typing.{StackType, I, L, Nil, O, H, P, Never, agree_by, agrees, assignable}
use Rattle.machine_typed.proofs.Types.{type_same, type_here, width_here}
use Rattle.classes.specs.Classes.{Classes}
use Rattle.classes.specs.Queries.{array, class_of, elements_by, fits}
use Rattle.class_rules.specs.Merge.{above_both, joined, merge, merge_others, of_arrays, of_classes, stack_type_eq}
use Rattle.class_rules.proofs.Ways.{or_left}
use Rattle.place_types.specs.Types.{arrays, stack_down, stack_in, stack_of, stack_up}
use Rattle.place_types.proofs.RowLaws.{stack_comes}
use Rattle.class_order.specs.declared.types.BaseType.{BaseType}
use Rattle.class_order.specs.declared.types.BaseType.TheVariants as base
use Rattle.class_order.specs.Types.{base_seen}
use Rattle.cil_types.specs.Rows.{FitsAs, HasRow, base_in, type_in}
use Rattle.cil_types.proofs.RowLaws.{place_in}

module _ (cs : Classes) where
  -- ---- two references

  pub array_class : (o : Option Id) → of_arrays cs o ≡ above_both cs o
  array_class None = refl
  array_class (Some c) = refl

  some_brackets : (m n : ℕ) (x y : CliType) → 0 < m → 0 < n → joined cs (arrays m x) (arrays n y) ≡ of_arrays cs (array cs)
  some_brackets zero n x y h k = absurd (omega (arith, h))
  some_brackets (suc m) zero x y h k = absurd (omega (arith, k))
  some_brackets (suc m) (suc n) x y h k = refl

  one_base : (a : BaseType) (y : CliType) → joined cs (base_seen a) y ≡ of_classes cs (class_of cs (base_seen a)) (class_of cs y)
  one_base (base.Basic e) y = refl
  one_base (base.EnumOf e c) y = refl
  one_base (base.ClassOf c) y = refl
  one_base (base.ValueOf c) y = refl

  other_base : (x : CliType) (b : BaseType) → joined cs (ArrayOf x) (base_seen b) ≡ of_classes cs (class_of cs (ArrayOf x)) (class_of cs (base_seen b))
  other_base x (base.Basic e) = refl
  other_base x (base.EnumOf e c) = refl
  other_base x (base.ClassOf c) = refl
  other_base x (base.ValueOf c) = refl

  module _ (s t : WorldPlace) (a b : BaseType) (at_a : base_seen a ≡ base_in s) (at_b : base_seen b ≡ base_in t) where
    by_brackets : joined cs (type_in s) (type_in t) ≡ joined cs (arrays s.ranks (base_seen a)) (arrays t.ranks (base_seen b))
    by_brackets = ap (λ x. joined cs x (type_in t)) (place_in s a at_a) ∙ ap (joined cs (arrays s.ranks (base_seen a))) (place_in t b at_b)

    pub both_arrays : 0 < s.ranks → 0 < t.ranks → joined cs (type_in s) (type_in t) ≡ above_both cs (array cs)
    both_arrays h k = by_brackets ∙ some_brackets s.ranks t.ranks (base_seen a) (base_seen b) h k ∙ array_class (array cs)

    pub not_both : (0 < s.ranks → t.ranks ≡ 0) → joined cs (type_in s) (type_in t) ≡ of_classes cs (class_of cs (type_in s)) (class_of cs (type_in t))
    not_both h =
        by_brackets
        ∙ go s.ranks t.ranks h
        ∙ ap (λ x. of_classes cs (class_of cs x) (class_of cs (arrays t.ranks (base_seen b)))) (sym (place_in s a at_a))
        ∙ ap (λ y. of_classes cs (class_of cs (type_in s)) (class_of cs y)) (sym (place_in t b at_b))
      where
        go : (m n : ℕ) → (0 < m → n ≡ 0) → joined cs (arrays m (base_seen a)) (arrays n (base_seen b)) ≡ of_classes cs (class_of cs (arrays m (base_seen a))) (class_of cs (arrays n (base_seen b)))
        go zero n h = one_base a (arrays n (base_seen b))
        go (suc m) zero h = other_base (arrays m (base_seen a)) b
        go (suc m) (suc n) h = absurd (let e = h (omega arith) in omega (arith, e))

  pub no_class : (t : WorldPlace) (b : BaseType) → base_seen b ≡ base_in t → 0 < t.ranks → class_of cs (type_in t) ≡ None
  no_class t b at low = ap (class_of cs) (place_in t b at) ∙ go t.ranks low
    where
      go : (n : ℕ) → 0 < n → class_of cs (arrays n (base_seen b)) ≡ None
      go zero h = absurd (omega (arith, h))
      go (suc n) h = refl

  pub base_class : (t : WorldPlace) (b : BaseType) → base_seen b ≡ base_in t → t.ranks ≡ 0 → class_of cs (type_in t) ≡ class_of cs (base_seen b)
  base_class t b at none = ap (class_of cs) (place_in t b at) ∙ ap (λ n. class_of cs (arrays n (base_seen b))) none

  -- ---- the first case that fits

  itself : (a : CliType) → fits cs a a ≡ true
  itself (ArrayOf a) = or_left (type_eq a a) (elements_by (cell_of a) (cell_of a) (fits cs a a)) (type_here a)
  itself (Basic e) = or_left (type_eq (Basic e) (Basic e)) _ (type_here (Basic e))
  itself (EnumOf e c) = or_left (type_eq (EnumOf e c) (EnumOf e c)) _ (type_here (EnumOf e c))
  itself (ClassOf c) = or_left (type_eq (ClassOf c) (ClassOf c)) _ (type_here (ClassOf c))
  itself (ValueOf c) = or_left (type_eq (ValueOf c) (ValueOf c)) _ (type_here (ValueOf c))

  agrees_itself : (a : CliType) → agrees a a ≡ true
  agrees_itself a = by (cell_of a) (type_eq a a) (type_here a)
    where
      by : (o : Option Cell) (same : Bool) → same ≡ true → agree_by o o same ≡ true
      by None same e = e
      by (Some Refers) same e = e
      by (Some (Bits i)) same e = width_here (Bits i)

  module _ (p : Program) (same : FitsAs cs p) where
    alike : (a b : StackType) → stack_type_eq a b ≡ true → assignable p b a ≡ true
    alike I I e = refl
    alike L L e = refl
    alike Nil Nil e = refl
    alike H H e = refl
    alike Never Never e = refl
    alike (O a) (O b) e = same b a ∙ ap (fits cs b) (type_same a b e) ∙ itself b
    alike (P a) (P b) e = ap (agrees b) (type_same a b e) ∙ agrees_itself b
    alike I _ e = absurd (cc e)
    alike L _ e = absurd (cc e)
    alike Nil _ e = absurd (cc e)
    alike H _ e = absurd (cc e)
    alike Never _ e = absurd (cc e)
    alike (O a) _ e = absurd (cc e)
    alike (P a) _ e = absurd (cc e)

    pub merge_first : (a b : StackType) → assignable p b a ≡ true → Some a ≡ merge p cs a b
    merge_first a b e = go (stack_type_eq a b) (assignable p b a) e
      where
        go : (eq fit : Bool) → fit ≡ true → Some a ≡ (if eq then Some a else if fit then Some a else if assignable p a b then Some b else merge_others cs a b)
        go true fit h = refl
        go false true h = refl
        go false false h = absurd (cc h)

    apart : (a b : StackType) → assignable p b a ≡ false → stack_type_eq a b ≡ false
    apart a b e = go (cases_Bool (stack_type_eq a b))
      where
        go : (stack_type_eq a b ≡ true) ⊎ (stack_type_eq a b ≡ false) → stack_type_eq a b ≡ false
        go (inl h) = absurd (both_ways (assignable p b a) e (alike a b h))
        go (inr h) = h

    past_first : (a b : StackType) → assignable p b a ≡ false → merge p cs a b ≡ (if assignable p a b then Some b else merge_others cs a b)
    past_first a b e =
        ap (λ t. if t then Some a else if assignable p b a then Some a else if assignable p a b then Some b else merge_others cs a b) (apart a b e)
        ∙ ap (λ t. if t then Some a else if assignable p a b then Some b else merge_others cs a b) e

    pub merge_second : (a b : StackType) → assignable p b a ≡ false → assignable p a b ≡ true → Some b ≡ merge p cs a b
    merge_second a b e h = sym (past_first a b e ∙ ap (λ t. if t then Some b else merge_others cs a b) h)

    pub merge_rest : (a b : StackType) → assignable p b a ≡ false → assignable p a b ≡ false → merge_others cs a b ≡ merge p cs a b
    merge_rest a b e h = sym (past_first a b e ∙ ap (λ t. if t then Some b else merge_others cs a b) h)

-- ---- spellings

pub comes_down : (both : Option WorldType) (u : Option StackType) → option_map stack_of both ≡ option_map stack_up u → option_map stack_in both ≡ u
comes_down None None e = refl
comes_down None (Some u) e = absurd (cc e)
comes_down (Some t) None e = absurd (cc e)
comes_down (Some t) (Some u) e = let one : stack_of t ≡ stack_up u = cc e in ap (λ x. Some (stack_down x)) one ∙ ap Some (stack_comes u)

pub has_row : (both : Option WorldType) (u : Option StackType) → option_map stack_of both ≡ option_map stack_up u → IfSome both HasRow
has_row None u e = tt
has_row (Some t) None e = absurd (cc e)
has_row (Some t) (Some u) e =
    let one : stack_of t ≡ stack_up u = cc e in
    ap (λ x. stack_up (stack_down x)) one ∙ (ap stack_up (stack_comes u) ∙ sym one)
