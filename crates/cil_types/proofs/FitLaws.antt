-- Which arrays fit where others are wanted, by their brackets.
use Rattle.std.proofs.Common.{◌≡◌, ◌⊎◌, inl, inr, ℕ, zero, suc, ◌<◌, Bool, true, false, Option, Some, None, refl, sym, ap, ◌∙◌, arith}
use Rattle.std.specs.Prelude.{◌&&◌, ◌||◌}
use Rattle.std.proofs.lemmas.Bool.{and_parts, cases_Bool}
use Rattle.cil_opcodes.specs.declared.shape.IntegerType.{IntegerType}
use Rattle.ecma_types.specs.declared.stack.PlaceType.{PlaceType as WorldPlace}
use Rattle.machine.specs.Data.{CliType, ArrayOf, Cell, Bits, Refers, cell_of, type_eq}
use Rattle.machine.specs.Numbers.{same_width}
use Rattle.machine_typed.specs.Typing.{agree_by, agrees, is_refers}
use Rattle.machine_typed.proofs.Types.{type_same, width_here}
use Rattle.classes.specs.Classes.{Classes}
use Rattle.classes.specs.Queries.{array, class_of, classes_fit, elements_by, fits, is_object, some_eq}
use Rattle.place_types.specs.Types.{arrays}
use Rattle.class_order.specs.declared.types.BaseType.{BaseType}
use Rattle.class_order.specs.declared.types.BaseType.TheVariants as base
use Rattle.class_order.specs.Types.{base_seen}
use Rattle.class_order.proofs.TypeLaws.{base_fits}
use Rattle.class_order.proofs.ReachLaws.{or_false}
use Rattle.cil_types.specs.Rows.{base_in, type_in}
use Rattle.cil_types.proofs.RowLaws.{array_no, no_array, place_in}

again : (t e : Bool) → (t || (t || e)) ≡ (t || e)
again true e = refl
again false e = refl

refers_by : (o : Option Cell) (f : Bool) → elements_by (Some Refers) o f ≡ (is_refers o && f)
refers_by None f = refl
refers_by (Some Refers) f = refl
refers_by (Some (Bits i)) f = refl

never_by : (o : Option Cell) → elements_by o (Some Refers) false ≡ false
never_by None = refl
never_by (Some Refers) = refl
never_by (Some (Bits i)) = refl

module _ (cs : Classes) where
  array_one : (a : CliType) (b : BaseType) → fits cs (ArrayOf a) (base_seen b) ≡ (is_object cs (base_seen b) || some_eq (class_of cs (base_seen b)) (array cs))
  array_one a (base.Basic e) = refl
  array_one a (base.EnumOf e c) = refl
  array_one a (base.ClassOf c) = refl
  array_one a (base.ValueOf c) = refl

  one_array : (a : BaseType) (b : CliType) → fits cs (base_seen a) (ArrayOf b) ≡ false
  one_array (base.Basic e) b = refl
  one_array (base.EnumOf e c) b = refl
  one_array (base.ClassOf c) b = refl
  one_array (base.ValueOf c) b = refl

  -- arrays of arrays fit as their elements do
  both_arrays : (a b : CliType) → fits cs (ArrayOf (ArrayOf a)) (ArrayOf (ArrayOf b)) ≡ fits cs (ArrayOf a) (ArrayOf b)
  both_arrays a b = again (type_eq a b) (elements_by (cell_of a) (cell_of b) (fits cs a b))

  fewer : (m n : ℕ) (a b : BaseType) → m < n → fits cs (arrays m (base_seen a)) (arrays n (base_seen b)) ≡ false
  fewer m zero a b low = absurd (omega arith)
  fewer zero (suc n) a b low = one_array a (arrays n (base_seen b))
  fewer (suc zero) (suc zero) a b low = absurd (omega arith)
  fewer (suc zero) (suc (suc n)) a b low =
      ap (λ t. t || elements_by (cell_of (base_seen a)) (Some Refers) (fits cs (base_seen a) (ArrayOf (arrays n (base_seen b))))) (no_array a (arrays n (base_seen b)))
      ∙ ap (elements_by (cell_of (base_seen a)) (Some Refers)) (one_array a (arrays n (base_seen b)))
      ∙ never_by (cell_of (base_seen a))
  fewer (suc (suc m)) (suc zero) a b low = absurd (omega arith)
  fewer (suc (suc m)) (suc (suc n)) a b low = both_arrays (arrays m (base_seen a)) (arrays n (base_seen b)) ∙ fewer (suc m) (suc n) a b (omega arith)

  as_many : (n : ℕ) (a b : BaseType) → fits cs (arrays (suc n) (base_seen a)) (arrays (suc n) (base_seen b)) ≡ (type_eq (base_seen a) (base_seen b) || elements_by (cell_of (base_seen a)) (cell_of (base_seen b)) (fits cs (base_seen a) (base_seen b)))
  as_many zero a b = refl
  as_many (suc n) a b = both_arrays (arrays n (base_seen a)) (arrays n (base_seen b)) ∙ as_many n a b

  more : (m n : ℕ) (a b : BaseType) → n < m → fits cs (arrays (suc m) (base_seen a)) (arrays (suc n) (base_seen b)) ≡ (is_refers (cell_of (base_seen b)) && (is_object cs (base_seen b) || some_eq (class_of cs (base_seen b)) (array cs)))
  more zero n a b low = absurd (omega arith)
  more (suc m) zero a b low =
      ap (λ t. t || elements_by (Some Refers) (cell_of (base_seen b)) (fits cs (ArrayOf (arrays m (base_seen a))) (base_seen b))) (array_no b (arrays m (base_seen a)))
      ∙ ap (elements_by (Some Refers) (cell_of (base_seen b))) (array_one (arrays m (base_seen a)) b)
      ∙ refers_by (cell_of (base_seen b)) (is_object cs (base_seen b) || some_eq (class_of cs (base_seen b)) (array cs))
  more (suc m) (suc n) a b low = both_arrays (arrays m (base_seen a)) (arrays n (base_seen b)) ∙ more m n a b (omega arith)

  -- ---- places

  module _ (s t : WorldPlace) (a b : BaseType) (at_a : base_seen a ≡ base_in s) (at_b : base_seen b ≡ base_in t) where
    by_ranks : fits cs (type_in s) (type_in t) ≡ fits cs (arrays s.ranks (base_seen a)) (arrays t.ranks (base_seen b))
    by_ranks = ap (λ x. fits cs x (type_in t)) (place_in s a at_a) ∙ ap (fits cs (arrays s.ranks (base_seen a))) (place_in t b at_b)

    pub fewer_brackets : s.ranks < t.ranks → fits cs (type_in s) (type_in t) ≡ false
    fewer_brackets low = by_ranks ∙ fewer s.ranks t.ranks a b low

    pub no_brackets : s.ranks ≡ 0 → t.ranks ≡ 0 → fits cs (type_in s) (type_in t) ≡ fits cs (base_seen a) (base_seen b)
    no_brackets e f = by_ranks ∙ ap (λ n. fits cs (arrays n (base_seen a)) (arrays t.ranks (base_seen b))) e ∙ ap (λ n. fits cs (base_seen a) (arrays n (base_seen b))) f

    pub same_brackets : s.ranks ≡ t.ranks → 0 < t.ranks → fits cs (type_in s) (type_in t) ≡ (type_eq (base_in s) (base_in t) || elements_by (cell_of (base_in s)) (cell_of (base_in t)) (fits cs (base_in s) (base_in t)))
    same_brackets e low =
        by_ranks
        ∙ ap (λ n. fits cs (arrays n (base_seen a)) (arrays t.ranks (base_seen b))) e
        ∙ go t.ranks low
        ∙ ap (λ x. type_eq x (base_seen b) || elements_by (cell_of x) (cell_of (base_seen b)) (fits cs x (base_seen b))) at_a
        ∙ ap (λ x. type_eq (base_in s) x || elements_by (cell_of (base_in s)) (cell_of x) (fits cs (base_in s) x)) at_b
      where
        go : (n : ℕ) → 0 < n → fits cs (arrays n (base_seen a)) (arrays n (base_seen b)) ≡ (type_eq (base_seen a) (base_seen b) || elements_by (cell_of (base_seen a)) (cell_of (base_seen b)) (fits cs (base_seen a) (base_seen b)))
        go zero low = absurd (omega arith)
        go (suc n) low = as_many n a b

    pub one_wanted : t.ranks < s.ranks → t.ranks ≡ 0 → fits cs (type_in s) (type_in t) ≡ (is_object cs (base_in t) || some_eq (class_of cs (base_in t)) (array cs))
    one_wanted low f =
        by_ranks
        ∙ ap (λ n. fits cs (arrays s.ranks (base_seen a)) (arrays n (base_seen b))) f
        ∙ go s.ranks (omega arith)
        ∙ ap (λ x. is_object cs x || some_eq (class_of cs x) (array cs)) at_b
      where
        go : (m : ℕ) → 0 < m → fits cs (arrays m (base_seen a)) (base_seen b) ≡ (is_object cs (base_seen b) || some_eq (class_of cs (base_seen b)) (array cs))
        go zero low = absurd (omega arith)
        go (suc m) low = array_one (arrays m (base_seen a)) b

    pub more_brackets : t.ranks < s.ranks → 0 < t.ranks → fits cs (type_in s) (type_in t) ≡ (is_refers (cell_of (base_in t)) && (is_object cs (base_in t) || some_eq (class_of cs (base_in t)) (array cs)))
    more_brackets low some = by_ranks ∙ go s.ranks t.ranks low some ∙ ap (λ x. is_refers (cell_of x) && (is_object cs x || some_eq (class_of cs x) (array cs))) at_b
      where
        go : (m n : ℕ) → n < m → 0 < n → fits cs (arrays m (base_seen a)) (arrays n (base_seen b)) ≡ (is_refers (cell_of (base_seen b)) && (is_object cs (base_seen b) || some_eq (class_of cs (base_seen b)) (array cs)))
        go m zero low some = absurd (omega arith)
        go zero (suc n) low some = absurd (omega arith)
        go (suc m) (suc n) low some = more m n a b (omega arith)

  -- ---- elements

  module _ (x y : CliType) where
    alike : (c f : Bool) → type_eq x y ≡ c → (type_eq x y ≡ true → f ≡ true) → (c || f) ≡ f
    alike true f e h = sym (h e)
    alike false f e h = refl

    as_wide : (i j : IntegerType) → Some (Bits i) ≡ Some (Bits j) → same_width (Bits i) (Bits j) ≡ true
    as_wide i j e = let same : Bits i ≡ Bits j = cc e in ap (same_width (Bits i)) (sym same) ∙ width_here (Bits i)

    different : (o q : Option Cell) → cell_of x ≡ o → cell_of y ≡ q → (o ≡ q → ⊥) → (type_eq x y || false) ≡ false
    different o q e f h = or_false (type_eq x y) ∙ go (cases_Bool (type_eq x y))
      where
        go : (type_eq x y ≡ true) ⊎ (type_eq x y ≡ false) → type_eq x y ≡ false
        go (inl same) = absurd (h (sym e ∙ ap cell_of (type_same x y same) ∙ f))
        go (inr apart) = apart

    pub other_elements : (is_refers (cell_of x) && is_refers (cell_of y)) ≡ false → (type_eq x y || elements_by (cell_of x) (cell_of y) (fits cs x y)) ≡ agrees x y
    other_elements h = go (cell_of x) (cell_of y) refl refl h
      where
        go : (o q : Option Cell) → cell_of x ≡ o → cell_of y ≡ q → (is_refers o && is_refers q) ≡ false → (type_eq x y || elements_by o q (fits cs x y)) ≡ agree_by o q (type_eq x y)
        go None None e f h = or_false (type_eq x y)
        go None (Some Refers) e f h = different None (Some Refers) e f (λ k. cc k)
        go None (Some (Bits j)) e f h = different None (Some (Bits j)) e f (λ k. cc k)
        go (Some Refers) None e f h = different (Some Refers) None e f (λ k. cc k)
        go (Some Refers) (Some Refers) e f h = absurd (cc h)
        go (Some Refers) (Some (Bits j)) e f h = different (Some Refers) (Some (Bits j)) e f (λ k. cc k)
        go (Some (Bits i)) None e f h = different (Some (Bits i)) None e f (λ k. cc k)
        go (Some (Bits i)) (Some Refers) e f h = different (Some (Bits i)) (Some Refers) e f (λ k. cc k)
        go (Some (Bits i)) (Some (Bits j)) e f h = alike (type_eq x y) (same_width (Bits i) (Bits j)) refl (λ k. as_wide i j (sym e ∙ ap cell_of (type_same x y k) ∙ f))

    refers_some : (o : Option Cell) → is_refers o ≡ true → o ≡ Some Refers
    refers_some None h = absurd (cc h)
    refers_some (Some (Bits i)) h = absurd (cc h)
    refers_some (Some Refers) h = refl

    pub reference_elements : (a b : BaseType) → base_seen a ≡ x → base_seen b ≡ y → (is_refers (cell_of x) && is_refers (cell_of y)) ≡ true → (type_eq x y || elements_by (cell_of x) (cell_of y) (fits cs x y)) ≡ fits cs (base_seen a) (base_seen b)
    reference_elements a b at_a at_b both =
        let parts = and_parts (is_refers (cell_of x)) (is_refers (cell_of y)) both in
        let e = refers_some (cell_of x) parts.0 in
        let f = refers_some (cell_of y) parts.1 in
        ap (λ o. type_eq x y || elements_by o (cell_of y) (fits cs x y)) e
        ∙ ap (λ o. type_eq x y || elements_by (Some Refers) o (fits cs x y)) f
        ∙ alike (type_eq x y) (fits cs x y) refl (λ h. ap (λ z. fits cs z y) (sym at_a) ∙ ap (fits cs (base_seen a)) (sym at_b) ∙ base_fits cs a b ∙ ap (λ z. type_eq z (base_seen b) || (is_object cs (base_seen b) || classes_fit cs (class_of cs (base_seen a)) (class_of cs (base_seen b)))) at_a ∙ ap (λ z. type_eq x z || (is_object cs (base_seen b) || classes_fit cs (class_of cs (base_seen a)) (class_of cs (base_seen b)))) at_b ∙ ap (λ t. t || (is_object cs (base_seen b) || classes_fit cs (class_of cs (base_seen a)) (class_of cs (base_seen b)))) h)
        ∙ ap (λ z. fits cs z y) (sym at_a)
        ∙ ap (fits cs (base_seen a)) (sym at_b)
