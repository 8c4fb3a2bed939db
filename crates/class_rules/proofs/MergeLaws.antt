-- Assignable stack types are an order, and a merge lies above both.
use Rattle.std.proofs.Common.{◌≡◌, ◌⊎◌, inl, inr, ⊎_elim, ℕ, zero, suc, Bool, true, false, List, [], ◌∷◌, ◌++◌, Option, Some, None, refl, ap, ◌∙◌, subst}
use Rattle.std.specs.Prelude.{if◌then◌else◌, slice_get}
use Rattle.std.proofs.lemmas.Bool.{or_cases}
use Rattle.plain_types.specs.declared.elem.Elem.TheVariants as elem
use Rattle.machine.specs.Data.{Id, id_eq, Cell, Bits, Refers, CliType, Basic, EnumOf, ClassOf, ValueOf, ArrayOf, cell_of, type_eq}
use Rattle.machine.specs.Program.{Program}
use Rattle.machine_typed.specs.Typing.{StackType, I, L, Nil, O, H, P, Never, agree_by, agrees, assignable}
use Rattle.machine_typed.proofs.Types.{type_same, type_here, agree_up, width_here}
use Rattle.std.specs.Option.{option_map}
use Rattle.classes.specs.Code.{Sources}
use Rattle.classes.specs.Listed.{program_of}
use Rattle.classes.specs.Classes.{Classes, TypeKind, Reference, Builtin, Enumeration, OtherValue}
use Rattle.classes.specs.Queries.{reaches, above, parents, interfaces_of, is_sub, is_or_implements, chain, common_superclass, array, basic, class_of, type_by_kind, type_of_class, is_interface, is_object, fits}
use Rattle.class_rules.specs.Facts.{Order}
use Rattle.class_rules.specs.Merge.{stack_type_eq, object, of_arrays, above_both, of_classes, joined, merge_others, merge}
use Rattle.class_rules.proofs.Ways.{or_left, or_right, any_at, at_any}
use Rattle.class_rules.proofs.FitsLaws.{Single, OneBasic, OneEnum, OneClass, OneValue, Sort, IsOne, IsArray, sort, one, array_one, both_classes, both_some, same_fits, fits_up}
use Rattle.class_rules.proofs.Slots.{found, chain_reached}

agrees_self : (a : CliType) → agrees a a ≡ true
agrees_self a = by (cell_of a) (type_eq a a) (type_here a)
  where
    by : (o : Option Cell) (same : Bool) → same ≡ true → agree_by o o same ≡ true
    by None same e = e
    by (Some Refers) same e = e
    by (Some (Bits i)) same e = width_here (Bits i)

stack_same : (a b : StackType) → stack_type_eq a b ≡ true → a ≡ b
stack_same I I e = refl
stack_same L L e = refl
stack_same Nil Nil e = refl
stack_same H H e = refl
stack_same Never Never e = refl
stack_same (O a) (O b) e = ap O (type_same a b e)
stack_same (P a) (P b) e = ap P (type_same a b e)
stack_same I _ e = absurd (cc e)
stack_same L _ e = absurd (cc e)
stack_same Nil _ e = absurd (cc e)
stack_same H _ e = absurd (cc e)
stack_same Never _ e = absurd (cc e)
stack_same (O a) _ e = absurd (cc e)
stack_same (P a) _ e = absurd (cc e)

get_left : {A : Type 0} (xs ys : List A) (k : ℕ) (c : A) → slice_get xs k ≡ Some c → slice_get (xs ++ ys) k ≡ Some c
get_left [] ys k c e = absurd (cc e)
get_left (x ∷ xs) ys zero c e = e
get_left (x ∷ xs) ys (suc k) c e = get_left xs ys k c e

-- the superclass is a parent
pub sub_reaches : (cs : Classes) (n : ℕ) (a b : Id) → reaches n (above cs) a b ≡ true → reaches n (parents cs) a b ≡ true
sub_reaches cs zero a b e = e
sub_reaches cs (suc n) a b e =
    ⊎_elim
    (λ h. or_left (id_eq a b) _ h)
    (λ h. let r = any_at (λ c. reaches n (above cs) c b) (above cs a) h in
    or_right (id_eq a b) _ (at_any (λ c. reaches n (parents cs) c b) (parents cs a) r.0 r.1 (get_left (above cs a) (interfaces_of cs a) r.0 r.1 r.2) (sub_reaches cs n r.1 b r.3)))
    (or_cases (id_eq a b) _ e)

if_inv : {A : Type 0} (b : Bool) (t u c : Option A) → (if b then t else u) ≡ c → ((b ≡ true) × (t ≡ c)) ⊎ ((b ≡ false) × (u ≡ c))
if_inv true t u c e = inl (refl, e)
if_inv false t u c e = inr (refl, e)

module _ (x : Sources) (o : Order x.classes) (back : (c : Id) → class_of x.classes (type_of_class x.classes c) ≡ Some c) where
  abbrev p : Program
  p = program_of x

  abbrev cs : Classes
  cs = x.classes

  pub same : (a : StackType) → assignable p a a ≡ true
  same I = refl
  same L = refl
  same H = refl
  same Never = refl
  same Nil = refl
  same (O a) = same_fits cs o a
  same (P a) = agrees_self a

  pub up : (a b c : StackType) → assignable p a b ≡ true → assignable p b c ≡ true → assignable p a c ≡ true
  up I I c e h = h
  up L L c e h = h
  up H H c e h = h
  up Never Never c e h = h
  up Nil Nil c e h = h
  up Nil (O b) (O c) e h = refl
  up (O a) (O b) (O c) e h = fits_up cs o a b c e h
  up (P a) (P b) (P c) e h = agree_up a b c e h
  up Nil (O b) I e h = absurd (cc h)
  up Nil (O b) L e h = absurd (cc h)
  up Nil (O b) H e h = absurd (cc h)
  up Nil (O b) Never e h = absurd (cc h)
  up Nil (O b) Nil e h = absurd (cc h)
  up Nil (O b) (P c) e h = absurd (cc h)
  up (O a) (O b) I e h = absurd (cc h)
  up (O a) (O b) L e h = absurd (cc h)
  up (O a) (O b) H e h = absurd (cc h)
  up (O a) (O b) Never e h = absurd (cc h)
  up (O a) (O b) Nil e h = absurd (cc h)
  up (O a) (O b) (P c) e h = absurd (cc h)
  up (P a) (P b) I e h = absurd (cc h)
  up (P a) (P b) L e h = absurd (cc h)
  up (P a) (P b) H e h = absurd (cc h)
  up (P a) (P b) Never e h = absurd (cc h)
  up (P a) (P b) Nil e h = absurd (cc h)
  up (P a) (P b) (O c) e h = absurd (cc h)
  up I _ c e h = absurd (cc e)
  up L _ c e h = absurd (cc e)
  up H _ c e h = absurd (cc e)
  up Never _ c e h = absurd (cc e)
  up Nil _ c e h = absurd (cc e)
  up (O a) _ c e h = absurd (cc e)
  up (P a) _ c e h = absurd (cc e)

  single_kind : (k : Option TypeKind) (c : Id) → Single cs o (type_by_kind k c)
  single_kind None c = OneClass c
  single_kind (Some Reference) c = OneClass c
  single_kind (Some (Builtin e)) c = OneBasic e
  single_kind (Some (Enumeration e)) c = OneEnum e c
  single_kind (Some OtherValue) c = OneValue c

  single_class : (c : Id) → Single cs o (type_of_class cs c)
  single_class c = single_kind (option_map (λ k. k.kind) (cs.class c)) c

  to_object : (a : CliType) → fits cs a (Basic elem.Object) ≡ true
  to_object (ArrayOf a) = refl
  to_object (Basic e) = or_right (type_eq (Basic e) (Basic elem.Object)) _ refl
  to_object (EnumOf e c) = refl
  to_object (ClassOf c) = refl
  to_object (ValueOf c) = refl

  to_class : (a : CliType) (c k : Id) → class_of cs a ≡ Some c → is_or_implements cs c k ≡ true → fits cs a (type_of_class cs k) ≡ true
  to_class a c k e h = by a (sort cs o a) e
    where
      by : (a : CliType) → Sort cs o a → class_of cs a ≡ Some c → fits cs a (type_of_class cs k) ≡ true
      by a (IsOne b sb) e =
          one cs o b (type_of_class cs k) sb (single_class k)
          ∙ or_right (type_eq b (type_of_class cs k)) _ (or_right (is_object cs (type_of_class cs k)) _ (both_classes cs (class_of cs b) (class_of cs (type_of_class cs k)) c k e (back k) h))
      by a (IsArray b) e = absurd (cc e)

  to_arrays : (a : CliType) (c : Id) → array cs ≡ Some c → fits cs (ArrayOf a) (type_of_class cs c) ≡ true
  to_arrays a c e = array_one cs o a (type_of_class cs c) (single_class c) ∙ or_right (is_object cs (type_of_class cs c)) _ (both_some (class_of cs (type_of_class cs c)) (array cs) c (back c) e)

  Both : CliType → CliType → StackType → Type 0
  Both a b c = (assignable p (O a) c ≡ true) × (assignable p (O b) c ≡ true)

  both_objects : (a b : CliType) → Both a b object
  unfolding Both
  both_objects a b = (to_object a, to_object b)

  both_arrays : (a b : CliType) (q : Option Id) → array cs ≡ q → Both (ArrayOf a) (ArrayOf b) (of_arrays cs q)
  unfolding Both
  both_arrays a b None e = both_objects (ArrayOf a) (ArrayOf b)
  both_arrays a b (Some c) e = (to_arrays a c e, to_arrays b c e)

  both_above : (a b : CliType) (c d : Id) (q : Option Id) → class_of cs a ≡ Some c → class_of cs b ≡ Some d → common_superclass cs c d ≡ q → Both a b (above_both cs q)
  unfolding Both
  both_above a b c d None ea eb e = both_objects a b
  both_above a b c d (Some k) ea eb e =
      let f = found (λ z. is_sub cs d z) (chain cs c) k e in
      (to_class a c k ea (chain_reached cs cs.size f.0 c k f.1), to_class b d k eb (sub_reaches cs cs.size d k f.2))

  both_classes_of : (a b : CliType) (q r : Option Id) → class_of cs a ≡ q → class_of cs b ≡ r → Both a b (of_classes cs q r)
  unfolding Both
  both_classes_of a b None r ea eb = both_objects a b
  both_classes_of a b (Some c) None ea eb = both_objects a b
  both_classes_of a b (Some c) (Some d) ea eb = by (is_interface cs c) (is_interface cs d)
    where
      by : (i j : Bool) → Both a b (if i then object else (if j then object else above_both cs (common_superclass cs c d)))
      by true j = both_objects a b
      by false true = both_objects a b
      by false false = both_above a b c d (common_superclass cs c d) ea eb refl

  -- where one of them is no array
  joined_by : (a b : CliType) → Sort cs o a → Sort cs o b → Both a b (joined cs a b)
  joined_by a b (IsArray y) (IsArray z) = both_arrays y z (array cs) refl
  joined_by a b (IsArray y) (IsOne z sz) = by z sz
    where
      by : (z : CliType) → Single cs o z → Both (ArrayOf y) z (joined cs (ArrayOf y) z)
      by z (OneBasic e) = both_classes_of (ArrayOf y) (Basic e) None (basic cs e) refl refl
      by z (OneEnum e c) = both_classes_of (ArrayOf y) (EnumOf e c) None (Some c) refl refl
      by z (OneClass c) = both_classes_of (ArrayOf y) (ClassOf c) None (Some c) refl refl
      by z (OneValue c) = both_classes_of (ArrayOf y) (ValueOf c) None (Some c) refl refl
  joined_by a b (IsOne y sy) sb = by y sy
    where
      by : (y : CliType) → Single cs o y → Both y b (joined cs y b)
      by y (OneBasic e) = both_classes_of (Basic e) b (basic cs e) (class_of cs b) refl refl
      by y (OneEnum e c) = both_classes_of (EnumOf e c) b (Some c) (class_of cs b) refl refl
      by y (OneClass c) = both_classes_of (ClassOf c) b (Some c) (class_of cs b) refl refl
      by y (OneValue c) = both_classes_of (ValueOf c) b (Some c) (class_of cs b) refl refl

  others : (a b c : StackType) → merge_others cs a b ≡ Some c → (assignable p a c ≡ true) × (assignable p b c ≡ true)
  unfolding Both
  others (O a) (O b) c e = let is : joined cs a b ≡ c = cc e in subst (λ z. (assignable p (O a) z ≡ true) × (assignable p (O b) z ≡ true)) is (joined_by a b (sort cs o a) (sort cs o b))
  others I b c e = absurd (cc e)
  others L b c e = absurd (cc e)
  others H b c e = absurd (cc e)
  others Nil b c e = absurd (cc e)
  others Never b c e = absurd (cc e)
  others (P a) b c e = absurd (cc e)
  others (O a) _ c e = absurd (cc e)

  -- a merge lies above both
  pub merged : (a b c : StackType) → merge p cs a b ≡ Some c → (assignable p a c ≡ true) × (assignable p b c ≡ true)
  merged a b c e =
      ⊎_elim
      (λ h. let is : a ≡ c = (let g = h.1 in cc g) in let one = stack_same a b h.0 in (subst (λ z. assignable p a z ≡ true) is (same a), subst (λ z. assignable p z c ≡ true) one (subst (λ z. assignable p a z ≡ true) is (same a))))
      (λ h. ⊎_elim
      (λ g. let is : a ≡ c = (let g2 = g.1 in cc g2) in (subst (λ z. assignable p a z ≡ true) is (same a), subst (λ z. assignable p b z ≡ true) is g.0))
      (λ g. ⊎_elim
      (λ k. let is : b ≡ c = (let k2 = k.1 in cc k2) in (subst (λ z. assignable p a z ≡ true) is k.0, subst (λ z. assignable p b z ≡ true) is (same b)))
      (λ k. others a b c k.1)
      (if_inv (assignable p a b) (Some b) (merge_others cs a b) (Some c) g.1))
      (if_inv (assignable p b a) (Some a) _ (Some c) h.1))
      (if_inv (stack_type_eq a b) (Some a) _ (Some c) e)
