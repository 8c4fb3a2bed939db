-- The class that has a member, and what its methods take.
use Rattle.std.proofs.Common.{◌≡◌, suc, Bool, true, false, ◌&&◌, not, List, [], ◌∷◌, ◌++◌, map, length, Option, Some, None, refl, sym, ap, ◌∙◌, subst}
use Rattle.std.specs.Prelude.{if◌then◌else◌, nat_eq}
use Rattle.std.proofs.Math.Dec.{eqb-suc-zero}
use Rattle.std.proofs.lemmas.List.{length-map}
use Rattle.plain_types.specs.declared.elem.Elem.{Elem}
use Rattle.plain_types.specs.declared.elem.Elem.TheVariants as elem
use Rattle.ecma_types.specs.declared.id.TypeId.{TypeId}
use Rattle.ecma_types.specs.declared.stack.PlaceType.{PlaceType as WorldPlace}
use Rattle.machine.specs.Data.{Id, CliType, Basic, EnumOf, ClassOf, ValueOf, PlaceType, To, Cell, Bits, Refers, cell_of, elem_cell, type_eq}
use Rattle.machine.specs.Program.{Program}
use Rattle.machine_typed.specs.Typing.{StackType, I, L, Nil, O, H, P, Never, is_refers, agree_by, agrees, loaded, assignable, all_assignable, has_receiver, is_bits}
use Rattle.classes.specs.Classes.{Classes, Signature, TypeKind, Builtin, Enumeration, OtherValue, Reference}
use Rattle.classes.specs.Queries.{kind_of, type_by_kind, type_of_class, this_by, this_of}
use Rattle.classes.specs.Queries.{place_of as place_in}
use Rattle.classes.specs.Listed.{this_before}
use Rattle.class_rules.specs.Facts.{is_reference_class}
use Rattle.place_types.specs.Types.{id_of, number_by, base_type, arrays, type_of, place_by, place_of, id_up, type_up, place_up, stack_up}
use Rattle.place_types.specs.Held.{is_reference_type}
use Rattle.verify_ops.specs.declared.facts.MethodOperand.{MethodOperand}
use Rattle.verify_ops.specs.Facts.{this_place, receiver}
use Rattle.ecma_effects.specs.Known.{elem_of, IsClass, kind_fits}
use Rattle.ecma_effects.proofs.Renamed.{cell_up, loaded_up, all_loaded_up, all_assignable_up}

-- ---- a class's type

-- with its row, of whatever element
abbrev with_row : Elem → Id → CliType
with_row elem.Void c = Basic elem.Void
with_row elem.String c = Basic elem.String
with_row elem.Object c = Basic elem.Object
with_row elem.Class c = ClassOf c
with_row elem.Value c = ValueOf c
with_row e c = EnumOf e c

base_row : (e : Elem) (t : TypeId) → nat_eq t.row 0 ≡ false → base_type e t ≡ with_row e (id_of t)
base_row elem.Void t h = refl
base_row elem.Bool t h = ap (λ b. number_by b elem.Bool (id_of t)) h
base_row elem.Char t h = ap (λ b. number_by b elem.Char (id_of t)) h
base_row elem.I1 t h = ap (λ b. number_by b elem.I1 (id_of t)) h
base_row elem.U1 t h = ap (λ b. number_by b elem.U1 (id_of t)) h
base_row elem.I2 t h = ap (λ b. number_by b elem.I2 (id_of t)) h
base_row elem.U2 t h = ap (λ b. number_by b elem.U2 (id_of t)) h
base_row elem.I4 t h = ap (λ b. number_by b elem.I4 (id_of t)) h
base_row elem.U4 t h = ap (λ b. number_by b elem.U4 (id_of t)) h
base_row elem.I8 t h = ap (λ b. number_by b elem.I8 (id_of t)) h
base_row elem.U8 t h = ap (λ b. number_by b elem.U8 (id_of t)) h
base_row elem.String t h = refl
base_row elem.Object t h = refl
base_row elem.Class t h = refl
base_row elem.Value t h = refl

class_row : (cs : Classes) (c : Id) (t : WorldPlace) → IsClass cs c t → type_of t ≡ with_row (elem_of (kind_of cs c)) (id_up c)
class_row cs c t k =
    ap (λ n. arrays n (base_type t.elem t.of)) k.single
    ∙ (ap (λ e. base_type e t.of) k.element
    ∙ (base_row (elem_of (kind_of cs c)) t.of (ap (λ (i : Id). nat_eq i.row 0) k.row ∙ eqb-suc-zero c.row)
    ∙ ap (with_row (elem_of (kind_of cs c))) k.row))

-- ---- `this`

-- where it stands as an argument's place, the two types are one
abbrev Target : CliType → CliType → Type 0
Target a b = (q : Program) (u : StackType) → assignable q u (loaded (this_by (cell_of a) a)) ≡ assignable q u (loaded (this_by (cell_of b) b))

record SameClass (a b : CliType) : Type 0 where
  cell : cell_of a ≡ cell_of b
  target : Target a b

abbrev same_one : (a : CliType) → SameClass a a
same_one a = record { cell = refl; target = λ q u. refl }

-- a number's type is another's of the same element, where pointers to it are taken
bits_target : (a : CliType) (x y : CliType) (o : Option Cell) → is_bits o ≡ true → cell_of x ≡ o → cell_of y ≡ o → agrees a x ≡ agrees a y
bits_target a x y o h e f =
    ap (λ c. agree_by (cell_of a) c (type_eq a x)) e
    ∙ (at (cell_of a) o (type_eq a x) (type_eq a y) h
    ∙ sym (ap (λ c. agree_by (cell_of a) c (type_eq a y)) f))
  where
    at : (u o : Option Cell) (s s' : Bool) → is_bits o ≡ true → agree_by u o s ≡ agree_by u o s'
    at None (Some (Bits j)) s s' h = refl
    at (Some (Bits i)) (Some (Bits j)) s s' h = refl
    at (Some Refers) (Some (Bits j)) s s' h = refl
    at None None s s' h = absurd (cc h)
    at (Some c) None s s' h = absurd (cc h)
    at None (Some Refers) s s' h = absurd (cc h)
    at (Some c) (Some Refers) s s' h = absurd (cc h)

pointers : (q : Program) (x y : CliType) → ((a : CliType) → agrees a x ≡ agrees a y) → (u : StackType) → assignable q u (P x) ≡ assignable q u (P y)
pointers q x y f I = refl
pointers q x y f L = refl
pointers q x y f Nil = refl
pointers q x y f (O t) = refl
pointers q x y f H = refl
pointers q x y f (P t) = f t
pointers q x y f Never = refl

this_bits : (o : Option Cell) (t : CliType) → is_bits o ≡ true → this_by o t ≡ To t
this_bits (Some (Bits i)) t h = refl
this_bits (Some Refers) t h = absurd (cc h)
this_bits None t h = absurd (cc h)

number_class : (x y : CliType) (o : Option Cell) → is_bits o ≡ true → cell_of x ≡ o → cell_of y ≡ o → SameClass x y
number_class x y o h e f = record {
  cell = e ∙ sym f;
  target = λ q u. ap (λ (k : PlaceType). assignable q u (loaded k)) (ap (λ c. this_by c x) e ∙ this_bits o x h) ∙ (pointers q x y (λ a. bits_target a x y o h e f) u ∙ sym (ap (λ (k : PlaceType). assignable q u (loaded k)) (ap (λ c. this_by c y) f ∙ this_bits o y h)));
}

no_case : {A : Type 0} → false ≡ true → A
no_case h = absurd (cc h)

kind_same : (k : Option TypeKind) (c : Id) → kind_fits k ≡ true → SameClass (with_row (elem_of k) (id_up c)) (type_up (type_by_kind k c))
kind_same (Some (Builtin elem.Void)) c h = no_case h
kind_same (Some (Builtin elem.Bool)) c h = number_class (EnumOf elem.Bool (id_up c)) (Basic elem.Bool) (elem_cell elem.Bool) refl refl refl
kind_same (Some (Builtin elem.Char)) c h = number_class (EnumOf elem.Char (id_up c)) (Basic elem.Char) (elem_cell elem.Char) refl refl refl
kind_same (Some (Builtin elem.I1)) c h = number_class (EnumOf elem.I1 (id_up c)) (Basic elem.I1) (elem_cell elem.I1) refl refl refl
kind_same (Some (Builtin elem.U1)) c h = number_class (EnumOf elem.U1 (id_up c)) (Basic elem.U1) (elem_cell elem.U1) refl refl refl
kind_same (Some (Builtin elem.I2)) c h = number_class (EnumOf elem.I2 (id_up c)) (Basic elem.I2) (elem_cell elem.I2) refl refl refl
kind_same (Some (Builtin elem.U2)) c h = number_class (EnumOf elem.U2 (id_up c)) (Basic elem.U2) (elem_cell elem.U2) refl refl refl
kind_same (Some (Builtin elem.I4)) c h = number_class (EnumOf elem.I4 (id_up c)) (Basic elem.I4) (elem_cell elem.I4) refl refl refl
kind_same (Some (Builtin elem.U4)) c h = number_class (EnumOf elem.U4 (id_up c)) (Basic elem.U4) (elem_cell elem.U4) refl refl refl
kind_same (Some (Builtin elem.I8)) c h = number_class (EnumOf elem.I8 (id_up c)) (Basic elem.I8) (elem_cell elem.I8) refl refl refl
kind_same (Some (Builtin elem.U8)) c h = number_class (EnumOf elem.U8 (id_up c)) (Basic elem.U8) (elem_cell elem.U8) refl refl refl
kind_same (Some (Builtin elem.String)) c h = same_one (Basic elem.String)
kind_same (Some (Builtin elem.Object)) c h = same_one (Basic elem.Object)
kind_same (Some (Builtin elem.Class)) c h = no_case h
kind_same (Some (Builtin elem.Value)) c h = no_case h
kind_same (Some (Enumeration elem.Void)) c h = no_case h
kind_same (Some (Enumeration elem.Bool)) c h = no_case h
kind_same (Some (Enumeration elem.Char)) c h = no_case h
kind_same (Some (Enumeration elem.I1)) c h = same_one (EnumOf elem.I1 (id_up c))
kind_same (Some (Enumeration elem.U1)) c h = same_one (EnumOf elem.U1 (id_up c))
kind_same (Some (Enumeration elem.I2)) c h = same_one (EnumOf elem.I2 (id_up c))
kind_same (Some (Enumeration elem.U2)) c h = same_one (EnumOf elem.U2 (id_up c))
kind_same (Some (Enumeration elem.I4)) c h = same_one (EnumOf elem.I4 (id_up c))
kind_same (Some (Enumeration elem.U4)) c h = same_one (EnumOf elem.U4 (id_up c))
kind_same (Some (Enumeration elem.I8)) c h = same_one (EnumOf elem.I8 (id_up c))
kind_same (Some (Enumeration elem.U8)) c h = same_one (EnumOf elem.U8 (id_up c))
kind_same (Some (Enumeration elem.String)) c h = no_case h
kind_same (Some (Enumeration elem.Object)) c h = no_case h
kind_same (Some (Enumeration elem.Class)) c h = no_case h
kind_same (Some (Enumeration elem.Value)) c h = no_case h
kind_same (Some OtherValue) c h = same_one (ValueOf (id_up c))
kind_same (Some Reference) c h = same_one (ClassOf (id_up c))
kind_same None c h = same_one (ClassOf (id_up c))

module _ (cs : Classes) (c : Id) (t : WorldPlace) (is : IsClass cs c t) (well : kind_fits (kind_of cs c) ≡ true) where
  same_class : SameClass (type_of t) (type_up (type_of_class cs c))
  same_class = subst (λ x. SameClass x (type_up (type_of_class cs c))) (sym (class_row cs c t is)) (kind_same (kind_of cs c) c well)

  pub class_cell : cell_of (type_of t) ≡ cell_of (type_of_class cs c)
  class_cell = same_class.cell ∙ cell_up (type_of_class cs c)

  pub class_refers : is_reference_type t ≡ is_reference_class cs c
  class_refers = ap is_refers class_cell

  this_form : place_of (this_place t) ≡ this_by (cell_of (type_of t)) (type_of t)
  this_form = at (cell_of (type_of t)) (type_of t)
    where
      at : (o : Option Cell) (x : CliType) → place_by (not (is_refers o)) x ≡ this_by o x
      at None x = refl
      at (Some Refers) x = refl
      at (Some (Bits i)) x = refl

  this_up : place_up (this_of cs c) ≡ this_by (cell_of (type_up (type_of_class cs c))) (type_up (type_of_class cs c))
  this_up = ap (λ o. place_up (this_by o (type_of_class cs c))) (sym (cell_up (type_of_class cs c))) ∙ at (cell_of (type_up (type_of_class cs c))) (type_of_class cs c)
    where
      at : (o : Option Cell) (x : CliType) → place_up (this_by o x) ≡ this_by o (type_up x)
      at None x = refl
      at (Some Refers) x = refl
      at (Some (Bits i)) x = refl

  pub this_target : (q : Program) (u : StackType) → assignable q u (loaded (place_of (this_place t))) ≡ assignable q u (stack_up (loaded (this_of cs c)))
  this_target q u =
      ap (λ (k : PlaceType). assignable q u (loaded k)) this_form
      ∙ (same_class.target q u
      ∙ (ap (λ (k : PlaceType). assignable q u (loaded k)) (sym this_up) ∙ ap (assignable q u) (loaded_up (this_of cs c))))

-- ---- arguments

-- as many, which take the same
pub record Arguments (ks ks' : List PlaceType) : Type 0 where
  pub count : length ks' ≡ length ks
  pub takes : (p q : Program) → ((a b : CliType) → q.fits (type_up a) (type_up b) ≡ p.fits a b) → (us : List StackType) → all_assignable q (map stack_up us) (map loaded ks') ≡ all_assignable p us (map loaded ks)

pub same_arguments : (ks : List PlaceType) → Arguments ks (map place_up ks)
same_arguments ks = record {
  count = length-map ks place_up;
  takes = λ p q order us. ap (all_assignable q (map stack_up us)) (all_loaded_up ks) ∙ all_assignable_up p q order us (map loaded ks);
}

first_target : (q : Program) (us : List StackType) (a b : StackType) (rest : List StackType) → ((u : StackType) → assignable q u a ≡ assignable q u b) → all_assignable q us (a ∷ rest) ≡ all_assignable q us (b ∷ rest)
first_target q [] a b rest f = refl
first_target q (u ∷ us) a b rest f = ap (λ c. c && all_assignable q us rest) (f u)

module _ (cs : Classes) (c : Id) (t : WorldPlace) (is : IsClass cs c t) (well : kind_fits (kind_of cs c) ≡ true) where
  pub with_this : (ks : List PlaceType) → Arguments (this_of cs c ∷ ks) (place_of (this_place t) ∷ map place_up ks)
  with_this ks = record {
    count = ap suc (length-map ks place_up);
    takes = λ p q order us.
        first_target q (map stack_up us) (loaded (place_of (this_place t))) (stack_up (loaded (this_of cs c))) (map loaded (map place_up ks)) (this_target cs c t is well q)
        ∙ (ap (λ vs. all_assignable q (map stack_up us) (stack_up (loaded (this_of cs c)) ∷ vs)) (all_loaded_up ks)
        ∙ all_assignable_up p q order us (loaded (this_of cs c) ∷ map loaded ks));
  }

  -- all that a method takes
  pub method_takes : (m : MethodOperand) (s : Signature) → m.class ≡ t → m.this ≡ s.has_this → map place_of m.params.now ≡ map place_up (map (place_in cs) s.parameters)
      → Arguments (this_before cs c s ++ map (place_in cs) s.parameters) (map place_of (receiver m ++ m.params.now))
  method_takes m s e h ps =
      subst (λ (x : WorldPlace). Arguments (this_before cs c s ++ map (place_in cs) s.parameters) (map place_of ((if m.this then this_place x ∷ [] else []) ++ m.params.now))) (sym e)
      (subst (λ b. Arguments (this_before cs c s ++ map (place_in cs) s.parameters) (map place_of ((if b then this_place t ∷ [] else []) ++ m.params.now))) (sym h)
      (at s.has_this))
    where
      at : (b : Bool) → Arguments ((if b then this_of cs c ∷ [] else []) ++ map (place_in cs) s.parameters) (map place_of ((if b then this_place t ∷ [] else []) ++ m.params.now))
      at true = subst (λ ks. Arguments (this_of cs c ∷ map (place_in cs) s.parameters) (place_of (this_place t) ∷ ks)) (sym ps) (with_this (map (place_in cs) s.parameters))
      at false = subst (λ ks. Arguments (map (place_in cs) s.parameters) ks) (sym ps) (same_arguments (map (place_in cs) s.parameters))

-- ---- a method of a class or an interface takes a reference

receives : (b : Bool) (x : CliType) (ks : List PlaceType) → is_refers (cell_of x) ≡ b → has_receiver (place_by (not b) x ∷ ks) ≡ b
receives true x ks h = h
receives false x ks h = refl

pub place_receives : (t : WorldPlace) (ks : List PlaceType) → has_receiver (place_of (this_place t) ∷ ks) ≡ is_reference_type t
place_receives t ks = receives (is_reference_type t) (type_of t) ks refl

pub class_receives : (cs : Classes) (c : Id) (ks : List PlaceType) → is_reference_class cs c ≡ true → has_receiver (this_of cs c ∷ ks) ≡ true
class_receives cs c ks h = at (cell_of (type_of_class cs c)) (type_of_class cs c) refl h
  where
    at : (o : Option Cell) (x : CliType) → cell_of x ≡ o → is_refers o ≡ true → has_receiver (this_by o x ∷ ks) ≡ true
    at (Some Refers) x e h = ap is_refers e
    at (Some (Bits i)) x e h = absurd (cc h)
    at None x e h = absurd (cc h)
