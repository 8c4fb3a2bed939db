-- Types with rows from 1 are judged as with rows from 0.
use Rattle.std.proofs.Common.{◌≡◌, Bool, true, false, ◌&&◌, List, [], ◌∷◌, map, Option, Some, None, refl, sym, ap, ◌∙◌}
use Rattle.std.specs.Option.{option_map}
use Rattle.std.specs.Prelude.{is_some}
use Rattle.std.proofs.lemmas.Bool.{and_parts}
use Rattle.machine.specs.Data.{CliType, Basic, EnumOf, ClassOf, ValueOf, ArrayOf, PlaceType, Plain, To, Cell, Bits, Refers, cell_of, elem_cell, type_eq}
use Rattle.machine.specs.Program.{Program, Access, Exact, Typed}
use Rattle.machine.specs.Numbers.{is_long, PlaceKind, Holds, HoldsPointer, HoldsHandle, kind_of_type}
use Rattle.machine_rename.specs.Rename.{access_to}
use Rattle.machine_typed.specs.Typing.{StackType, I, L, Nil, O, H, P, Never, ArrayKind, NullArray, ArrayWith, number, held, in_place, of_type, loaded, is_plain, is_number, is_bits, has_width, width_is, agree_by, agrees, assignable, all_assignable, sort_of, is_int, is_reference, pointee, array_of, pointer_takes, accessed, array_takes, element_loaded, element_takes}
use Rattle.machine_typed.proofs.Types.{type_same, type_here}
use Rattle.place_types.specs.Types.{classes_by, id_up, type_up, type_down, place_up, stack_up}
use Rattle.place_types.proofs.RowLaws.{type_back}
use Rattle.verify_ops.specs.Effects.{is_never}

abbrev pub access_up : Access → Access
access_up a = access_to (classes_by id_up) a

pub cell_up : (t : CliType) → cell_of (type_up t) ≡ cell_of t
cell_up (Basic e) = refl
cell_up (EnumOf e c) = refl
cell_up (ClassOf c) = refl
cell_up (ValueOf c) = refl
cell_up (ArrayOf t) = refl

pub type_eq_up : (a b : CliType) → type_eq (type_up a) (type_up b) ≡ type_eq a b
type_eq_up a b = at (type_eq (type_up a) (type_up b)) (type_eq a b) refl refl
  where
    at : (u v : Bool) → type_eq (type_up a) (type_up b) ≡ u → type_eq a b ≡ v → u ≡ v
    at true true h k = refl
    at false false h k = refl
    at false true h k = sym h ∙ (ap (λ t. type_eq (type_up t) (type_up b)) (type_same a b k) ∙ type_here (type_up b))
    at true false h k =
        let e : a ≡ b = sym (type_back a) ∙ (ap type_down (type_same (type_up a) (type_up b) h) ∙ type_back b) in
        sym (sym k ∙ (ap (λ t. type_eq t b) e ∙ type_here b))

pub plain_up : (t : CliType) → is_plain (type_up t) ≡ is_plain t
plain_up (Basic e) = refl
plain_up (EnumOf e c) = refl
plain_up (ClassOf c) = refl
plain_up (ValueOf c) = refl
plain_up (ArrayOf t) = plain_up t

pub number_up : (t : CliType) → is_number (type_up t) ≡ is_number t
number_up t = ap is_bits (cell_up t)

width_up : (t : CliType) (c : Cell) → has_width (type_up t) c ≡ has_width t c
width_up t c = ap (λ o. width_is o c) (cell_up t)

agrees_up : (a b : CliType) → agrees (type_up a) (type_up b) ≡ agrees a b
agrees_up a b =
    ap (λ o. agree_by o (cell_of (type_up b)) (type_eq (type_up a) (type_up b))) (cell_up a)
    ∙ (ap (λ o. agree_by (cell_of a) o (type_eq (type_up a) (type_up b))) (cell_up b)
    ∙ ap (agree_by (cell_of a) (cell_of b)) (type_eq_up a b))

pub number_kept : (b : Bool) → number b ≡ stack_up (number b)
number_kept true = refl
number_kept false = refl

held_up : (c : Cell) (t : CliType) → held c (type_up t) ≡ stack_up (held c t)
held_up (Bits i) t = number_kept (is_long i)
held_up Refers t = refl

in_place_up : (k : Option PlaceKind) (t : CliType) → in_place k (type_up t) ≡ stack_up (in_place k t)
in_place_up None t = refl
in_place_up (Some (Holds c)) t = held_up c t
in_place_up (Some (HoldsPointer c)) t = refl
in_place_up (Some HoldsHandle) t = refl

kind_up : (t : CliType) → kind_of_type (type_up t) ≡ kind_of_type t
kind_up (Basic e) = refl
kind_up (EnumOf e c) = refl
kind_up (ClassOf c) = refl
kind_up (ValueOf c) = refl
kind_up (ArrayOf t) = refl

pub of_type_up : (t : CliType) → of_type (type_up t) ≡ stack_up (of_type t)
of_type_up t = ap (λ k. in_place k (type_up t)) (kind_up t) ∙ in_place_up (kind_of_type t) t

pub loaded_up : (k : PlaceType) → loaded (place_up k) ≡ stack_up (loaded k)
loaded_up (Plain t) = of_type_up t
loaded_up (To t) = refl

pub all_loaded_up : (ks : List PlaceType) → map loaded (map place_up ks) ≡ map stack_up (map loaded ks)
all_loaded_up [] = refl
all_loaded_up (k ∷ ks) = ap (λ x. x ∷ map loaded (map place_up ks)) (loaded_up k) ∙ ap (λ xs. stack_up (loaded k) ∷ xs) (all_loaded_up ks)

pub sort_up : (t : StackType) → sort_of (stack_up t) ≡ sort_of t
sort_up I = refl
sort_up L = refl
sort_up Nil = refl
sort_up (O t) = refl
sort_up H = refl
sort_up (P t) = refl
sort_up Never = refl

pub int_up : (t : StackType) → is_int (stack_up t) ≡ is_int t
int_up I = refl
int_up L = refl
int_up Nil = refl
int_up (O t) = refl
int_up H = refl
int_up (P t) = refl
int_up Never = refl

pub reference_up : (t : StackType) → is_reference (stack_up t) ≡ is_reference t
reference_up I = refl
reference_up L = refl
reference_up Nil = refl
reference_up (O t) = refl
reference_up H = refl
reference_up (P t) = refl
reference_up Never = refl

pub never_up : (t : StackType) → is_never (stack_up t) ≡ is_never t
never_up I = refl
never_up L = refl
never_up Nil = refl
never_up (O t) = refl
never_up H = refl
never_up (P t) = refl
never_up Never = refl

pub pointee_up : (t : StackType) → pointee (stack_up t) ≡ option_map type_up (pointee t)
pointee_up I = refl
pointee_up L = refl
pointee_up Nil = refl
pointee_up (O t) = refl
pointee_up H = refl
pointee_up (P t) = refl
pointee_up Never = refl

abbrev pub array_up : ArrayKind → ArrayKind
array_up NullArray = NullArray
array_up (ArrayWith t) = ArrayWith (type_up t)

pub array_of_up : (t : StackType) → array_of (stack_up t) ≡ option_map array_up (array_of t)
array_of_up I = refl
array_of_up L = refl
array_of_up Nil = refl
array_of_up (O (Basic e)) = refl
array_of_up (O (EnumOf e c)) = refl
array_of_up (O (ClassOf c)) = refl
array_of_up (O (ValueOf c)) = refl
array_of_up (O (ArrayOf t)) = refl
array_of_up H = refl
array_of_up (P t) = refl
array_of_up Never = refl

pub pointer_takes_up : (a : Access) (t : CliType) → pointer_takes (access_up a) (type_up t) ≡ pointer_takes a t
pointer_takes_up (Exact c) t = width_up t c
pointer_takes_up (Typed o) t = ap (λ b. b && agrees (type_up t) (type_up o)) (plain_up o) ∙ ap (λ b. is_plain o && b) (agrees_up t o)

pub accessed_up : (a : Access) (t : CliType) → accessed (access_up a) (type_up t) ≡ stack_up (accessed a t)
accessed_up (Exact c) t = held_up c t
accessed_up (Typed o) t = of_type_up o

pub element_loaded_up : (a : Access) (k : ArrayKind) → element_loaded (access_up a) (array_up k) ≡ stack_up (element_loaded a k)
element_loaded_up (Exact (Bits i)) k = number_kept (is_long i)
element_loaded_up (Exact Refers) NullArray = refl
element_loaded_up (Exact Refers) (ArrayWith t) = refl
element_loaded_up (Typed o) k = of_type_up o

-- two orders of types, the one with rows from 1
module _ (p q : Program) (order : (a b : CliType) → q.fits (type_up a) (type_up b) ≡ p.fits a b) where
  pub assignable_up : (a b : StackType) → assignable q (stack_up a) (stack_up b) ≡ assignable p a b
  assignable_up I I = refl
  assignable_up I L = refl
  assignable_up I Nil = refl
  assignable_up I (O u) = refl
  assignable_up I H = refl
  assignable_up I (P u) = refl
  assignable_up I Never = refl
  assignable_up L I = refl
  assignable_up L L = refl
  assignable_up L Nil = refl
  assignable_up L (O u) = refl
  assignable_up L H = refl
  assignable_up L (P u) = refl
  assignable_up L Never = refl
  assignable_up Nil I = refl
  assignable_up Nil L = refl
  assignable_up Nil Nil = refl
  assignable_up Nil (O u) = refl
  assignable_up Nil H = refl
  assignable_up Nil (P u) = refl
  assignable_up Nil Never = refl
  assignable_up (O t) I = refl
  assignable_up (O t) L = refl
  assignable_up (O t) Nil = refl
  assignable_up (O t) (O u) = order t u
  assignable_up (O t) H = refl
  assignable_up (O t) (P u) = refl
  assignable_up (O t) Never = refl
  assignable_up H I = refl
  assignable_up H L = refl
  assignable_up H Nil = refl
  assignable_up H (O u) = refl
  assignable_up H H = refl
  assignable_up H (P u) = refl
  assignable_up H Never = refl
  assignable_up (P t) I = refl
  assignable_up (P t) L = refl
  assignable_up (P t) Nil = refl
  assignable_up (P t) (O u) = refl
  assignable_up (P t) H = refl
  assignable_up (P t) (P u) = agrees_up t u
  assignable_up (P t) Never = refl
  assignable_up Never I = refl
  assignable_up Never L = refl
  assignable_up Never Nil = refl
  assignable_up Never (O u) = refl
  assignable_up Never H = refl
  assignable_up Never (P u) = refl
  assignable_up Never Never = refl

  pub all_assignable_up : (us vs : List StackType) → all_assignable q (map stack_up us) (map stack_up vs) ≡ all_assignable p us vs
  all_assignable_up [] [] = refl
  all_assignable_up [] (v ∷ vs) = refl
  all_assignable_up (u ∷ us) [] = refl
  all_assignable_up (u ∷ us) (v ∷ vs) =
      ap (λ b. b && all_assignable q (map stack_up us) (map stack_up vs)) (assignable_up u v) ∙ ap (λ b. assignable p u v && b) (all_assignable_up us vs)

  pub array_takes_up : (a : Access) (k : ArrayKind) → array_takes q (access_up a) (array_up k) ≡ array_takes p a k
  array_takes_up (Exact c) NullArray = refl
  array_takes_up (Exact c) (ArrayWith t) = width_up t c
  array_takes_up (Typed o) NullArray = plain_up o
  array_takes_up (Typed o) (ArrayWith t) =
      ap (λ b. b && q.fits (type_up (ArrayOf t)) (type_up (ArrayOf o))) (plain_up o) ∙ ap (λ b. is_plain o && b) (order (ArrayOf t) (ArrayOf o))

  pub element_takes_up : (a : Access) (t : StackType) → element_takes q (access_up a) (stack_up t) ≡ element_takes p a t
  element_takes_up (Exact (Bits i)) t = ap (assignable q (stack_up t)) (number_kept (is_long i)) ∙ assignable_up t (number (is_long i))
  element_takes_up (Exact Refers) t = reference_up t
  element_takes_up (Typed o) t = ap (assignable q (stack_up t)) (of_type_up o) ∙ assignable_up t (of_type o)

-- ---- types that values have

pub number_has : (b : Bool) → is_never (number b) ≡ false
number_has true = refl
number_has false = refl

held_has : (c : Cell) (t : CliType) → is_never (held c t) ≡ false
held_has (Bits i) t = number_has (is_long i)
held_has Refers t = refl

basic_has : (o : Option Cell) (t : CliType) → is_some o ≡ true → is_never (in_place (option_map Holds o) t) ≡ false
basic_has None t h = absurd (cc h)
basic_has (Some c) t h = held_has c t

pub plain_has : (t : CliType) → is_plain t ≡ true → is_never (of_type t) ≡ false
plain_has (Basic e) h = basic_has (elem_cell e) (Basic e) h
plain_has (EnumOf e c) h = basic_has (elem_cell e) (EnumOf e c) h
plain_has (ClassOf c) h = refl
plain_has (ValueOf c) h = refl
plain_has (ArrayOf t) h = refl

pub accessed_has : (a : Access) (t : CliType) → pointer_takes a t ≡ true → is_never (accessed a t) ≡ false
accessed_has (Exact c) t h = held_has c t
accessed_has (Typed o) t h = plain_has o ((and_parts (is_plain o) (agrees t o) h).0)

pub element_has : (p : Program) (a : Access) (k : ArrayKind) → array_takes p a k ≡ true → is_never (element_loaded a k) ≡ false
element_has p (Exact (Bits i)) k h = number_has (is_long i)
element_has p (Exact Refers) NullArray h = refl
element_has p (Exact Refers) (ArrayWith t) h = refl
element_has p (Typed o) NullArray h = plain_has o h
element_has p (Typed o) (ArrayWith t) h = plain_has o ((and_parts (is_plain o) (p.fits (ArrayOf t) (ArrayOf o)) h).0)
