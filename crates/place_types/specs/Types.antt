-- Types of the world as the machine has them.
use Rattle.std.specs.Prelude.{◌≡◌, ℕ, zero, suc, ◌+◌, Bool, true, false, nat_eq, List, map, reverse, Option, Some, None}
use Rattle.plain_types.specs.declared.elem.Elem.{Elem}
use Rattle.plain_types.specs.declared.elem.Elem.TheVariants as elem
use Rattle.ecma_types.specs.declared.id.TypeId.{TypeId}
use Rattle.ecma_types.specs.declared.stack.PlaceType.{PlaceType as WorldPlace}
use Rattle.ecma_types.specs.declared.stack.StackType.{StackType as WorldType}
use Rattle.ecma_types.specs.declared.stack.StackType.TheVariants as world
use Rattle.machine.specs.Data.{Id, CliType, Basic, EnumOf, ClassOf, ValueOf, ArrayOf, PlaceType, Plain, To}
use Rattle.machine_rename.specs.Rename.{Renaming, type_to, place_type_to}
use Rattle.machine_typed.specs.Typing.{StackType, I, L, Nil, O, H, P, Never}

abbrev pub id_of : TypeId → Id
id_of t = record { file = t.file; row = t.row }

-- rows count from 1: an enum has its own, a primitive has none
abbrev pub number_by : Bool → Elem → Id → CliType
number_by true e c = Basic e
number_by false e c = EnumOf e c

abbrev pub number_type : Elem → TypeId → CliType
number_type e t = number_by (nat_eq t.row 0) e (id_of t)

-- a type without brackets; String, Object and void are themselves, whatever row stands beside them
abbrev pub base_type : Elem → TypeId → CliType
base_type elem.Void t = Basic elem.Void
base_type elem.String t = Basic elem.String
base_type elem.Object t = Basic elem.Object
base_type elem.Class t = ClassOf (id_of t)
base_type elem.Value t = ValueOf (id_of t)
base_type e t = number_type e t

abbrev pub arrays : ℕ → CliType → CliType
arrays zero type = type
arrays (suc n) type = ArrayOf (arrays n type)

-- the type that a place holds, or to which its pointers lead
abbrev pub type_of : WorldPlace → CliType
type_of t = arrays t.ranks (base_type t.elem t.of)

abbrev pub place_by : Bool → CliType → PlaceType
place_by true type = To type
place_by false type = Plain type

abbrev pub place_of : WorldPlace → PlaceType
place_of t = place_by t.pointer (type_of t)

abbrev pub stack_of : WorldType → StackType
stack_of world.I = I
stack_of world.L = L
stack_of world.Null = Nil
stack_of (world.O t) = O (type_of t)
stack_of (world.Pointer t) = P (type_of t)
stack_of world.H = H

-- no value has a type where there is none
abbrev pub stack_or_never : Option WorldType → StackType
stack_or_never None = Never
stack_or_never (Some t) = stack_of t

-- a stack, whose last type is the topmost one, from the topmost one down
abbrev pub from_top : List WorldType → List StackType
from_top ts = reverse (map stack_of ts)

-- ---- one spelling for each type

abbrev pub no_type : TypeId
no_type = record { file = 0; row = 0 }

abbrev pub row_or_none : Bool → TypeId → TypeId
row_or_none true t = no_type
row_or_none false t = t

-- the row beside an element, where it tells something
abbrev pub row_of_elem : Elem → TypeId → TypeId
row_of_elem elem.Void t = no_type
row_of_elem elem.String t = no_type
row_of_elem elem.Object t = no_type
row_of_elem elem.Class t = t
row_of_elem elem.Value t = t
row_of_elem e t = row_or_none (nat_eq t.row 0) t

abbrev pub spelt : WorldPlace → WorldPlace
spelt t = record { pointer = false; ranks = t.ranks; elem = t.elem; of = row_of_elem t.elem t.of }

-- a type as it is spelt
abbrev pub place_back : CliType → WorldPlace
place_back (Basic e) = record { pointer = false; ranks = 0; elem = e; of = no_type }
place_back (EnumOf e c) = record { pointer = false; ranks = 0; elem = e; of = record { file = c.file; row = c.row } }
place_back (ClassOf c) = record { pointer = false; ranks = 0; elem = elem.Class; of = record { file = c.file; row = c.row } }
place_back (ValueOf c) = record { pointer = false; ranks = 0; elem = elem.Value; of = record { file = c.file; row = c.row } }
place_back (ArrayOf t) = record (place_back t) { ranks = suc (place_back t).ranks }

-- which references the world lets stand for which, as the machine's types have it
pub record Agrees (is_assignable : WorldType → WorldType → Bool) (fits : CliType → CliType → Bool) : Type 0 where
  pub same : (a b : WorldPlace) → is_assignable (world.O (spelt a)) (world.O (spelt b)) ≡ fits (type_of a) (type_of b)

-- the order of types by that of their spellings
abbrev pub fits_by : (WorldType → WorldType → Bool) → CliType → CliType → Bool
fits_by is_assignable a b = is_assignable (world.O (place_back a)) (world.O (place_back b))

-- ---- types with every class renamed

abbrev pub classes_by : (Id → Id) → Renaming
classes_by f = record { type = f; method = λ m. m; field = λ g. g; place = λ m n. n }

abbrev pub stack_type_to : Renaming → StackType → StackType
stack_type_to r I = I
stack_type_to r L = L
stack_type_to r Nil = Nil
stack_type_to r (O t) = O (type_to r t)
stack_type_to r H = H
stack_type_to r (P t) = P (type_to r t)
stack_type_to r Never = Never

-- ---- from rows from 0 to rows from 1

abbrev pub id_up : Id → Id
id_up c = record { file = c.file; row = suc c.row }

abbrev pub type_up : CliType → CliType
type_up t = type_to (classes_by id_up) t

abbrev pub place_up : PlaceType → PlaceType
place_up t = place_type_to (classes_by id_up) t

abbrev pub stack_up : StackType → StackType
stack_up t = stack_type_to (classes_by id_up) t

-- ---- and back; row 0 is no row, and becomes one of a file that no world has (a world has at most 1002 files)

abbrev pub row_down : ℕ → ℕ → Id
row_down file zero = record { file = file + 65536; row = 0 }
row_down file (suc row) = record { file = file; row = row }

abbrev pub id_down : Id → Id
id_down c = row_down c.file c.row

abbrev pub type_down : CliType → CliType
type_down t = type_to (classes_by id_down) t

abbrev pub place_down : PlaceType → PlaceType
place_down t = place_type_to (classes_by id_down) t

abbrev pub stack_down : StackType → StackType
stack_down t = stack_type_to (classes_by id_down) t

-- ---- types of the world with rows from 0

abbrev pub stack_in : WorldType → StackType
stack_in t = stack_down (stack_of t)

-- a stack, whose last type is the topmost one, from the topmost one down
abbrev pub in_world : List WorldType → List StackType
in_world ts = map stack_down (from_top ts)
