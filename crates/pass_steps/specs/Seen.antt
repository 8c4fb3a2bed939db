-- The types of the code's stacks as the pass has them.
use Rattle.std.specs.Prelude.{◌≡◌, ◌-◌, Bool, true, false, nat_eq, Option}
use Rattle.std.specs.Option.{option_map}
use Rattle.plain_types.specs.declared.elem.Elem.{Elem}
use Rattle.plain_types.specs.declared.elem.Elem.TheVariants as elem
use Rattle.ecma_types.specs.declared.id.TypeId.{TypeId}
use Rattle.ecma_types.specs.declared.stack.PlaceType.{PlaceType as WorldPlace}
use Rattle.ecma_types.specs.declared.stack.StackType.{StackType as WorldType}
use Rattle.ecma_types.specs.declared.stack.StackType.TheVariants as world
use Rattle.machine.specs.Data.{Id, CliType}
use Rattle.machine_rename.specs.Rename.{type_to}
use Rattle.machine_typed.specs.Typing.{StackType, assignable}
use Rattle.classes.specs.Code.{Sources}
use Rattle.classes.specs.Listed.{program_of}
use Rattle.classes.specs.Queries.{fits}
use Rattle.class_rules.specs.Merge.{merge}
use Rattle.place_types.specs.Types.{classes_by, stack_of, stack_type_to}

-- rows from 1 as rows from 0; row 0, which no type has, is read as row 1
abbrev pub id_seen : Id → Id
id_seen c = record { file = c.file; row = c.row - 1 }

abbrev pub seen_as : StackType → StackType
seen_as t = stack_type_to (classes_by id_seen) t

abbrev pub stack_seen : WorldType → StackType
stack_seen t = seen_as (stack_of t)

-- ---- the code's type with that row in it

abbrev pub first_row : Bool → TypeId → TypeId
first_row true t = record { file = t.file; row = 1 }
first_row false t = t

-- beside a primitive row 0 says that it is no enum
abbrev pub row_beside : Elem → TypeId → TypeId
row_beside elem.Class t = first_row (nat_eq t.row 0) t
row_beside elem.Value t = first_row (nat_eq t.row 0) t
row_beside e t = t

abbrev pub rowed_place : WorldPlace → WorldPlace
rowed_place t = record { pointer = t.pointer; ranks = t.ranks; elem = t.elem; of = row_beside t.elem t.of }

abbrev pub rowed : WorldType → WorldType
rowed world.I = world.I
rowed world.L = world.L
rowed world.Null = world.Null
rowed (world.O t) = world.O (rowed_place t)
rowed (world.Pointer t) = world.Pointer (rowed_place t)
rowed world.H = world.H

-- ---- the order of the code's types

abbrev pub type_seen : CliType → CliType
type_seen t = type_to (classes_by id_seen) t

abbrev pub fits_seen : Sources → CliType → CliType → Bool
fits_seen x a b = fits x.classes (type_seen a) (type_seen b)

abbrev pub assignable_seen : Sources → WorldType → WorldType → Bool
assignable_seen x a b = assignable (program_of x) (stack_seen a) (stack_seen b)

-- what may stand for two types, in one of its spellings
abbrev pub Merges : Sources → WorldType → WorldType → Option WorldType → Type 0
Merges x a b both = option_map stack_seen both ≡ merge (program_of x) x.classes (stack_seen a) (stack_seen b)
