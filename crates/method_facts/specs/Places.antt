-- How types of the machine with rows from 0 are spelt as those of places with rows from 1.
use Rattle.std.specs.Prelude.{suc, true, false, Option, Some, None}
use Rattle.plain_types.specs.declared.elem.Elem.TheVariants as elem
use Rattle.ecma_types.specs.declared.id.TypeId.{TypeId}
use Rattle.ecma_types.specs.declared.stack.PlaceType.{PlaceType as WorldPlace}
use Rattle.machine.specs.Data.{Id, CliType, Basic, PlaceType, Plain, To}
use Rattle.place_types.specs.Types.{place_back, type_up}
use Rattle.classes.specs.Classes.{Classes}
use Rattle.classes.specs.Queries.{kind_of}
use Rattle.ecma_effects.specs.Known.{elem_of}

abbrev pub row_to : Id → TypeId
row_to c = record { file = c.file; row = suc c.row }

abbrev pub type_to : CliType → WorldPlace
type_to type = place_back (type_up type)

abbrev pub place_to : PlaceType → WorldPlace
place_to (Plain type) = type_to type
place_to (To type) = record (type_to type) { pointer = true }

-- void has its element
abbrev pub result_to : Option CliType → WorldPlace
result_to None = type_to (Basic elem.Void)
result_to (Some type) = type_to type

-- a class, with its row also where it has an element of its own
abbrev pub class_to : Classes → Id → WorldPlace
class_to cs c = record { pointer = false; ranks = 0; elem = elem_of (kind_of cs c); of = row_to c }
