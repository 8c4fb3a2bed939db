-- How places of an element type hold values.
use Rattle.std.specs.Prelude.{◌≡◌, Option, Some}
use Rattle.std.specs.Option.{option_map}
use Rattle.plain_types.specs.declared.elem.Elem.{Elem}
use Rattle.plain_types.specs.declared.elem.Elem.TheVariants as elem
use Rattle.machine.specs.Data.{CliType}
use Rattle.machine.specs.Numbers.{PlaceKind, Holds, HoldsHandle, kind_of_type}
use Rattle.ram_words.specs.Elements.{elem_held}

-- value types have no bits here, but for a data field's handle
abbrev pub kind_held : Elem → Option PlaceKind
kind_held elem.Value = Some HoldsHandle
kind_held e = option_map Holds (elem_held e)

-- places of the type are those of the element type; an array's is that of Object
abbrev pub IsElem : Elem → CliType → Type 0
IsElem e type = kind_of_type type ≡ kind_held e
