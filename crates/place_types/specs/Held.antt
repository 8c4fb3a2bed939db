-- What places of the world's types hold, and their arrays, as the machine has them.
use Rattle.std.specs.Prelude.{◌≡◌, Bool, nat_lt}
use Rattle.plain_types.specs.declared.elem.Elem.{Elem}
use Rattle.plain_types.specs.declared.elem.Elem.TheVariants as elem
use Rattle.ecma_types.specs.declared.stack.PlaceType.{PlaceType as WorldPlace}
use Rattle.machine.specs.Data.{Cell, Bits, Refers, ArrayOf, cell_of}
use Rattle.machine_typed.specs.Typing.{StackType, H, Never, ArrayKind, NullArray, ArrayWith, is_refers}
use Rattle.place_types.specs.declared.held.Held.{Held}
use Rattle.place_types.specs.declared.held.Held.TheVariants as held
use Rattle.place_types.specs.declared.types.ArrayFound.{ArrayFound}
use Rattle.place_types.specs.declared.types.ArrayFound.TheVariants as found
use Rattle.place_types.specs.Types.{type_of}

abbrev pub cell_by : Held → Cell
cell_by (held.Number integer) = Bits integer
cell_by held.Reference = Refers

-- what a place that holds neither a number nor a reference gives
abbrev pub unheld_type : Elem → StackType
unheld_type elem.Value = H
unheld_type _ = Never

abbrev pub is_reference_type : WorldPlace → Bool
is_reference_type t = is_refers (cell_of (type_of t))

-- an array of the type can be spelt
abbrev pub has_arrays : WorldPlace → Bool
has_arrays t = nat_lt t.ranks 65535

abbrev pub array_by : ArrayFound → ArrayKind
array_by found.Null = NullArray
array_by (found.Of a) = ArrayWith (type_of a.element)

-- the array type beside an element's type is that of its arrays
abbrev pub IsArrayOf : WorldPlace → WorldPlace → Type 0
IsArrayOf element array = type_of array ≡ ArrayOf (type_of element)

abbrev pub FoundSpelt : ArrayFound → Type 0
FoundSpelt found.Null = Unit {0}
FoundSpelt (found.Of a) = IsArrayOf a.element a.array
