-- Arrays of a memory.
use Rattle.std.specs.Prelude.{◌==◌, if◌then◌else◌, Option, Some, None}
use Rattle.board_types.specs.declared.value.Shape.{Shape}
use Rattle.step_arrays.specs.declared.found.Array.{Array}

-- a thing of this shape as an array
abbrev pub array_in : Shape → Option Array
array_in shape = if shape.what == 1 then Some (record { of = shape.of; count = shape.count }) else None
