-- What the code's shape is seen as.
use Rattle.file_tables.specs.Tables as tables
use Rattle.cil_tables.specs.declared.shape.Shape.{Shape}

abbrev pub seen : Shape → tables.Shape
seen s = record { heap_sizes = s.heap_sizes; counts = s.counts }
