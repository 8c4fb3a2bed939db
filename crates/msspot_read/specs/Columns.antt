-- The columns of the tables, read from the table of src/columns.rt.
use Rattle.std.specs.Prelude.{ℕ, List, [], map, slice_index_or}
use Rattle.msspot_read.specs.declared.columns.Column.{Column}
use Rattle.msspot_read.specs.declared.columns.TheConstants.{COLUMNS}

abbrev pub columns_of : ℕ → List Column
columns_of table = slice_index_or (map (λ columns. columns.now) COLUMNS) table []
