-- The rows that the code of a file's methods names.
use Rattle.std.specs.Prelude.{ℕ, List}
use Rattle.file_tables.specs.Metadata.{rows_of}
use Rattle.file_tables.specs.File.{FilePart}
use Rattle.kept_rules.specs.Row.{Row, MethodAt, in_option, in_code}
use Rattle.world_rows.specs.Rows.{code_of}
use Rattle.world_rows.specs.Tokens.{methods}
use Rattle.row_rules.specs.Links.{Link, links_from}

-- of the method of a row; one without code names none
abbrev pub named_by_code : ℕ → FilePart → List ℕ → List Row
named_by_code f x row = in_option (in_code f) (code_of x row)

-- the rules by which each method of a file keeps what its code names
abbrev pub code_links : ℕ → FilePart → List Link
code_links f x = links_from (MethodAt f) (named_by_code f x) 0 (rows_of x.metadata methods)
