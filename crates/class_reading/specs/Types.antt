-- What a row of a file says of a type.
use Rattle.std.specs.Prelude.{ℕ, List, Option}
use Rattle.file_tables.specs.Metadata.{MetadataPart}
use Rattle.file_tables.specs.File.{FilePart}
use Rattle.machine.specs.Data.{Id}
use Rattle.machine.specs.Throw.{on_some}
use Rattle.assemblies.specs.Binding.{id_at, resolve}
use Rattle.world_rows.specs.Tokens.{superclass_token}
use Rattle.world_rows.specs.Rows.{first_of, type_row}
use Rattle.world_rows.specs.Kinds.{kind_of}
use Rattle.world_rows.specs.World.{rows_alone, assemblies_of, size_of}
use Rattle.class_table.specs.Outlines.{Outline, outline_of}

-- the class that the column names
abbrev pub superclass_at : List FilePart → ℕ → MetadataPart → ℕ → Option Id
superclass_at files file m extends = on_some (first_of (superclass_token m extends)) (resolve (size_of (rows_alone files)) (rows_alone files) file)

abbrev pub row_outline : List FilePart → ℕ → MetadataPart → ℕ → List ℕ → Outline
row_outline files file m n row =
    outline_of (size_of (rows_alone files)) (assemblies_of files) file (type_row m (λ i. kind_of (size_of (rows_alone files)) (rows_alone files) (id_at file i)) n row)
