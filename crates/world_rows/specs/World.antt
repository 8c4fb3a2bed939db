-- The files of a world as assemblies. The first two are the base library.
use Rattle.std.specs.Prelude.{ℕ, ◌+◌, nat_le, List, map, length, unwrap_or, [], ◌∷◌}
use Rattle.file_tables.specs.File.{FilePart}
use Rattle.classes.specs.Code.{Sources}
use Rattle.machine.specs.Program.{Program}
use Rattle.classes.specs.Listed.{program_of}
use Rattle.assemblies.specs.Rows.{Assembly}
use Rattle.assemblies.specs.Binding.{id_at, numbered, sources_of}
use Rattle.world_rows.specs.Rows.{assembly_by, alone}
use Rattle.world_rows.specs.Kinds.{kind_of, data_of}
use Rattle.world_rows.specs.Natives.{body_of_native}

-- no chain of superclasses, of interfaces or of enclosing types has more
abbrev pub type_count : List Assembly → ℕ
type_count [] = 0
type_count (p ∷ ps) = length p.types + type_count ps

-- nor one of scopes
abbrev pub reference_count : List Assembly → ℕ
reference_count [] = 0
reference_count (p ∷ ps) = length p.refs + reference_count ps

-- enough for a chain of superclasses and then interfaces, and for one of scopes
abbrev pub size_of : List Assembly → ℕ
size_of ps = type_count ps + type_count ps + reference_count ps

-- among the rows of each file alone
abbrev pub assembly_with : ℕ → List FilePart → List Assembly → ℕ → FilePart → Assembly
assembly_with k files ps n f =
    assembly_by
    (λ row. kind_of k ps (id_at n row))
    (λ row. unwrap_or (data_of k files ps (id_at n row)) [])
    (λ row. body_of_native k ps (id_at n row))
    (nat_le 2 n)
    f

abbrev pub rows_alone : List FilePart → List Assembly
rows_alone files = map alone files

unfoldable pub assemblies_of : List FilePart → List Assembly
assemblies_of files = numbered (assembly_with (size_of (rows_alone files)) files (rows_alone files)) 0 files

-- what the names of a world mean, and its program
abbrev pub ecma_sources : List FilePart → Sources
ecma_sources files = sources_of (size_of (rows_alone files)) (assemblies_of files)

abbrev pub ecma_program : List FilePart → Program
ecma_program files = program_of (ecma_sources files)
