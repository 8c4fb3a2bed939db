-- Files as a whole: their rows with names, and what the names mean.
use Rattle.std.specs.Prelude.{ℕ, List, Option, slice_get, unwrap_or}
use Rattle.std.specs.Option.{option_map}
use Rattle.file_tables.specs.Metadata.{row_count}
use Rattle.file_tables.specs.File.{FilePart}
use Rattle.machine.specs.Data.{Id}
use Rattle.machine.specs.Throw.{on_some}
use Rattle.classes.specs.Classes.{Classes, OwnField, OwnMethod, SigType}
use Rattle.classes.specs.Code.{Sources}
use Rattle.classes.specs.Queries.{exception_class}
use Rattle.assemblies.specs.Rows.{RawType, TypeToken, Assembly}
use Rattle.assemblies.specs.Binding.{id_at, resolve, expanded, own_field, own_method}
use Rattle.world_rows.specs.World.{type_count, size_of, rows_alone, assemblies_of, ecma_sources}

pub record World : Type 0 where
  pub files : List FilePart
  -- no chain has more types
  pub types : ℕ
  -- nor has one of scopes more references
  pub size : ℕ
  -- the rows of each file alone, and with what the other files tell
  pub alone : List Assembly
  pub rows : List Assembly
  pub sources : Sources

abbrev pub world_of : List FilePart → World
world_of files =
    record {
      files = files;
      types = type_count (rows_alone files);
      size = size_of (rows_alone files);
      alone = rows_alone files;
      rows = assemblies_of files;
      sources = ecma_sources files;
    }

abbrev pub classes_of : World → Classes
classes_of w = w.sources.classes

-- the class that a token of a file names, and the type
abbrev pub named_class : World → ℕ → TypeToken → Option Id
named_class w file token = resolve w.size w.rows file token

abbrev pub named_type : World → ℕ → RawType → Option SigType
named_type w file type = expanded w.size w.rows file type

-- the members of rows that count from 0, whether a type has them or not
abbrev pub field_row : World → ℕ → ℕ → Option OwnField
field_row w file n = on_some (slice_get w.rows file) (λ p. option_map (own_field w.size w.rows file n) (slice_get p.fields n))

abbrev pub method_row : World → ℕ → ℕ → Option OwnMethod
method_row w file n = on_some (slice_get w.rows file) (λ p. option_map (own_method w.size w.rows file n) (slice_get p.methods n))

-- a type of a file that no row has
abbrev pub no_type : ℕ → FilePart → Id
no_type file x = id_at file (row_count x.metadata 2)

-- System.Exception; a library without it is refused
abbrev pub exception_of : World → Id
exception_of w = unwrap_or (exception_class (classes_of w)) (id_at 0 0)
