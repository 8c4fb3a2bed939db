-- The rows that are kept of any program, and marks of rows.
use Rattle.std.specs.Prelude.{codes, ℕ, suc, Bool, true, List, [], ◌∷◌, ◌++◌, map, drop, slice_set, Option, Some, None}
use Rattle.std.specs.List.{filter, filter_map, flat_map}
use Rattle.file_tables.specs.File.{FilePart}
use Rattle.machine_rename.specs.Rename.{by_instructions}
use Rattle.classes.specs.Classes.{Classes}
use Rattle.classes.specs.Queries.{basic_name, elements, known_name, knowns, library_class}
use Rattle.assemblies.specs.Rows.{Assembly}
use Rattle.world_rows.specs.Rows.{entry_named}
use Rattle.kept_rules.specs.Row.{Row, MethodAt, in_option}
use Rattle.row_rules.specs.Links.{number_there}
use Rattle.member_rules.specs.Members.{class_row}

-- ---- marks

abbrev pub marked_at : Option ℕ → List Bool → List Bool
marked_at None bits = bits
marked_at (Some n) bits = slice_set bits n true

-- with those of the rows that are there
abbrev pub marked : List Assembly → List Row → List Bool → List Bool
marked ps [] bits = bits
marked ps (r ∷ rs) bits = marked ps rs (marked_at (number_there ps r) bits)

-- ---- entries: of a file, by its entry token, and of the files behind the base library's

abbrev pub entry_of : ℕ → ℕ → List Row
entry_of f token = in_option (λ n. MethodAt f n ∷ []) (entry_named token)

abbrev pub entries_from : ℕ → List FilePart → List Row
entries_from f [] = []
entries_from f (x ∷ xs) = entry_of f x.pe.entry ++ entries_from (suc f) xs

abbrev pub entry_rows : List FilePart → List Row
entry_rows files = entries_from 2 (drop 2 files)

-- ---- classes: of elements, of arrays and of exceptions, and those of the exceptions that instructions throw

abbrev pub root_names : List (List ℕ)
root_names = filter_map basic_name elements ++ (codes "Array" ∷ codes "Exception" ∷ map known_name (filter by_instructions knowns))

-- the classes that have names among some
abbrev pub rows_named : Classes → List (List ℕ) → List Row
rows_named cs names = flat_map (λ name. in_option class_row (library_class cs name)) names

abbrev pub root_rows : List FilePart → Classes → List Row
root_rows files cs = entry_rows files ++ rows_named cs root_names
