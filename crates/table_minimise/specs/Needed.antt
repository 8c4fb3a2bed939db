-- When the rows that are marked as kept are those that are needed.
use Rattle.std.specs.Prelude.{◌≡◌, ℕ, true, List}
use Rattle.file_tables.specs.File.{FilePart}
use Rattle.assemblies.specs.Chosen.{Choice}
use Rattle.world_rows.specs.World.{assemblies_of, rows_alone, size_of}
use Rattle.kept_closure.specs.Kept.{HasAll, IsNeeded}
use Rattle.kept_rules.specs.Row.{Row, marks}
use Rattle.kept_rules.specs.Rules.{MembersStand}
use Rattle.kept_numbers.specs.Numbers.{IsThere}
use Rattle.row_numbers.specs.declared.table.Table.{Table}
use Rattle.row_numbers.specs.Tables.{row_in}
use Rattle.kept_marks.specs.Kept.{Marked, is_kept}

-- where a choice has all rows that may be kept, what its rows name is as rules say, and they are rows of the files, the choice of the
-- kept rows is the one that is needed
abbrev pub AreNeeded : List FilePart → Marked → Type 0
AreNeeded files kept =
    (base keep : ℕ → Choice)
    → HasAll (assemblies_of files) base
    → MembersStand (size_of (rows_alone files)) (assemblies_of files) base
    → ((r : Row) → marks base r ≡ true → IsThere (assemblies_of files) r)
    → ((t : Table) (f n : ℕ) → marks keep (row_in t f n) ≡ is_kept (assemblies_of files) kept.marks t f n)
    → IsNeeded (size_of (rows_alone files)) (assemblies_of files) keep
