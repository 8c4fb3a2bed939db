use Rattle.std.proofs.Common.{◌≡◌, List, drop}
use Rattle.assemblies.specs.Rows.{Assembly}
use Rattle.row_numbers.specs.Tables.{AreCounts}
use Rattle.root_marks.specs.Roots.{marked, entries_from, entry_rows}
use Rattle.root_marks.proofs.entries.mark_entries.Given as goal

abbrev pub invariant-loop-file : goal.invariant-loop-file
invariant-loop-file l = (ps : List Assembly) → AreCounts ps l.numbers → marked ps (entries_from l.file (drop l.file l.world)) l.marks ≡ marked ps (entry_rows l.world) l.initial.marks
