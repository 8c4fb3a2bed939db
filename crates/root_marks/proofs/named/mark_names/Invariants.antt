use Rattle.std.proofs.Common.{◌≡◌, List, drop, map}
use Rattle.assemblies.specs.Rows.{Assembly}
use Rattle.class_table.specs.Seen.{classes_seen}
use Rattle.row_numbers.specs.Tables.{AreCounts}
use Rattle.root_marks.specs.Roots.{marked, rows_named}
use Rattle.root_marks.proofs.named.mark_names.Given as goal

abbrev pub invariant-loop-name : goal.invariant-loop-name
invariant-loop-name l =
    (ps : List Assembly) → AreCounts ps l.numbers → marked ps (rows_named (classes_seen l.table) (map (λ name. name.now) (drop l.name-index l.names))) l.marks ≡ marked ps (rows_named (classes_seen l.table) (map (λ name. name.now) l.names)) l.initial.marks
