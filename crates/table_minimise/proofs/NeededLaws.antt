-- The closure of the rules of all files marks the rows that are needed.
use Rattle.std.proofs.Common.{◌≡◌, Bool, List, length, sym, ◌∙◌, subst}
use Rattle.file_tables.specs.File.{FilePart}
use Rattle.assemblies.specs.Rows.{Assembly}
use Rattle.assemblies.specs.Binding.{classes_of}
use Rattle.world_rows.specs.World.{assemblies_of, rows_alone, size_of}
use Rattle.class_order.specs.Order.{ChainsEnd}
use Rattle.row_closure.specs.Closure.{holds, AreWithin, IsClosure}
use Rattle.kept_numbers.specs.Numbers.{all_rows}
use Rattle.row_numbers.specs.declared.table.PerTable.{PerTable}
use Rattle.row_numbers.specs.Tables.{AreCounts}
use Rattle.row_rules.specs.declared.rules.RowRules.{RowRules}
use Rattle.root_marks.specs.Are.{EntriesStand, AreRoots}
use Rattle.kept_marks.proofs.NeededLaws.{marked_are_needed}
use Rattle.table_minimise.specs.FileLinks.{HasRules}
use Rattle.table_minimise.specs.Needed.{AreNeeded}
use Rattle.table_minimise.proofs.RowLaws.{rules_within}
use Rattle.table_minimise.proofs.MadeLaws.{items, are_made}

module _ (files : List FilePart) (counts : List PerTable) (rules : RowRules) (has : HasRules files counts rules) (are : AreCounts (assemblies_of files) counts) (chains : ChainsEnd (classes_of (size_of (rows_alone files)) (assemblies_of files))) where
  abbrev ps : List Assembly
  ps = assemblies_of files

  none_counts : AreCounts ps has.none.numbers
  none_counts = subst (AreCounts ps) (sym has.counted) are

  pub same_numbers : rules.numbers ≡ counts
  same_numbers = has.adds.adds.numbers ∙ has.counted

  pub rules_inside : AreWithin (length (all_rows ps)) rules.rules.items
  rules_inside = subst (AreWithin (length (all_rows ps))) (sym (items files has.table has.is_table chains has.none rules has.empty none_counts has.adds)) (rules_within ps has.adds.links)

  pub closed_are_needed : (start bits : List Bool) (counts' : List PerTable) → (EntriesStand ps → AreRoots (size_of (rows_alone files)) ps (holds start)) → IsClosure rules.rules.items (holds start) (holds bits) → AreNeeded files (record { counts = counts'; marks = bits })
  closed_are_needed start bits counts' roots closure base keep all stand there is =
      marked_are_needed (size_of (rows_alone files)) ps base keep rules.rules.items (holds start) bits all stand
      (are_made files has.table has.is_table chains has.none rules has.empty none_counts has.adds base all stand there (holds start) (roots stand.entry))
      closure is
