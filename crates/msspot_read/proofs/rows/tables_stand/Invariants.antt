use Rattle.std.proofs.Common.{◌≡◌, drop}
use Rattle.std.specs.List.{list_all}
use Rattle.image_form.specs.Whole.{table}
use Rattle.msspot_read.specs.Held.{reads, tables_read}
use Rattle.msspot_read.specs.declared.rows.TheConstants.{ORDER}
use Rattle.msspot_read.proofs.rows.tables_stand.Given as goal

abbrev pub invariant-loop-number : goal.invariant-loop-number
invariant-loop-number l = list_all (λ t. list_all (reads l.known t) (table l.known t)) (drop l.number-index ORDER) ≡ tables_read l.known
