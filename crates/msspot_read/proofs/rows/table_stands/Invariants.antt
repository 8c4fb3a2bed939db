use Rattle.std.proofs.Common.{◌≡◌, drop}
use Rattle.std.specs.List.{list_all}
use Rattle.image_form.specs.Whole.{table}
use Rattle.msspot_read.specs.Held.{reads}
use Rattle.msspot_read.proofs.rows.table_stands.Given as goal

abbrev pub invariant-loop-n : goal.invariant-loop-n
invariant-loop-n l = list_all (reads l.known l.number) (drop l.n (table l.known l.number)) ≡ list_all (reads l.known l.number) (table l.known l.number)
