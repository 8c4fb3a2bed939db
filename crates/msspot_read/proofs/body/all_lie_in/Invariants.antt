use Rattle.std.proofs.Common.{◌≡◌, drop}
use Rattle.std.specs.List.{list_all}
use Rattle.image_form.specs.Form as form
use Rattle.msspot_read.specs.Held.{clauses}
use Rattle.msspot_read.proofs.body.all_lie_in.Given as goal

abbrev pub invariant-loop-k : goal.invariant-loop-k
invariant-loop-k l = list_all (form.lies_in l.size) (drop l.k (form.part l.first l.count (clauses l.known))) ≡ list_all (form.lies_in l.size) (form.part l.first l.count (clauses l.known))
