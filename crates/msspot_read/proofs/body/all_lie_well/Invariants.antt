use Rattle.std.proofs.Common.{◌≡◌, drop, map}
use Rattle.image_form.specs.Form as form
use Rattle.msspot_read.specs.Held.{clauses}
use Rattle.classes.specs.Clauses as lie
use Rattle.msspot_read.proofs.body.all_lie_well.Given as goal

abbrev pub invariant-loop-k : goal.invariant-loop-k
invariant-loop-k l = lie.lie_well (drop l.k (map form.regions_of (form.part l.first l.count (clauses l.known)))) ≡ lie.lie_well (map form.regions_of (form.part l.first l.count (clauses l.known)))
