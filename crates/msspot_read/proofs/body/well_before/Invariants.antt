use Rattle.std.proofs.Common.{◌≡◌, drop, map}
use Rattle.std.specs.List.{list_all}
use Rattle.image_form.specs.Form as form
use Rattle.msspot_read.specs.Held.{clauses}
use Rattle.classes.specs.Clauses as lie
use Rattle.msspot_read.specs.Lying.{code_clause}
use Rattle.msspot_read.proofs.body.well_before.Given as goal

abbrev pub invariant-loop-k : goal.invariant-loop-k
invariant-loop-k l = list_all (lie.lies_well (code_clause l.clause)) (drop l.k (map form.regions_of (form.part l.first l.count (clauses l.known)))) ≡ list_all (lie.lies_well (code_clause l.clause)) (map form.regions_of (form.part l.first l.count (clauses l.known)))
