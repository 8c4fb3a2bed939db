use Rattle.std.proofs.Common.{◌≡◌, drop}
use Rattle.std.specs.List.{list_all}
use Rattle.image_form.specs.Form as form
use Rattle.msspot_read.specs.Held.{clauses}
use Rattle.std.specs.Prelude.{not}
use Rattle.msspot_read.proofs.body.no_catch.Given as goal

abbrev pub invariant-loop-k : goal.invariant-loop-k
invariant-loop-k l = list_all (λ c. not (form.is_catch c)) (drop l.k (form.part l.first l.count (clauses l.known))) ≡ list_all (λ c. not (form.is_catch c)) (form.part l.first l.count (clauses l.known))
