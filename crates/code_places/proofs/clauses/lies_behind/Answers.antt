use Rattle.std.proofs.Common.{◌<◌, ◌≤◌, length, sym, ◌∙◌, arith}
use Rattle.classes.specs.Code.{CodeClause}
use Rattle.classes.specs.Clauses as lie
use Rattle.code_places.specs.Clauses.{clause_seen}
use Rattle.code_places.proofs.EachLaws.{all_stops, all_done}
use Rattle.code_places.proofs.clauses.lies_behind.Goals as goal

pub returns-then-not-lies_well : goal.returns-then-not-lies_well
returns-then-not-lies_well c =
    let inside : c.loop-other.other-index < length c.args.before.now = omega arith in
    all_stops (λ (k : CodeClause). lie.lies_well k (clause_seen c.args.clause.now)) clause_seen c.args.before.now c.loop-other.other-index _ inside (sym c.lies_well.ensures ∙ c.if-not-lies_well.true)

pub returns : goal.returns
returns c =
    let past : length c.args.before.now ≤ c.loop-other.other-index = omega arith in
    all_done (λ (k : CodeClause). lie.lies_well k (clause_seen c.args.clause.now)) clause_seen c.args.before.now c.loop-other.other-index past c.loop-other.invariant
