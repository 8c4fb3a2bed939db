use Rattle.std.proofs.Common.{◌<◌, ◌≤◌, length, sym, ◌∙◌, arith}
use Rattle.classes.specs.Code.{CodeClause}
use Rattle.classes.specs.Clauses as lie
use Rattle.code_places.specs.Clauses.{clause_seen}
use Rattle.code_places.proofs.EachLaws.{all_stops, all_done}
use Rattle.code_places.proofs.clauses.may_go.Goals as goal

pub returns-then-not-clause_keeps : goal.returns-then-not-clause_keeps
returns-then-not-clause_keeps c =
    let inside : c.loop-clause.clause-index < length c.args.clauses.now = omega arith in
    all_stops (λ (k : CodeClause). lie.clause_keeps c.args.from c.args.to k) clause_seen c.args.clauses.now c.loop-clause.clause-index _ inside (sym c.clause_keeps.ensures ∙ c.if-not-clause_keeps.true)

pub returns : goal.returns
returns c =
    let past : length c.args.clauses.now ≤ c.loop-clause.clause-index = omega arith in
    all_done (λ (k : CodeClause). lie.clause_keeps c.args.from c.args.to k) clause_seen c.args.clauses.now c.loop-clause.clause-index past c.loop-clause.invariant
