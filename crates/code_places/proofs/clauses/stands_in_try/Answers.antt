use Rattle.std.proofs.Common.{◌<◌, ◌≤◌, length, sym, ◌∙◌, arith}
use Rattle.classes.specs.Code.{CodeClause}
use Rattle.classes.specs.Listed.{in_try}
use Rattle.code_places.specs.Clauses.{clause_seen}
use Rattle.code_places.proofs.EachLaws.{any_stops, any_done}
use Rattle.code_places.proofs.clauses.stands_in_try.Goals as goal

pub returns-then-in_try : goal.returns-then-in_try
returns-then-in_try c =
    let inside : c.loop-clause.clause-index < length c.args.clauses.now = omega arith in
    any_stops (λ (k : CodeClause). in_try k c.args.at) clause_seen c.args.clauses.now c.loop-clause.clause-index _ inside (sym c.in_try.ensures ∙ c.if-in_try.true)

pub returns : goal.returns
returns c =
    let past : length c.args.clauses.now ≤ c.loop-clause.clause-index = omega arith in
    any_done (λ (k : CodeClause). in_try k c.args.at) clause_seen c.args.clauses.now c.loop-clause.clause-index past c.loop-clause.invariant
