use Rattle.std.proofs.Common.{◌<◌, ◌≤◌, length, sym, ◌∙◌, arith}
use Rattle.classes.specs.Code.{CodeClause}
use Rattle.std.specs.Prelude.{◌&&◌, not}
use Rattle.classes.specs.Listed.{in_try, in_handler}
use Rattle.code_places.specs.Clauses.{clause_seen}
use Rattle.code_places.proofs.EachLaws.{all_stops, all_done}
use Rattle.code_places.proofs.clauses.stands_in_none.Goals as goal

pub returns-then-not-in_neither : goal.returns-then-not-in_neither
returns-then-not-in_neither c =
    let inside : c.loop-clause.clause-index < length c.args.clauses.now = omega arith in
    all_stops (λ (k : CodeClause). not (in_try k c.args.at) && not (in_handler k c.args.at)) clause_seen c.args.clauses.now c.loop-clause.clause-index _ inside (sym c.in_neither.ensures ∙ c.if-not-in_neither.true)

pub returns : goal.returns
returns c =
    let past : length c.args.clauses.now ≤ c.loop-clause.clause-index = omega arith in
    all_done (λ (k : CodeClause). not (in_try k c.args.at) && not (in_handler k c.args.at)) clause_seen c.args.clauses.now c.loop-clause.clause-index past c.loop-clause.invariant
