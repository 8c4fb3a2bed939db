use Rattle.std.proofs.Common.{◌<◌, ◌≤◌, length, sym, ◌∙◌, arith}
use Rattle.classes.specs.Code.{CodeClause}
use Rattle.std.specs.Prelude.{◌&&◌}
use Rattle.classes.specs.Listed.{in_handler, is_finally_kind}
use Rattle.code_places.specs.Clauses.{clause_seen}
use Rattle.code_places.proofs.EachLaws.{any_stops, any_done}
use Rattle.code_places.proofs.clauses.stands_in_finally.Goals as goal

pub returns-then-in_finally : goal.returns-then-in_finally
returns-then-in_finally c =
    let inside : c.loop-clause.clause-index < length c.args.clauses.now = omega arith in
    any_stops (λ (k : CodeClause). is_finally_kind k.kind && in_handler k c.args.at) clause_seen c.args.clauses.now c.loop-clause.clause-index _ inside (sym c.in_finally.ensures ∙ c.if-in_finally.true)

pub returns : goal.returns
returns c =
    let past : length c.args.clauses.now ≤ c.loop-clause.clause-index = omega arith in
    any_done (λ (k : CodeClause). is_finally_kind k.kind && in_handler k c.args.at) clause_seen c.args.clauses.now c.loop-clause.clause-index past c.loop-clause.invariant
