use Rattle.std.proofs.Common.{◌<◌, ◌≤◌, length, sym, ◌∙◌, arith}
use Rattle.classes.specs.Code.{CodeClause}
use Rattle.std.specs.Prelude.{◌&&◌}
use Rattle.classes.specs.Listed.{in_handler, is_catch_kind}
use Rattle.code_places.specs.Clauses.{clause_seen}
use Rattle.code_places.proofs.EachLaws.{any_stops, any_done}
use Rattle.code_places.proofs.clauses.stands_in_catch.Goals as goal

pub returns-then-in_catch : goal.returns-then-in_catch
returns-then-in_catch c =
    let inside : c.loop-clause.clause-index < length c.args.clauses.now = omega arith in
    any_stops (λ (k : CodeClause). is_catch_kind k.kind && in_handler k c.args.at) clause_seen c.args.clauses.now c.loop-clause.clause-index _ inside (sym c.in_catch.ensures ∙ c.if-in_catch.true)

pub returns : goal.returns
returns c =
    let past : length c.args.clauses.now ≤ c.loop-clause.clause-index = omega arith in
    any_done (λ (k : CodeClause). is_catch_kind k.kind && in_handler k c.args.at) clause_seen c.args.clauses.now c.loop-clause.clause-index past c.loop-clause.invariant
