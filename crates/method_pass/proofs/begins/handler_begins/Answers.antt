use Rattle.std.proofs.Common.{Some, ap, ◌∙◌}
use Rattle.classes.specs.Code.{CatchOf}
use Rattle.world_rows.specs.World.{ecma_sources}
use Rattle.code_rules.specs.Verdict.{begun_by}
use Rattle.forward_pass.proofs.EdgeLaws.{if_ok}
use Rattle.method_pass.proofs.BeginLaws.{catch_is, other_is}
use Rattle.method_pass.proofs.begins.handler_begins.Goals as goal

pub returns-then-clause-eq0 : goal.returns-then-clause-eq0
returns-then-clause-eq0 c =
    if_ok c.caught.result c.caught.ensures
    (λ begins says. λ x here spelt.
    says spelt ∙ ap Some (ap (λ o. begun_by (ecma_sources c.args.world.now).classes (CatchOf o)) c.find_class.ensures ∙ catch_is c.args.world.now c.args.file x c.args.clause.now here c.if-clause-eq0.true))

pub returns-else-clause-eq0 : goal.returns-else-clause-eq0
returns-else-clause-eq0 c = λ x here spelt. ap Some (other_is c.args.world.now c.args.file x c.args.clause.now c.if-clause-eq0.false)
