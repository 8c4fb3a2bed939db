use Rattle.verdict_rules.specs.World.{world_of}
use Rattle.code_order.proofs.BodyLaws.{pass_broken, pass_kept}
use Rattle.code_order.proofs.method.pass_fault.Goals as goal

pub returns-in-Some : goal.returns-in-Some
returns-in-Some c =
    λ judged x columns m here body kept.
    pass_broken (world_of c.args.judge.now.subject.now.world.now) c.args.file c.args.n x m c.args.listing.now c.in_ok-broken.broken c.in-Some.broken c.refusal.result c.in-Some.is
    (c.in_ok-broken.ensures x columns m judged here.file_is here.row_is here.method_is here.coded body kept) kept c.refusal.ensures

pub returns-in-None : goal.returns-in-None
returns-in-None c =
    λ judged x columns m here body kept.
    pass_kept (world_of c.args.judge.now.subject.now.world.now) c.args.file c.args.n x m c.args.listing.now c.in_ok-broken.broken c.in-None.is
    (c.in_ok-broken.ensures x columns m judged here.file_is here.row_is here.method_is here.coded body kept) kept
