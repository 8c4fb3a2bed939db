use Rattle.std.proofs.lemmas.Result.{IfOk-weaker}
use Rattle.verdict_rules.specs.World.{world_of}
use Rattle.code_order.proofs.BodyLaws.{before_broken, before_kept}
use Rattle.code_order.proofs.method.listing_fault.Goals as goal

pub returns-in-Some : goal.returns-in-Some
returns-in-Some c =
    λ judged x columns m here body.
    before_broken (world_of c.args.judge.now.subject.now.world.now) c.args.file c.args.n x m c.args.listing.now _ c.in-Some.fault c.refusal.result c.in-Some.is
    (c.in_ok-fault.ensures x m here.file_is) c.refusal.ensures

pub returns-in-None : goal.returns-in-None
returns-in-None c =
    IfOk-weaker c.pass_fault.result _ _
    (λ fault told judged x columns m here body.
    told judged x columns m here body
    (before_kept (world_of c.args.judge.now.subject.now.world.now) c.args.file c.args.n x m c.args.listing.now _ c.in-None.is (c.in_ok-fault.ensures x m here.file_is)))
    c.pass_fault.ensures
