use Rattle.std.proofs.Common.{arith, ap, ◌∙◌, Err}
use Rattle.cil_layout.specs.Asked.{weight_of}
use Rattle.cil_layout.specs.Layout.{built}
use Rattle.made_assembly.proofs.Rows.{made_weight}
use Rattle.made_assembly.proofs.generator.made.Goals as goal

pub returns-in-Ok : goal.returns-in-Ok
returns-in-Ok c = (c.in-Ok.ensures {u = tt}).ok ∙ ap built (c.in_ok-build.ensures {u = tt})

-- the weight is within bounds
pub unreachable-requires : goal.unreachable-requires
unreachable-requires c =
    let heavy = c.finish.ensures.full.0 (c.in-Err-Full.is ∙ ap Err c.in-Err-Full.field-0-is) in
    omega (arith, heavy, ap weight_of (c.in_ok-build.ensures {u = tt}), made_weight c.args.n c.requires.high)
