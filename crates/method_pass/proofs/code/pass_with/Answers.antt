use Rattle.std.proofs.Common.{ap, ◌∙◌, length}
use Rattle.cil_code.specs.Bodies.{BodyPart}
use Rattle.class_table.specs.Seen.{classes_seen}
use Rattle.verdict_rules.specs.World.{world_of}
use Rattle.code_rules.specs.Judgement.{lattice_of}
use Rattle.forward_pass.proofs.EdgeLaws.{if_ok}
use Rattle.pass_steps.specs.Listed.{steps_here}
use Rattle.pass_steps.proofs.StepLaws.{all_ranked}
use Rattle.method_pass.proofs.CodeLaws.{order_agrees, steps_known, steps_lie}
use Rattle.method_pass.proofs.code.pass_with.Goals as goal

pub returns : goal.returns
returns c =
    if_ok c.pass.result c.pass.ensures
    (λ broken says. λ row x m known loaded arguments locals result exception.
    let files = c.args.world.now in
    let w = world_of files in
    let file = c.args.file in
    let b = c.args.listing.now in
    let size = c.code_size.ensures ∙ ap (λ (p : BodyPart). length p.code) c.body.ensures in
    says (steps_here w file x m b) (steps_known _ row x m known loaded arguments locals result exception c.requires) (steps_lie files file row x m b _ known size) (all_ranked w file x m b) (lattice_of w.sources) (order_agrees files (classes_seen c.args.lattice.now) c.requires known.spelt))
