use Rattle.std.proofs.Common.{◌<◌, length, sym, ◌∙◌, arith}
use Rattle.std.proofs.lemmas.Option.{slice_get_within}
use Rattle.forward_pass.proofs.EdgeLaws.{if_ok}
use Rattle.method_pass.proofs.MethodLaws.{some_told}
use Rattle.method_pass.proofs.steps.begins.Goals as goal

pub returns-then-steps-files : goal.returns-then-steps-files
returns-then-steps-files c =
    λ listed s a found.
    let within : c.args.steps.now.file < length c.args.steps.now.world.now = slice_get_within c.args.steps.now.world.now c.args.steps.now.file a.part a.part_is in
    absurd (omega (arith, within, c.files.ensures.count, c.if-steps-files.true))

pub begins_at-requires : goal.begins_at-requires
begins_at-requires c = omega (arith, c.files.ensures.count, c.if-steps-files.false)

pub returns : goal.returns
returns c =
    if_ok c.begins_at.result c.begins_at.ensures
    (λ begins says. λ listed s a found.
    let t = some_told c.args.steps.now listed a c.args.at s found in
    says a.part a.part_is a.spelt ∙ sym t.4.begins)
