use Rattle.std.proofs.Common.{◌≡◌, ◌<◌, length, Some, ap, ◌∙◌, subst, arith}
use Rattle.std.specs.Prelude.{slice_get}
use Rattle.cil_code.specs.Bodies.{BodyPart}
use Rattle.code_places.specs.Places.{targets_at}
use Rattle.step_facts.proofs.PlaceLaws.{target_inside}
use Rattle.step_facts.proofs.place.target_of.Goals as goal

pub returns : goal.returns
returns c =
    λ well.
    let code = c.args.listing.now.code in
    let there : slice_get (targets_at code (record { at = c.args.at; instr = c.args.instr.now })) c.args.k ≡ Some c.target-to.result =
    subst (λ bytes. slice_get (targets_at bytes (record { at = c.args.at; instr = c.args.instr.now })) c.args.k ≡ Some c.target-to.result) (c.code.ensures ∙ ap (λ (b : BodyPart). b.code) c.body-2.ensures) c.target-to.ensures in
    let inside : c.target-to.result < length code = target_inside code (record { at = c.args.at; instr = c.args.instr.now }) c.args.k c.target-to.result there well in
    let size : c.code_size-size.result ≡ length code = c.code_size-size.ensures ∙ ap (λ (b : BodyPart). length b.code) c.body.ensures in
    there ∙ ap Some (omega (arith, inside, size))
