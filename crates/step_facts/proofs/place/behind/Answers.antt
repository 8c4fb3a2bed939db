use Rattle.std.proofs.Common.{◌≡◌, length, ap, ◌∙◌, arith}
use Rattle.cil_code.specs.Bodies.{BodyPart}
use Rattle.cil_code.proofs.Parts.{instruction_fits}
use Rattle.step_facts.proofs.place.behind.Goals as goal

pub overflow_add-result : goal.overflow_add-result
overflow_add-result c =
    let fits = instruction_fits c.args.listing.now.code c.args.at c.args.instr.now c.requires in
    let size : c.code_size-size.result ≡ length c.args.listing.now.code = c.code_size-size.ensures ∙ ap (λ (b : BodyPart). length b.code) c.body.ensures in
    omega (arith, fits.1, size)
