use Rattle.std.proofs.Common.{◌≡◌, ◌≤◌, ◌+◌, ◌-◌, length, sym, ap, ◌∙◌, arith}
use Rattle.cil_code.specs.Bodies.{BodyPart}
use Rattle.cil_code.proofs.Parts.{instruction_fits}
use Rattle.file_tables.specs.Bytes.{u32_at}
use Rattle.step_facts.proofs.PlaceLaws.{token_is, token_long}
use Rattle.step_facts.proofs.place.token.Goals as goal

pub returns-then-instr-lt4 : goal.returns-then-instr-lt4
returns-then-instr-lt4 c =
    λ row listed is.
    let long : 4 ≤ c.args.instr.now.length = token_long c.args.listing.now.code c.args.at c.args.instr.now c.requires row listed is in
    absurd (omega (arith, long, c.if-instr-lt4.true))

pub u32_at-requires : goal.u32_at-requires
u32_at-requires c =
    let fits = instruction_fits c.args.listing.now.code c.args.at c.args.instr.now c.requires in
    let size : length c.code.result.now ≡ length c.args.listing.now.code = ap length (c.code.ensures ∙ ap (λ (b : BodyPart). b.code) c.body.ensures) in
    omega (arith, fits.1, size, c.if-instr-lt4.false)

pub returns : goal.returns
returns c =
    λ row listed is.
    token_is c.args.listing.now.code c.args.at c.args.instr.now c.requires row listed is
    ∙ sym (c.u32_at.ensures ∙ ap (λ bytes. u32_at bytes (c.args.at + (c.args.instr.now.length - 4))) (c.code.ensures ∙ ap (λ (b : BodyPart). b.code) c.body.ensures))
