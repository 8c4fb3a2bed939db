use Rattle.std.proofs.Common.{◌<◌, ℕ, ◌+◌, length, sym, ap, subst, ◌∙◌, arith}
use Rattle.std.proofs.lemmas.Option.{slice_get_within}
use Rattle.forward_pass.proofs.EdgeLaws.{if_ok}
use Rattle.classes.specs.Queries.{array}
use Rattle.class_table.specs.Seen.{classes_seen}
use Rattle.world_rows.specs.World.{ecma_sources}
use Rattle.operand_facts.specs.Operands.{OperandTold, operand_of}
use Rattle.step_facts.specs.Parts.{is_token}
use Rattle.method_pass.proofs.OperandLaws.{by_token}
use Rattle.method_pass.proofs.known.operand.Goals as goal

pub returns-then-steps-files : goal.returns-then-steps-files
returns-then-steps-files c =
    λ row x listed kind there.
    let within : c.args.steps.now.file < length c.args.steps.now.world.now = slice_get_within c.args.steps.now.world.now c.args.steps.now.file x there in
    absurd (omega (arith, within, c.files.ensures.count, c.if-steps-files.true))

pub read_operand-requires : goal.read_operand-requires
read_operand-requires c = omega (arith, c.files.ensures.count, c.if-steps-files.false)

pub returns : goal.returns
returns c =
    if_ok c.read_operand.result c.read_operand.ensures
    (λ known says. λ row x listed kind there.
    let files = c.args.steps.now.world.now in
    let file = c.args.steps.now.file in
    let code = c.args.steps.now.listing.now.code in
    let instr = c.args.instr.now in
    let next : ℕ = c.args.at + instr.length in
    let arrays = array (classes_seen c.args.steps.now.lattice.now) in
    subst (λ z. OperandTold (ecma_sources files).classes arrays (operand_of files file x code c.args.at next z instr.operand) known) (sym kind)
    (by_token (ecma_sources files).classes arrays files file x code c.args.at next known c.args.kind instr.operand c.token-token.result (λ is. c.token-token.ensures row listed (ap is_token kind ∙ is)) (λ k e. subst (λ o. OperandTold (ecma_sources files).classes o (operand_of files file x code c.args.at next c.args.kind k) known) c.array-array.ensures (says x code c.args.at next k there e))))
