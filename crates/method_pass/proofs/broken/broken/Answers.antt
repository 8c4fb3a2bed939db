use Rattle.std.proofs.Common.{◌+◌, sym, ap, ◌∙◌}
use Rattle.cil_code.specs.Walk.{Placed}
use Rattle.machine.specs.Data.{ClassOf}
use Rattle.code_rules.specs.Verdict.{numbered, operand_fits}
use Rattle.verdict_rules.specs.World.{classes_of, exception_of, world_of}
use Rattle.code_tests.specs.Tests.{code_meant}
use Rattle.pass_steps.specs.Listed.{instruction_meant, lowest_unless, operand_meant}
use Rattle.pass_steps.proofs.StepLaws.{stands_told}
use Rattle.method_pass.proofs.BrokenLaws.{broken_same}
use Rattle.method_pass.proofs.MethodLaws.{told_here}
use Rattle.method_pass.proofs.WholeLaws.{is_whole}
use Rattle.method_pass.proofs.broken.broken.Goals as goal

pub returns-then-not-stands : goal.returns-then-not-stands
returns-then-not-stands c =
    λ listed s a found.
    let t = told_here c.args.steps.now listed a c.args.at s found c.args.instr.now c.args.row c.requires.stands c.requires.row in
    let w = world_of c.args.steps.now.world.now in
    let file = c.args.steps.now.file in
    let b = c.args.steps.now.listing.now in
    let p : Placed = record { at = c.args.at; instr = c.args.instr.now } in
    let row = c.args.row in
    let bad = sym (c.stands.ensures (a.goes c.args.at c.args.instr.now c.requires.start c.requires.stands)) ∙ c.if-not-stands.true in
    sym (t.broken ∙ ap (λ k. lowest_unless k (operand_fits (classes_of w) row.shape (operand_meant w file a.part b p row)) (numbered a.method (instruction_meant w file a.part b p row))) bad)

pub returns : goal.returns
returns c =
    λ listed s a found.
    let w = world_of c.args.steps.now.world.now in
    let file = c.args.steps.now.file in
    let b = c.args.steps.now.listing.now in
    let at = c.args.at in
    let instr = c.args.instr.now in
    let row = c.args.row in
    let p : Placed = record { at = at; instr = instr } in
    let t = told_here c.args.steps.now listed a at s found instr row c.requires.stands c.requires.row in
    let good = sym (c.stands.ensures (a.goes at instr c.requires.start c.requires.stands)) ∙ c.if-not-stands.false in
    let known = c.in_ok-facts.ensures listed a c.requires.row in
    let whole = is_whole a.part.metadata w.size w.rows file b.code at (at + instr.length) instr.operand instr.op row c.requires.row in
    let well = stands_told w file a.part a.method b p row c.requires.row ∙ good in
    c.broken.ensures row c.requires.row
    ∙ broken_same w.sources (ClassOf (exception_of w)) a.method (code_meant w file a.part b) at (operand_meant w file a.part b p row) c.in_ok-facts.facts instr.operand known row.shape whole well
    ∙ sym (t.broken ∙ ap (λ k. lowest_unless k (operand_fits (classes_of w) row.shape (operand_meant w file a.part b p row)) (numbered a.method (instruction_meant w file a.part b p row))) good)
