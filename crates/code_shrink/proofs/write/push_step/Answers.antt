use Rattle.std.proofs.Common.{◌≡◌, ◌+◌, ◌-◌, ◌++◌, List, ℕ, take, drop, [], subst, ap, ◌∙◌, arith}
use Rattle.std.specs.Prelude.{OnOk}
use Rattle.image_form.specs.Codes.{plain_onto, lie_of, short}
use Rattle.code_shrink.specs.Starts.{place_in}
use Rattle.code_shrink.specs.Shrunk.{plain_to}
use Rattle.code_shrink.specs.Steps.{plain_at}
use Rattle.code_shrink.proofs.Written.{operand_inside, both_written}
use Rattle.code_shrink.proofs.write.push_step.Goals as goal

pub overflow_add-from : goal.overflow_add-from
overflow_add-from g c =
    let i = operand_inside c.args.code.now c.args.at c.args.step c.requires.stands (λ k. (c.type_inv.code k).fits) in
    record { fits = omega (arith, i.0, i.1, c.requires.small, c.opcode_size.ensures) }

pub push_copied-requires-clause-inside : goal.push_copied-requires-clause-inside
push_copied-requires-clause-inside g c =
    let i = operand_inside c.args.code.now c.args.at c.args.step c.requires.stands (λ k. (c.type_inv.code k).fits) in
    omega (arith, i.0, i.1, c.opcode_size.ensures)

pub returns : goal.returns
returns g c =
    let next = c.args.at + c.args.step.instr.length in
    let place = place_in c.args.starts.now in
    let token = g.N.Renumber.numbered c.args.renumber.now in
    let kind = c.args.step.row.operand in
    let p = plain_onto short (lie_of short kind) (plain_to place token kind next (plain_at c.args.code.now c.args.at kind c.args.step.instr.operand)) [] in
    let first = c.in_ok-push_copied.ensures {u = tt} ∙ ap (λ (m : ℕ). c.args.out.now.items ++ take (c.args.at + m - c.args.at) (drop c.args.at c.args.code.now)) c.opcode_size.ensures in
    let P : List ℕ → Type 0 = λ l. OnOk c.push_operand.result (c.push_operand.new.out.items ≡ l) in
    subst P
    (ap (λ (l : List ℕ). l ++ p) first
    ∙ both_written c.args.code.now c.args.at c.args.step c.requires.stands (λ k. (c.type_inv.code k).fits) place token next c.args.out.now.items)
    c.push_operand.ensures
