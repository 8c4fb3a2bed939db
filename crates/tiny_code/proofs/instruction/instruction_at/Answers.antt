use Rattle.std.proofs.Common.{arith}
use Rattle.tiny_code.specs.Numbers.{plain_seen}
use Rattle.image_form.specs.Codes.{short, lie_of}
use Rattle.tiny_code.proofs.Tails.{instr_of_parts}
use Rattle.tiny_code.proofs.Lengths.{place_is, token_is}
use Rattle.tiny_code.proofs.instruction.instruction_at.Goals as goal

pub overflow_sub-result : goal.overflow_sub-result
overflow_sub-result c =
    (instr_of_parts c.args.code.now c.rest_of.result.now c.args.at (c.in_ok-opcode.opcode.op, c.in_ok-opcode.opcode.rest.now) c.in_ok-row.row (plain_seen c.in_ok-operand.operand.number, c.in_ok-operand.operand.rest.now)
    c.rest_of.ensures c.in_ok-opcode.ensures c.in_ok-row.ensures c.in_ok-operand.ensures).inside

pub returns-clause-instr : goal.returns-clause-instr
returns-clause-instr c =
    (instr_of_parts c.args.code.now c.rest_of.result.now c.args.at (c.in_ok-opcode.opcode.op, c.in_ok-opcode.opcode.rest.now) c.in_ok-row.row (plain_seen c.in_ok-operand.operand.number, c.in_ok-operand.operand.rest.now)
    c.rest_of.ensures c.in_ok-opcode.ensures c.in_ok-row.ensures c.in_ok-operand.ensures).is

pub returns-clause-place : goal.returns-clause-place
returns-clause-place c =
    let whole = instr_of_parts c.args.code.now c.rest_of.result.now c.args.at (c.in_ok-opcode.opcode.op, c.in_ok-opcode.opcode.rest.now) c.in_ok-row.row (plain_seen c.in_ok-operand.operand.number, c.in_ok-operand.operand.rest.now)
    c.rest_of.ensures c.in_ok-opcode.ensures c.in_ok-row.ensures c.in_ok-operand.ensures in
    place_is c.args.code.now c.args.at _ (record { row = c.in_ok-row.row; operand = plain_seen c.in_ok-operand.operand.number }) (λ k. (c.type_inv.code k).fits) (omega arith) whole.is

pub returns-clause-token : goal.returns-clause-token
returns-clause-token c = token_is short (lie_of short c.in_ok-row.row.operand) c.in_ok-opcode.opcode.rest.now c.in_ok-operand.operand.rest.now (plain_seen c.in_ok-operand.operand.number) c.in_ok-operand.ensures
