use Rattle.std.proofs.Common.{ℕ, ◌+◌, refl, ap, subst, ◌∙◌}
use Rattle.cil_code.specs.Bodies.{BodyPart}
use Rattle.classes.specs.Queries.{array}
use Rattle.world_rows.specs.World.{ecma_sources}
use Rattle.operand_facts.specs.Operands.{OperandTold, operand_of}
use Rattle.method_pass.proofs.known.known.Goals as goal

pub returns : goal.returns
returns c =
    λ listed a is.
    let b = c.args.steps.now.listing.now in
    let instr = c.args.instr.now in
    let files = c.args.steps.now.world.now in
    let next : ℕ = c.args.at + instr.length in
    let known = c.in_ok-operand.operand in
    let told =
    subst (λ cs. OperandTold (ecma_sources files).classes (array cs) (operand_of files c.args.steps.now.file a.part b.code c.args.at next c.args.row.operand instr.operand) known) a.lattice
    (c.in_ok-operand.ensures c.args.row a.part is refl a.part_is) in
    record {
      arguments = a.arguments;
      locals = a.locals;
      result = a.result;
      exception_type = a.exception;
      max_stack = c.max_stack.ensures ∙ ap (λ (x : BodyPart). x.max_stack) c.body.ensures ∙ a.max_stack;
      operand = a.operands b.code c.args.at next c.args.row.operand instr.operand _ told;
      arguments_loaded = a.arguments_loaded;
      locals_loaded = a.locals_loaded;
    }
