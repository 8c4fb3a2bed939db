use Rattle.std.proofs.Common.{sym, arith, subst}
use Rattle.cil_code.proofs.Parts.{instruction_fits}
use Rattle.code_shrink.proofs.Targets.{HasNumber, number_small, has_targets}
use Rattle.code_shrink.proofs.limits.far_of.Goals as goal

pub overflow_add-next : goal.overflow_add-next
overflow_add-next c =
    let f = instruction_fits c.args.code.now c.args.at c.args.step.instr c.requires.stands.stands in
    record { fits = omega (arith, f.1, c.requires.small) }

pub number_of-requires : goal.number_of-requires
number_of-requires c =
    number_small c.args.code.now c.args.at c.args.step c.requires.stands (subst HasNumber (sym c.in-Switch.is) tt) (λ k. (c.type_inv.code k).fits)

pub outside_target-requires-clause-there : goal.outside_target-requires-clause-there
outside_target-requires-clause-there c = λ k lt. has_targets c.args.code.now c.args.at c.args.step c.requires.stands c.in-Switch.is k (omega (arith, lt, c.number_of.ensures))
