use Rattle.std.proofs.Common.{◌+◌, ◌*◌, ◌≤◌, length, Some, sym, ap, ◌∙◌, arith}
use Rattle.std.proofs.lemmas.Int.{ints}
use Rattle.code_places.proofs.TargetLaws.{has_target, distance_is, target_inside}
use Rattle.code_places.proofs.targets.distance.Goals as goal

pub overflow_cast-k : goal.overflow_cast-k
overflow_cast-k c =
    let inside : c.args.at + 5 + 4 * c.args.k + 4 ≤ length c.args.code.now = target_inside c.args.code.now c.args.at c.args.instr.now c.requires.stands (sym c.kind_of.ensures ∙ c.in-Switch.is) c.args.k c.requires.counted in
    omega (arith, c.requires.short)

pub switch_target-requires : goal.switch_target-requires
switch_target-requires c = has_target c.args.code.now c.args.at c.args.instr.now c.requires.stands (sym c.kind_of.ensures ∙ c.in-Switch.is) c.args.k c.requires.counted

pub returns-in-Switch : goal.returns-in-Switch
returns-in-Switch c =
    distance_is c.args.code.now c.args.at c.args.instr.now c.requires.stands (sym c.kind_of.ensures ∙ c.in-Switch.is) c.args.k c.requires.counted
    ∙ ap Some (sym c.switch_target.ensures ∙ omega (arith, ints))
