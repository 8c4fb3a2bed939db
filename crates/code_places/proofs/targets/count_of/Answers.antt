use Rattle.std.proofs.Common.{◌≡◌, length, sym, ap, ◌∙◌, rules, arith, w64, to_z, of_z, SFits}
use Rattle.std.specs.Prelude.{unsigned_abs}
use Rattle.std.proofs.lemmas.Int.{ints}
use Rattle.code_places.specs.Places.{distances}
use Rattle.code_places.proofs.TargetLaws.{switch_count}
use Rattle.code_places.proofs.targets.count_of.Goals as goal

pub returns-in-Switch : goal.returns-in-Switch
returns-in-Switch c =
    let f : SFits w64 c.args.instr.now.operand = search rules in
    let same : to_z w64 (of_z w64 c.args.instr.now.operand) ≡ c.args.instr.now.operand = omega (arith, ints) in
    λ code at.
    c.unsigned_abs.ensures.value
    ∙ ap unsigned_abs same
    ∙ sym (switch_count code (record { at = at; instr = c.args.instr.now }))
    ∙ ap (λ k. length (distances code (record { at = at; instr = c.args.instr.now }) k)) (sym c.in-Switch.is)
