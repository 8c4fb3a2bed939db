use Rattle.std.proofs.Common.{◌≡◌, ◌+◌, ◌-◌, take, drop, ◌++◌, List, ℕ, [], map, subst, sym, ap, ◌∙◌, arith, rules}
use Rattle.std.specs.Prelude.{ℤ, ◌<◌, ◌^◌, unsigned_abs, FitsSigned, OnOk}
use Rattle.std.specs.Int.{w8, w16, w64}
use Rattle.std.specs.List.{range_with_len}
use Rattle.std.proofs.lemmas.Int.{to_z-of_z}
use Rattle.cil_opcodes.specs.declared.shape.Operand.TheVariants as kinds
use Rattle.cil_code.specs.Instructions.{target_at}
use Rattle.cil_code.proofs.Parts.{instruction_fits}
use Rattle.image_form.specs.Codes.{target, number_onto, signed_onto, AllFit}
use Rattle.assemblies.specs.Closed.{Each}
use Rattle.code_shrink.specs.Shrunk.{moved}
use Rattle.code_shrink.specs.Starts.{place_in}
use Rattle.code_shrink.proofs.Targets.{HasNumber, number_small, has_targets}
use Rattle.code_shrink.proofs.Written.{is_token, has_number, does_stay, can_at, few_targets, same_kind, switch_written, token_written, stays_written, operand_inside}
use Rattle.code_shrink.proofs.write.push_operand.Goals as goal

pub overflow_add-next : goal.overflow_add-next
overflow_add-next g c =
    let f = instruction_fits c.args.code.now c.args.at c.args.step.instr c.requires.stands.stands in
    record { fits = omega (arith, f.1, c.requires.small) }

pub moved-requires-clause-near : goal.moved-requires-clause-near
moved-requires-clause-near g c =
    let next = c.args.at + c.args.step.instr.length in
    let n = c.args.step.instr.operand in
    let fn : FitsSigned w64 n = search rules in
    let w = can_at (place_in c.args.starts.now) c.args.step.row.operand kinds.BranchShort next c.args.code.now c.args.at n c.in-BranchShort.is c.requires.can in
    subst (λ (z : ℤ). unsigned_abs (target next z) < 2 ^ 32) (sym (to_z-of_z w64 n fn)) w.near.0

pub push_near-requires : goal.push_near-requires
push_near-requires g c =
    let next = c.args.at + c.args.step.instr.length in
    let n = c.args.step.instr.operand in
    let place = place_in c.args.starts.now in
    let fn : FitsSigned w64 n = search rules in
    let fm : FitsSigned w64 c.moved.result = search rules in
    let w = can_at place c.args.step.row.operand kinds.BranchShort next c.args.code.now c.args.at n c.in-BranchShort.is c.requires.can in
    subst (FitsSigned w8) (sym (to_z-of_z w64 c.moved.result fm ∙ c.moved.ensures ∙ ap (moved place next) (to_z-of_z w64 n fn))) (w.fits (g.N.Renumber.numbered c.args.renumber.now))

pub moved-requires-in-BranchLong-clause-near : goal.moved-requires-in-BranchLong-clause-near
moved-requires-in-BranchLong-clause-near g c =
    let next = c.args.at + c.args.step.instr.length in
    let n = c.args.step.instr.operand in
    let fn : FitsSigned w64 n = search rules in
    let w = can_at (place_in c.args.starts.now) c.args.step.row.operand kinds.BranchLong next c.args.code.now c.args.at n c.in-BranchLong.is c.requires.can in
    subst (λ (z : ℤ). unsigned_abs (target next z) < 2 ^ 32) (sym (to_z-of_z w64 n fn)) w.near.0

pub push_distance-requires : goal.push_distance-requires
push_distance-requires g c =
    let next = c.args.at + c.args.step.instr.length in
    let n = c.args.step.instr.operand in
    let place = place_in c.args.starts.now in
    let fn : FitsSigned w64 n = search rules in
    let fm : FitsSigned w64 c.moved-in-BranchLong.result = search rules in
    let w = can_at place c.args.step.row.operand kinds.BranchLong next c.args.code.now c.args.at n c.in-BranchLong.is c.requires.can in
    subst (FitsSigned w16) (sym (to_z-of_z w64 c.moved-in-BranchLong.result fm ∙ c.moved-in-BranchLong.ensures ∙ ap (moved place next) (to_z-of_z w64 n fn))) (w.fits (g.N.Renumber.numbered c.args.renumber.now))

pub number_of-requires : goal.number_of-requires
number_of-requires g c =
    number_small c.args.code.now c.args.at c.args.step c.requires.stands (subst HasNumber (sym c.in-Switch.is) tt) (λ k. (c.type_inv.code k).fits)

pub push_switch-requires-clause-few : goal.push_switch-requires-clause-few
push_switch-requires-clause-few g c =
    let next = c.args.at + c.args.step.instr.length in
    let n = c.args.step.instr.operand in
    let w = can_at (place_in c.args.starts.now) c.args.step.row.operand kinds.Switch next c.args.code.now c.args.at n c.in-Switch.is c.requires.can in
    omega (arith, c.number_of.ensures, few_targets (place_in c.args.starts.now) next c.args.code.now c.args.at n w)

pub push_switch-requires-clause-there : goal.push_switch-requires-clause-there
push_switch-requires-clause-there g c = λ k lt. has_targets c.args.code.now c.args.at c.args.step c.requires.stands c.in-Switch.is k (omega (arith, lt, c.number_of.ensures))

pub push_switch-requires-clause-near : goal.push_switch-requires-clause-near
push_switch-requires-clause-near g c =
    let next = c.args.at + c.args.step.instr.length in
    let n = c.args.step.instr.operand in
    let w = can_at (place_in c.args.starts.now) c.args.step.row.operand kinds.Switch next c.args.code.now c.args.at n c.in-Switch.is c.requires.can in
    subst (λ (m : ℕ). Each (λ z. unsigned_abs z < 2 ^ 32) (map (target next) (map (target_at c.args.code.now c.args.at) (range_with_len 0 m)))) (sym c.number_of.ensures) w.near

pub push_switch-requires-clause-fit : goal.push_switch-requires-clause-fit
push_switch-requires-clause-fit g c =
    let next = c.args.at + c.args.step.instr.length in
    let n = c.args.step.instr.operand in
    let place = place_in c.args.starts.now in
    let w = can_at place c.args.step.row.operand kinds.Switch next c.args.code.now c.args.at n c.in-Switch.is c.requires.can in
    subst (λ (m : ℕ). AllFit w16 (map (moved place next) (map (target_at c.args.code.now c.args.at) (range_with_len 0 m)))) (sym c.number_of.ensures) (w.fits (g.N.Renumber.numbered c.args.renumber.now))

pub number_of-requires-in-TypeToken : goal.number_of-requires-in-TypeToken
number_of-requires-in-TypeToken g c =
    number_small c.args.code.now c.args.at c.args.step c.requires.stands (has_number c.args.step.row.operand (is_token c.args.step.row.operand c.in-TypeToken.is)) (λ k. (c.type_inv.code k).fits)

pub overflow_add-from : goal.overflow_add-from
overflow_add-from g c =
    let i = operand_inside c.args.code.now c.args.at c.args.step c.requires.stands (λ k. (c.type_inv.code k).fits) in
    record { fits = omega (arith, i.0, i.1, c.requires.small, c.opcode_size.ensures) }

pub push_copied-requires-clause-order : goal.push_copied-requires-clause-order
push_copied-requires-clause-order g c =
    let i = operand_inside c.args.code.now c.args.at c.args.step c.requires.stands (λ k. (c.type_inv.code k).fits) in
    omega (arith, i.0, c.opcode_size.ensures)

pub push_copied-requires-clause-inside : goal.push_copied-requires-clause-inside
push_copied-requires-clause-inside g c =
    (operand_inside c.args.code.now c.args.at c.args.step c.requires.stands (λ k. (c.type_inv.code k).fits)).1

pub returns-in-BranchShort : goal.returns-in-BranchShort
returns-in-BranchShort g c =
    let next = c.args.at + c.args.step.instr.length in
    let n = c.args.step.instr.operand in
    let place = place_in c.args.starts.now in
    let token = g.N.Renumber.numbered c.args.renumber.now in
    let fn : FitsSigned w64 n = search rules in
    let fm : FitsSigned w64 c.moved.result = search rules in
    let P : List ℕ → Type 0 = λ l. OnOk c.push_near.result (c.push_near.new.out.items ≡ c.args.out.now.items ++ l) in
    subst P
    (ap (λ (z : ℤ). signed_onto w8 z []) (to_z-of_z w64 c.moved.result fm ∙ c.moved.ensures ∙ ap (moved place next) (to_z-of_z w64 n fn))
    ∙ same_kind place token next c.args.code.now c.args.at n c.args.step.row.operand kinds.BranchShort c.in-BranchShort.is)
    c.push_near.ensures

pub returns-in-BranchLong : goal.returns-in-BranchLong
returns-in-BranchLong g c =
    let next = c.args.at + c.args.step.instr.length in
    let n = c.args.step.instr.operand in
    let place = place_in c.args.starts.now in
    let token = g.N.Renumber.numbered c.args.renumber.now in
    let fn : FitsSigned w64 n = search rules in
    let fm : FitsSigned w64 c.moved-in-BranchLong.result = search rules in
    let P : List ℕ → Type 0 = λ l. OnOk c.push_distance.result (c.push_distance.new.out.items ≡ c.args.out.now.items ++ l) in
    subst P
    (ap (λ (z : ℤ). signed_onto w16 z []) (to_z-of_z w64 c.moved-in-BranchLong.result fm ∙ c.moved-in-BranchLong.ensures ∙ ap (moved place next) (to_z-of_z w64 n fn))
    ∙ same_kind place token next c.args.code.now c.args.at n c.args.step.row.operand kinds.BranchLong c.in-BranchLong.is)
    c.push_distance.ensures

pub returns-in-Switch : goal.returns-in-Switch
returns-in-Switch g c =
    let next = c.args.at + c.args.step.instr.length in
    let n = c.args.step.instr.operand in
    let place = place_in c.args.starts.now in
    let token = g.N.Renumber.numbered c.args.renumber.now in
    let P : List ℕ → Type 0 = λ l. OnOk c.push_switch.result (c.push_switch.new.out.items ≡ c.args.out.now.items ++ l) in
    subst P
    (switch_written place token next c.args.code.now c.args.at n c.number_of.result c.number_of.ensures
    ∙ same_kind place token next c.args.code.now c.args.at n c.args.step.row.operand kinds.Switch c.in-Switch.is)
    c.push_switch.ensures

pub returns-in-TypeToken : goal.returns-in-TypeToken
returns-in-TypeToken g c =
    let next = c.args.at + c.args.step.instr.length in
    let n = c.args.step.instr.operand in
    let place = place_in c.args.starts.now in
    let token = g.N.Renumber.numbered c.args.renumber.now in
    let kind = c.args.step.row.operand in
    let P : List ℕ → Type 0 = λ l. OnOk c.push_number.result (c.push_number.new.out.items ≡ c.args.out.now.items ++ l) in
    subst P
    (ap (λ (m : ℕ). number_onto 1 m []) (c.token.ensures ∙ ap token c.number_of-in-TypeToken.ensures)
    ∙ token_written place token kind next c.args.code.now c.args.at n (is_token kind c.in-TypeToken.is))
    c.push_number.ensures

pub returns-in-Nothing : goal.returns-in-Nothing
returns-in-Nothing g c =
    let next = c.args.at + c.args.step.instr.length in
    let place = place_in c.args.starts.now in
    let token = g.N.Renumber.numbered c.args.renumber.now in
    let P : List ℕ → Type 0 = λ l. OnOk c.push_copied.result (c.push_copied.new.out.items ≡ c.args.out.now.items ++ l) in
    subst P
    (ap (λ (m : ℕ). take (next - (c.args.at + m)) (drop (c.args.at + m) c.args.code.now)) c.opcode_size.ensures
    ∙ stays_written c.args.code.now c.args.at c.args.step c.requires.stands (λ k. (c.type_inv.code k).fits) place token next (does_stay c.args.step.row.operand c.in-Nothing.is))
    c.push_copied.ensures
