use Rattle.std.proofs.Common.{◌-◌, ◌+◌, map, sym, ap, ◌∙◌, rules}
use Rattle.std.specs.Prelude.{ℤ, if◌then◌else◌, Some, None, FitsSigned}
use Rattle.std.specs.Int.{w64}
use Rattle.std.specs.List.{range_with_len}
use Rattle.std.proofs.lemmas.Int.{to_z-of_z}
use Rattle.cil_code.specs.Instructions.{target_at}
use Rattle.image_form.specs.Codes.{target}
use Rattle.code_shrink.specs.Limits.{is_near, first_far}
use Rattle.code_shrink.specs.Shrunk.{moved}
use Rattle.code_shrink.specs.Starts.{place_in}
use Rattle.code_shrink.proofs.Ranges.{small_next, far_next, outside_some, outside_none}
use Rattle.code_shrink.proofs.distances.outside_target.Goals as goal

pub returns-in-Some : goal.returns-in-Some
returns-in-Some c =
    let t = moved (place_in c.args.starts.now) c.args.next in
    let g = target_at c.args.code.now c.args.at in
    let k = c.loop-k.k in
    let fs : FitsSigned w64 c.switch_target.result = search rules in
    let fm : FitsSigned w64 c.moved-distance.result = search rules in
    let fd : FitsSigned w64 c.in-Some.distance = search rules in
    let d = c.moved-distance.ensures ∙ ap t (to_z-of_z w64 c.switch_target.result fs ∙ c.switch_target.ensures) in
    let later = first_far (map t (map g (range_with_len (k + 1) (c.args.targets - (k + 1))))) in
    let e = sym c.in-Some.is ∙ c.outside.ensures ∙ ap (λ (z : ℤ). if is_near z then None else Some z) (to_z-of_z w64 c.moved-distance.result fm ∙ d) in
    ap (λ (z : ℤ). Some z) (to_z-of_z w64 c.in-Some.distance fd) ∙ sym (outside_some (t (g k)) c.in-Some.distance later e) ∙ sym (far_next t g k c.args.targets c.loop-k-test.true) ∙ c.loop-k.invariant.none

pub loop-k-preserved : goal.loop-k-preserved
loop-k-preserved c =
    let t = moved (place_in c.args.starts.now) c.args.next in
    let g = target_at c.args.code.now c.args.at in
    let k = c.loop-k.k in
    let fs : FitsSigned w64 c.switch_target.result = search rules in
    let fm : FitsSigned w64 c.moved-distance.result = search rules in
    let d = c.moved-distance.ensures ∙ ap t (to_z-of_z w64 c.switch_target.result fs ∙ c.switch_target.ensures) in
    let later = first_far (map t (map g (range_with_len (k + 1) (c.args.targets - (k + 1))))) in
    let e = sym c.in_default.is ∙ c.outside.ensures ∙ ap (λ (z : ℤ). if is_near z then None else Some z) (to_z-of_z w64 c.moved-distance.result fm ∙ d) in
    record {
      near = (small_next (target c.args.next) g k c.args.targets c.loop-k-test.true c.loop-k.invariant.near).1;
      none = sym (outside_none (t (g k)) later e) ∙ sym (far_next t g k c.args.targets c.loop-k-test.true) ∙ c.loop-k.invariant.none;
    }
