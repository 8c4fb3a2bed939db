use Rattle.std.proofs.Common.{◌+◌, ◌-◌, ◌++◌, ℕ, List, [], map, subst, sym, ap, ◌∙◌, rules}
use Rattle.std.specs.Prelude.{ℤ, ◌<◌, ◌^◌, unsigned_abs, FitsSigned}
use Rattle.std.specs.Int.{w16, w64}
use Rattle.std.specs.List.{range_with_len}
use Rattle.std.proofs.lemmas.Int.{to_z-of_z}
use Rattle.cil_code.specs.Instructions.{target_at}
use Rattle.image_bytes.specs.Layout.{all_onto}
use Rattle.image_form.specs.Codes.{target, signed_onto}
use Rattle.code_shrink.specs.Shrunk.{moved}
use Rattle.code_shrink.specs.Starts.{place_in}
use Rattle.code_shrink.proofs.Ranges.{small_next, fit_next, onto_next}
use Rattle.code_shrink.proofs.write.push_distances.Goals as goal

pub moved-requires-clause-near : goal.moved-requires-clause-near
moved-requires-clause-near c =
    let g = target_at c.args.code.now c.args.at in
    let fs : FitsSigned w64 c.switch_target.result = search rules in
    subst (λ (z : ℤ). unsigned_abs (target c.args.next z) < 2 ^ 32) (sym (to_z-of_z w64 c.switch_target.result fs ∙ c.switch_target.ensures))
    (small_next (target c.args.next) g c.loop-k.k c.args.targets c.loop-k-test.true c.loop-k.invariant.near).0

pub push_distance-requires : goal.push_distance-requires
push_distance-requires c =
    let t = moved (place_in c.args.starts.now) c.args.next in
    let g = target_at c.args.code.now c.args.at in
    let fs : FitsSigned w64 c.switch_target.result = search rules in
    let fm : FitsSigned w64 c.moved.result = search rules in
    subst (FitsSigned w16) (sym (to_z-of_z w64 c.moved.result fm ∙ c.moved.ensures ∙ ap t (to_z-of_z w64 c.switch_target.result fs ∙ c.switch_target.ensures)))
    (fit_next t g c.loop-k.k c.args.targets c.loop-k-test.true w16 c.loop-k.invariant.fit).0

pub loop-k-preserved : goal.loop-k-preserved
loop-k-preserved c =
    let t = moved (place_in c.args.starts.now) c.args.next in
    let g = target_at c.args.code.now c.args.at in
    let k = c.loop-k.k in
    let n = c.args.targets in
    let lt = c.loop-k-test.true in
    let fs : FitsSigned w64 c.switch_target.result = search rules in
    let fm : FitsSigned w64 c.moved.result = search rules in
    let d = to_z-of_z w64 c.moved.result fm ∙ c.moved.ensures ∙ ap t (to_z-of_z w64 c.switch_target.result fs ∙ c.switch_target.ensures) in
    let out = c.in_ok-push_distance.ensures {u = tt} ∙ ap (λ (z : ℤ). c.loop-k.out.items ++ signed_onto w16 z []) d in
    let whole = c.args.out.now.items ++ all_onto (signed_onto w16) (map t (map g (range_with_len 0 n))) [] in
    record {
      near = (small_next (target c.args.next) g k n lt c.loop-k.invariant.near).1;
      fit = (fit_next t g k n lt w16 c.loop-k.invariant.fit).1;
      all = ap (λ (l : List ℕ). l ++ all_onto (signed_onto w16) (map t (map g (range_with_len (k + 1) (n - (k + 1))))) []) out ∙ onto_next t g k n lt w16 c.loop-k.out.items whole c.loop-k.invariant.all;
    }
