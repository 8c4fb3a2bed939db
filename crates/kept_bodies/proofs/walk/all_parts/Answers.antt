use Rattle.std.proofs.Common.{◌≡◌, ◌+◌, ◌-◌, ◌<◌, ◌++◌, ℕ, true, false, sym, ap, ◌∙◌, arith}
use Rattle.file_tables.specs.Metadata.{row_count}
use Rattle.world_rows.specs.Tokens.{methods}
use Rattle.looked_rows.specs.Looked.{file_with}
use Rattle.row_numbers.specs.declared.table.Table.TheVariants as table
use Rattle.kept_marks.specs.Masks.{masks_of}
use Rattle.kept_bodies.specs.Kept.{body_at}
use Rattle.kept_bodies.specs.Walk.{parts_from}
use Rattle.kept_bodies.proofs.WalkLaws.{kept_on, passed_on}
use Rattle.kept_bodies.proofs.walk.all_parts.Goals as goal
use Rattle.kept_bodies.proofs.walk.all_parts.Goals.{then-keeps+in_ok-push_method, else-keeps}

pub loop-n-preserved : goal.loop-n-preserved
loop-n-preserved g c =
    let keep = masks_of c.args.choice.now table.MethodDef in
    let x = file_with c.args.pe.now c.args.tables.now in
    let parts = λ (first n : ℕ). g.T.MethodParts.parts c.args.of.now first n (body_at x n) in
    let range : ℕ → ℕ = λ n. g.T.MethodParts.range c.args.of.now (body_at x n) in
    let count = row_count c.args.tables.now methods in
    let n = c.loop-n.n in
    let first = c.loop-n.first in
    let whole = parts_from keep parts range count 0 0 in
    let within : n < count = omega (arith, c.loop-n-test.true, c.rows-n-end.ensures) in
    elim c.if-keeps.branch [
      | then-keeps+in_ok-push_method w ↦
          let body = w.body_of-body.ensures.body ∙ ap (λ s. body_at (file_with s c.args.tables.now) n) c.loop-n.invariant.same in
          let on : keep n ≡ true = sym c.keeps.ensures ∙ w.if-keeps.true in
          let next : c.if-keeps.first ≡ first + range n = cc w.first-is ∙ w.in_ok-push_method.ensures.next ∙ ap (λ b. first + g.T.MethodParts.range c.args.of.now b) body in
          let out : c.if-keeps.out.items ≡ c.loop-n.out.items ++ parts first n = cc w.out-is ∙ w.in_ok-push_method.ensures.parts ∙ ap (λ b. c.loop-n.out.items ++ g.T.MethodParts.parts c.args.of.now first n b) body in
          record {
            same = cc (w.sections-is, w.body_of-body.ensures.same, c.loop-n.invariant.same);
            low = omega (arith, w.first-is, w.in_ok-push_method.ensures.low);
            rest = ap (λ k. c.if-keeps.out.items ++ parts_from keep parts range (count - (n + 1)) (n + 1) k) next ∙ kept_on keep parts range count n first c.loop-n.out.items whole within c.loop-n.invariant.rest c.if-keeps.out.items on out;
          }
      | else-keeps w ↦
          let off : keep n ≡ false = sym c.keeps.ensures ∙ w.if-keeps.false in
          let next : c.if-keeps.first ≡ first = cc w.first-is in
          let out : c.if-keeps.out.items ≡ c.loop-n.out.items = cc w.out-is in
          record {
            same = cc (w.sections-is, c.loop-n.invariant.same);
            low = omega (arith, next, c.loop-n.invariant.low);
            rest = ap (λ k. c.if-keeps.out.items ++ parts_from keep parts range (count - (n + 1)) (n + 1) k) next ∙ ap (λ o. o ++ parts_from keep parts range (count - (n + 1)) (n + 1) first) out ∙ passed_on keep parts range count n first c.loop-n.out.items whole within c.loop-n.invariant.rest off;
          }
    ]
