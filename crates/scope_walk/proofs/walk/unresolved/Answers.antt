use Rattle.std.proofs.Common.{◌+◌, ◌∷◌, [], ℕ, cond, length, ap, ◌∙◌, Option, None}
use Rattle.std.specs.Prelude.{count_by, is_some}
use Rattle.std.proofs.lemmas.List.Sums.{sum_by-append}
use Rattle.member_keys.specs.declared.keys.ClassId.{ClassId}
use Rattle.scope_walk.specs.Walk.{value_at}
use Rattle.scope_walk.proofs.Steps.{unset_more}
use Rattle.scope_walk.proofs.Lists.{longer}
use Rattle.scope_walk.proofs.walk.unresolved.Goals as goal

pub loop-n-preserved : goal.loop-n-preserved
loop-n-preserved c =
    let pushed = c.in_ok-push.ensures.items in
    let sums = sum_by-append (λ (x : Option ClassId). cond {A = ℕ} (is_some x) 1 0) c.loop-n.types.items (None ∷ []) in
    record {
      size = ap length pushed ∙ longer c.loop-n.types.items None ∙ ap (λ k. k + 1) c.loop-n.invariant.size;
      counted = ap (count_by is_some) pushed ∙ sums ∙ ap (λ k. k + 0) c.loop-n.invariant.counted;
      unset = λ n. ap (λ xs. value_at xs n) pushed ∙ unset_more c.loop-n.types.items c.loop-n.invariant.unset n;
    }
