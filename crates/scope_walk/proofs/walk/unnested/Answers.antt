use Rattle.std.proofs.Common.{◌+◌, ◌∷◌, ◌++◌, [], length, map, sym, ap, ◌∙◌, subst}
use Rattle.std.proofs.lemmas.List.{map-append}
use Rattle.scope_walk.specs.Walk.{AreEmpty}
use Rattle.scope_walk.proofs.Steps.{empty_more}
use Rattle.scope_walk.proofs.Lists.{longer}
use Rattle.scope_walk.proofs.walk.unnested.Goals as goal

pub loop-n-preserved : goal.loop-n-preserved
loop-n-preserved c =
    let pushed = c.in_ok-push.ensures.items in
    record {
      size = ap length pushed ∙ longer c.loop-n.nested.items c.new.result ∙ ap (λ k. k + 1) c.loop-n.invariant.size;
      empty = subst AreEmpty (sym (ap (map (λ rows. rows.items)) pushed ∙ map-append (λ rows. rows.items) c.loop-n.nested.items (c.new.result ∷ []) ∙ ap (λ rows. map (λ rows. rows.items) c.loop-n.nested.items ++ rows ∷ []) c.new.ensures.items)) (empty_more (map (λ rows. rows.items) c.loop-n.nested.items) c.loop-n.invariant.empty);
    }
