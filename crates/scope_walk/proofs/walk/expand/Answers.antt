use Rattle.std.proofs.Common.{◌≡◌, ◌<◌, length, map, refl, sym, ap, ◌∙◌, arith, Some}
use Rattle.std.specs.Prelude.{slice_get, slice_index}
use Rattle.std.specs.Option.{option_map}
use Rattle.std.proofs.lemmas.List.{get_or_default}
use Rattle.machine.specs.Throw.{on_some}
use Rattle.member_keys.specs.Seen.{class_seen}
use Rattle.scope_walk.proofs.Lists.{stands_at}
use Rattle.scope_walk.proofs.Walks.{visited, passed_by}
use Rattle.scope_walk.proofs.Steps.{visit_step, handled_more, lists_at, below_end}
use Rattle.scope_walk.proofs.walk.expand.Goals as goal

pub loop-n-preserved : goal.loop-n-preserved
loop-n-preserved g c =
    let at : slice_index c.args.walk.now.found.items c.args.at ≡ c.index.result.now = get_or_default c.args.walk.now.found.items c.args.at 0 c.index.result.now c.requires.place ∙ sym c.index.ensures in
    let inside = c.requires.walked.is_sound.inside c.args.at c.requires.place in
    let within : c.index.result.now < length c.args.nested.now = omega (arith, at, inside, c.requires.size) in
    let there : slice_get (map (λ rows. rows.items) c.args.nested.now) c.index.result.now ≡ Some c.deref-n-items.result.now = lists_at (λ rows. rows.items) c.args.nested.now c.index.result.now c.index-nested-row.result c.deref-n-items.result.now within c.index-nested-row.is c.deref-n-items.ensures.value in
    let held = c.loop-n.invariant in
    let visit =
    visit_step (g.R.References.rows c.args.references.now) c.args.file c.loop-n.walk c.visit.new.walk c.args.at c.index.result.now (slice_index c.deref-n-items.result.now c.loop-n.n-index) c.in-Some.outer held.walked held.low held.place held.outer
    (λ k h. c.requires.whole k (omega (arith, h, held.size))) (c.requires.inside.only c.index.result.now c.deref-n-items.result.now c.loop-n.n-index there c.loop-n-test.true) c.in_ok-visit.ensures in
    record {
      size = visit.size ∙ held.size;
      low = visit.low;
      place = visit.place;
      walked = visit.walked;
      outer = visit.outer;
      handled = handled_more (g.R.References.rows c.args.references.now) c.args.file c.loop-n.walk c.visit.new.walk c.args.at c.index.result.now c.in-Some.outer c.deref-n-items.result.now c.loop-n.n-index visit held.handled;
    }

pub returns-after-loop-n-clause-walked : goal.returns-after-loop-n-clause-walked
returns-after-loop-n-clause-walked g c =
    let at : slice_index c.args.walk.now.found.items c.args.at ≡ c.index.result.now = get_or_default c.args.walk.now.found.items c.args.at 0 c.index.result.now c.requires.place ∙ sym c.index.ensures in
    let inside = c.requires.walked.is_sound.inside c.args.at c.requires.place in
    let within : c.index.result.now < length c.args.nested.now = omega (arith, at, inside, c.requires.size) in
    let there : slice_get (map (λ rows. rows.items) c.args.nested.now) c.index.result.now ≡ Some c.deref-n-items.result.now = lists_at (λ rows. rows.items) c.args.nested.now c.index.result.now c.index-nested-row.result c.deref-n-items.result.now within c.index-nested-row.is c.deref-n-items.ensures.value in
    let held = c.loop-n.invariant in
    visited (g.R.References.rows c.args.references.now) c.args.file c.loop-n.walk.resolved.items c.loop-n.walk.found.items c.args.at c.index.result.now c.in-Some.outer held.walked held.low held.place held.outer
    (λ k h. c.requires.whole k (omega (arith, h, held.size))) c.deref-n-items.result.now
    (λ n p. c.requires.inside.all n c.index.result.now c.deref-n-items.result.now (below_end (g.R.References.rows c.args.references.now) c.args.file (length c.args.walk.now.resolved.items) n c.index.result.now c.requires.whole p) p there)
    (λ i h. held.handled i (omega (arith, h, c.loop-n-test.false)))

pub returns-in_default-clause-walked : goal.returns-in_default-clause-walked
returns-in_default-clause-walked g c =
    let at : slice_index c.args.walk.now.found.items c.args.at ≡ c.index.result.now = get_or_default c.args.walk.now.found.items c.args.at 0 c.index.result.now c.requires.place ∙ sym c.index.ensures in
    let inside = c.requires.walked.is_sound.inside c.args.at c.requires.place in
    let within : c.index.result.now < length c.args.walk.now.resolved.items = omega (arith, at, inside) in
    let there : slice_get c.args.walk.now.resolved.items c.index.result.now ≡ Some c.index-2.result.now = stands_at c.args.walk.now.resolved.items c.args.walk.now.resolved.items c.index.result.now c.index-2.result.now refl within c.index-2.ensures in
    passed_by (g.R.References.rows c.args.references.now) c.args.file c.args.walk.now.resolved.items c.args.walk.now.found.items c.args.at c.index.result.now at
    (ap (λ o. on_some o (option_map class_seen)) there ∙ ap (option_map class_seen) c.in_default.is) c.requires.walked
