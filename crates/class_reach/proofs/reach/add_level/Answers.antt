use Rattle.std.proofs.Common.{◌≡◌, ◌∙◌, ◌-◌, ◌<◌, ◌≤◌, length, take, drop, sym, ap, arith, subst, get_or}
use Rattle.std.proofs.Math.ListN.{get_or-append}
use Rattle.std.specs.Option.{option_map}
use Rattle.member_keys.specs.Seen.{class_seen}
use Rattle.class_table.specs.Seen.{classes_seen}
use Rattle.class_reach.specs.Found.{Adds}
use Rattle.class_reach.specs.Levels.{all_nexts}
use Rattle.class_reach.specs.Until.{parents_until}
use Rattle.class_reach.proofs.FoundLaws.{adds_both}
use Rattle.class_reach.proofs.ReachLaws.{one_more_level}
use Rattle.class_reach.proofs.reach.add_level.Goals as goal

pub loop-place-preserved : goal.loop-place-preserved
loop-place-preserved c =
    let next = parents_until (classes_seen c.args.table.now) (option_map class_seen c.args.top) in
    let items = c.args.found.now.items.items in
    let place = c.loop-place.place in
    let here = c.loop-place.invariant.adds in
    let below : place < length items = omega (arith, c.loop-place-test.true, c.requires.end) in
    let low : c.args.start ≤ place = omega arith in
    let is : c.index-class.result.now ≡ get_or items place c.index-class.result.now = c.index-class.ensures ∙ ap (λ xs. get_or xs place c.index-class.result.now) here.more.1 ∙ get_or-append items here.more.0 c.index-class.result.now place below in
    record {
      adds =
          subst (λ xs. Adds xs c.args.found.now c.add_parents.new.found) (sym (one_more_level next items c.args.start place c.index-class.result.now low below))
          (adds_both (all_nexts next (take (place - c.args.start) (drop c.args.start items))) (next (class_seen (get_or items place c.index-class.result.now))) c.args.found.now c.loop-place.found c.add_parents.new.found here
          (subst (λ x. Adds (next (class_seen x)) c.loop-place.found c.add_parents.new.found) is c.in_ok-add_parents.ensures));
    }

pub returns : goal.returns
returns c =
    let whole : c.loop-place.place ≡ c.args.end = omega (arith, c.requires.start, c.loop-place-test.false) in
    subst (λ n. Adds (all_nexts (parents_until (classes_seen c.args.table.now) (option_map class_seen c.args.top)) (take (n - c.args.start) (drop c.args.start c.args.found.now.items.items))) c.args.found.now c.loop-place.found) whole c.loop-place.invariant.adds
