use Rattle.std.proofs.Common.{◌≡◌, ◌∙◌, ◌≤◌, suc, length, ◌||◌, List, refl, sym, ap, arith, add-one, subst}
use Rattle.std.specs.Prelude.{slice_get}
use Rattle.std.specs.List.{list_any}
use Rattle.std.specs.Option.{option_map}
use Rattle.machine.specs.Data.{id_eq}
use Rattle.classes.specs.Queries.{reaches}
use Rattle.member_keys.specs.declared.keys.ClassId.{ClassId}
use Rattle.member_keys.specs.Seen.{class_seen}
use Rattle.class_table.specs.Seen.{classes_seen}
use Rattle.class_reach.specs.Found.{among}
use Rattle.class_reach.specs.Levels.{all_nexts, AreReached}
use Rattle.class_reach.specs.Until.{parents_until}
use Rattle.class_reach.proofs.ReachLaws.{reached_first, reached_next, reached_all, first_front, whole_level}
use Rattle.class_reach.proofs.reach.reached_until.Goals as goal

pub loop-round-init : goal.loop-round-init
loop-round-init c =
    let items = c.in_ok-found.ensures.items in
    record {
      found = c.in_ok-found.ensures.found;
      first = ap (λ (xs : List ClassId). slice_get xs 0) items;
      reached = subst (λ xs. AreReached (parents_until (classes_seen c.args.table.now) (option_map class_seen c.args.top)) (class_seen c.args.class) 0 0 xs) (sym items) (reached_first (parents_until (classes_seen c.args.table.now) (option_map class_seen c.args.top)) (class_seen c.args.class) c.args.class refl);
    }

pub returns-then-start-end-clause-first : goal.returns-then-start-end-clause-first
returns-then-start-end-clause-first c = c.loop-round.invariant.first

pub returns-then-start-end-clause-once : goal.returns-then-start-end-clause-once
returns-then-start-end-clause-once c = c.loop-round.invariant.found.once

pub returns-then-start-end-clause-reaches : goal.returns-then-start-end-clause-reaches
returns-then-start-end-clause-reaches c =
    let next = parents_until (classes_seen c.args.table.now) (option_map class_seen c.args.top) in
    let items = c.loop-round.found.items.items in
    let whole : c.loop-round.start ≡ length items = omega (arith, c.if-start-end.true, c.len-end.ensures, c.loop-round.found.items.ok) in
    let low : c.loop-round._round ≤ c.args.table.now.size = omega (arith, c.loop-round-test.true) in
    reached_all next (class_seen c.args.class) c.loop-round._round c.args.table.now.size items (subst (λ n. AreReached next (class_seen c.args.class) c.loop-round._round n items) whole c.loop-round.invariant.reached) low

pub add_level-requires-clause-found : goal.add_level-requires-clause-found
add_level-requires-clause-found c = c.loop-round.invariant.found

pub add_level-requires-clause-start : goal.add_level-requires-clause-start
add_level-requires-clause-start c = omega (arith, c.loop-round.invariant.reached.within, c.len-end.ensures, c.loop-round.found.items.ok)

pub loop-round-preserved : goal.loop-round-preserved
loop-round-preserved c =
    let next = parents_until (classes_seen c.args.table.now) (option_map class_seen c.args.top) in
    let from = class_seen c.args.class in
    let steps = c.loop-round._round in
    let items = c.loop-round.found.items.items in
    let all = c.add_level.new.found.items.items in
    let adds = c.in_ok-add_level.ensures in
    let here = c.loop-round.invariant in
    let end : c.len-end.result ≡ length items = omega (arith, c.len-end.ensures, c.loop-round.found.items.ok) in
    let more =
    reached_next next from steps c.loop-round.start items adds.more.0 all here.reached adds.more.1
    (λ d. adds.has d ∙ ap (λ xs. among d items || list_any (id_eq d) (all_nexts next xs)) (whole_level items c.loop-round.start c.len-end.result end)) in
    record {
      found = adds.found;
      first = first_front items adds.more.0 all c.args.class adds.more.1 here.first;
      reached = subst (λ n. AreReached next from n c.len-end.result all) (sym (add-one steps)) (subst (λ n. AreReached next from (suc steps) n all) (sym end) more);
    }

pub returns-clause-first : goal.returns-clause-first
returns-clause-first c = c.loop-round.invariant.first

pub returns-clause-once : goal.returns-clause-once
returns-clause-once c = c.loop-round.invariant.found.once

pub returns-clause-reaches : goal.returns-clause-reaches
returns-clause-reaches c =
    let next = parents_until (classes_seen c.args.table.now) (option_map class_seen c.args.top) in
    let whole : c.loop-round._round ≡ c.args.table.now.size = omega (arith, c.loop-round-test.false, c.loop-round.auto._round-end) in
    λ d. c.loop-round.invariant.reached.reached d ∙ ap (λ n. reaches n next (class_seen c.args.class) d) whole
