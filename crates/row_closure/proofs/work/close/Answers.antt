use Rattle.std.proofs.Common.{◌<◌, arith, length, refl}
use Rattle.std.proofs.lemmas.Option.{slice_get_read, slice_get_within}
use Rattle.row_closure.proofs.Places.{held_within}
use Rattle.row_closure.proofs.WorkLaws.{grows_on, settled_next, all_settled}
use Rattle.row_closure.proofs.work.close.Goals as goal

pub follow_all-requires-clause-row : goal.follow_all-requires-clause-row
follow_all-requires-clause-row c =
    let here = slice_get_read c.loop-done.met.items (length c.loop-done.met.items) c.loop-done.done c.index-row.result.now refl (omega (arith, c.loop-done-test.true, c.len.ensures, c.loop-done.met.ok)) c.index-row.ensures in
    held_within c.loop-done.kept c.index-row.result.now (c.loop-done.invariant.lists.held c.loop-done.done c.index-row.result.now here)

pub follow_all-requires-in-loop-done-clause-row : goal.follow_all-requires-in-loop-done-clause-row
follow_all-requires-in-loop-done-clause-row c =
    let here = slice_get_read c.loop-done.met.items (length c.loop-done.met.items) c.loop-done.done c.index-row.result.now refl (omega (arith, c.loop-done-test.true, c.len.ensures, c.loop-done.met.ok)) c.index-row.ensures in
    let inside = held_within c.loop-done.kept c.index-row.result.now (c.loop-done.invariant.lists.held c.loop-done.done c.index-row.result.now here) in
    omega (arith, inside, c.in_ok-follow_all.ensures.grows.size)

pub loop-done-preserved : goal.loop-done-preserved
loop-done-preserved c =
    let was = c.loop-done.invariant in
    let first = c.in_ok-follow_all.ensures in
    let second = c.in_ok-follow_all-2.ensures in
    let inside : c.loop-done.done < length c.loop-done.met.items = omega (arith, c.loop-done-test.true, c.len.ensures, c.loop-done.met.ok) in
    let here = slice_get_read c.loop-done.met.items (length c.loop-done.met.items) c.loop-done.done c.index-row.result.now refl inside c.index-row.ensures in
    let both = grows_on c.args.rules.now c.loop-done.kept c.loop-done.met.items c.follow_all.new.kept c.follow_all.new.met.items c.follow_all-in-loop-done.new.kept c.follow_all-in-loop-done.new.met.items first.grows second.grows in
    let stands = slice_get_within c.follow_all-in-loop-done.new.met.items c.loop-done.done c.index-row.result.now (both.front c.loop-done.done c.index-row.result.now here) in
    record {
      grows = grows_on c.args.rules.now c.args.kept.now c.in_ok-met.met.items c.loop-done.kept c.loop-done.met.items c.follow_all-in-loop-done.new.kept c.follow_all-in-loop-done.new.met.items was.grows both;
      lists = both.lists was.lists;
      inside = omega (arith, stands);
      settled = settled_next c.args.rules.now c.loop-done.kept c.loop-done.met.items c.loop-done.done c.index-row.result.now here was.lists was.settled c.follow_all.new.kept c.follow_all.new.met.items first.grows first.gives c.follow_all-in-loop-done.new.kept c.follow_all-in-loop-done.new.met.items second.grows second.gives;
    }

pub returns-clause-closure : goal.returns-clause-closure
returns-clause-closure c =
    let was = c.loop-done.invariant in
    record {
      has = was.grows.stays;
      closed = all_settled c.args.rules.now c.loop-done.kept c.loop-done.met.items c.loop-done.done (omega (arith, c.loop-done-test.false, c.len.ensures, c.loop-done.met.ok)) was.lists was.settled;
      least = λ other has closed. was.grows.within other closed has;
    }
