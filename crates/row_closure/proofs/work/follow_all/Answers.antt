use Rattle.std.proofs.Common.{◌≡◌, ◌<◌, ◌-◌, arith, suc, length, sym}
use Rattle.std.proofs.lemmas.Option.{slice_get-get_or, slice_get_read}
use Rattle.row_closure.proofs.WorkLaws.{unchanged, grows_on, follows_first, follows_next}
use Rattle.row_closure.proofs.work.follow_all.Goals as goal

pub loop-number-init : goal.loop-number-init
loop-number-init c = record {
  grows = unchanged c.args.rules.now c.args.kept.now c.args.met.now.items;
  follows = follows_first c.args.premise c.args.rules.now c.args.row (length c.args.kept.now) c.args.chains.now c.args.kept.now c.index-number.result.now c.requires.chains
      (slice_get_read c.args.chains.now.last.items (length c.args.kept.now) c.args.row c.index-number.result.now (sym c.requires.chains.rows) c.requires.row c.index-number.ensures);
}

pub loop-number-preserved : goal.loop-number-preserved
loop-number-preserved c =
    let was = c.loop-number.invariant in
    let is : c.loop-number.number ≡ suc (c.loop-number.number - 1) = omega (arith, c.loop-number-test.true) in
    let inside : c.loop-number.number - 1 < length c.args.rules.now = omega (arith, is, was.follows.inside) in
    let there = slice_get-get_or c.args.rules.now (c.loop-number.number - 1) (record { first = 0; second = 0; then = 0 }) inside in
    let before = slice_get_read c.args.chains.now.before.items (length c.args.rules.now) (c.loop-number.number - 1) c.index-number-in-loop-number.result.now (sym c.requires.chains.counted) inside c.index-number-in-loop-number.ensures in
    let grows = grows_on c.args.rules.now c.args.kept.now c.args.met.now.items c.loop-number.kept c.loop-number.met.items c.follow.new.kept c.follow.new.met.items was.grows c.in_ok-follow.ensures.grows in
    record {
      grows = grows;
      follows = follows_next c.args.premise c.args.rules.now c.args.row (length c.args.kept.now) c.args.chains.now c.args.kept.now c.loop-number.kept c.follow.new.kept c.loop-number.number (c.loop-number.number - 1) c.index-number-in-loop-number.result.now _ c.requires.chains was.follows is there before grows.stays c.in_ok-follow.ensures.grows.stays c.in_ok-follow.ensures.gives;
    }

pub loop-number-smaller : goal.loop-number-smaller
loop-number-smaller c =
    let is : c.loop-number.number ≡ suc (c.loop-number.number - 1) = omega (arith, c.loop-number-test.true) in
    let inside : c.loop-number.number - 1 < length c.args.rules.now = omega (arith, is, c.loop-number.invariant.follows.inside) in
    let there = slice_get-get_or c.args.rules.now (c.loop-number.number - 1) (record { first = 0; second = 0; then = 0 }) inside in
    let before = slice_get_read c.args.chains.now.before.items (length c.args.rules.now) (c.loop-number.number - 1) c.index-number-in-loop-number.result.now (sym c.requires.chains.counted) inside c.index-number-in-loop-number.ensures in
    let link = c.requires.chains.before (c.loop-number.number - 1) c.index-number-in-loop-number.result.now _ before there in
    omega (arith, link.inside, is)
