use Rattle.std.proofs.Common.{◌≡◌, ◌∙◌, suc, ◌+◌, ◌-◌, sym, ap, arith}
use Rattle.std.specs.Option.{option_map}
use Rattle.classes.specs.Queries.{is_virtual_named}
use Rattle.class_targets.specs.Virtual.{slot_of}
use Rattle.tiny_types.proofs.OwnLaws.{hit, miss, ends_at}
use Rattle.tiny_types.proofs.own.first_wanted.Goals as goal

pub returns-then-is_wanted : goal.returns-then-is_wanted
returns-then-is_wanted c =
    λ m is.
    let place = c.loop-place.place in
    let n = c.args.first + c.args.count - place - 1 in
    let left : suc n + place ≡ c.args.first + c.args.count = omega (arith, c.loop-place-test.true, c.min-end.ensures) in
    sym
    (ap (option_map slot_of)
    (sym (c.loop-place.invariant.told m is (suc n) left)
    ∙ hit c.args.file c.args.rows.now (is_virtual_named m) place n c.index-rows-place.result (omega (arith, c.loop-place-test.true, c.min-end.ensures)) c.index-rows-place.is (sym (c.is_wanted.ensures m is c.args.file place) ∙ c.if-is_wanted.true)))

pub loop-place-preserved : goal.loop-place-preserved
loop-place-preserved c = record {
  low = omega (arith, c.loop-place-test.true, c.min-end.ensures);
  told =
      λ m is n e.
      sym
      (miss c.args.file c.args.rows.now (is_virtual_named m) c.loop-place.place n c.index-rows-place.result (omega (arith, c.loop-place-test.true, c.min-end.ensures)) c.index-rows-place.is (sym (c.is_wanted.ensures m is c.args.file c.loop-place.place) ∙ c.if-is_wanted.false))
      ∙ c.loop-place.invariant.told m is (suc n) (omega (arith, e));
}

pub returns : goal.returns
returns c =
    λ m is.
    let place = c.loop-place.place in
    let n = c.args.first + c.args.count - place in
    let left : n + place ≡ c.args.first + c.args.count = omega (arith, c.loop-place.invariant.low) in
    sym
    (ap (option_map slot_of)
    (sym (c.loop-place.invariant.told m is n left)
    ∙ ends_at c.args.file c.args.rows.now (is_virtual_named m) place n (λ low. omega (arith, low, c.loop-place-test.false, c.min-end.ensures))))
