use Rattle.std.proofs.lemmas.Int.{to_z-of_z}
use Rattle.std.proofs.Common.{◌≡◌, Some, sym, ap, ◌∙◌}
use Rattle.std.specs.Prelude.{slice_get}
use Rattle.verify_ops.specs.Facts.{number_or}
use Rattle.verify_ops.proofs.Choices.{store_local_chosen}
use Rattle.verify_ops.proofs.table.store_local.Goals as goal

pub returns : goal.returns
returns c =
    let r = c.ranges.number in
    let m = simp to_z-of_z at c.own_or.ensures in
    let e : slice_get c.args.facts.now.locals.now (number_or c.args.own c.args.number) ≡ Some c.in_ok-place.place = ap (slice_get c.args.facts.now.locals.now) (sym m) ∙ c.in_ok-place.ensures in
    store_local_chosen c.args.facts.now c.args.number c.args.own c.in_ok-place.place c.store.result e c.store.ensures.row c.store.ensures.spelt
