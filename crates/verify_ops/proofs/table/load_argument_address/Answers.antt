use Rattle.std.proofs.lemmas.Int.{to_z-of_z}
use Rattle.std.proofs.Common.{◌≡◌, Some, sym, ap, ◌∙◌}
use Rattle.std.specs.Prelude.{slice_get, unsigned_abs}
use Rattle.verify_ops.proofs.Choices.{argument_address_chosen}
use Rattle.verify_ops.proofs.table.load_argument_address.Goals as goal

pub returns : goal.returns
returns c =
    let r = c.ranges.number in
    let m = simp to_z-of_z at c.unsigned_abs.ensures.value in
    let e : slice_get c.args.facts.now.arguments.now (unsigned_abs c.args.number) ≡ Some c.in_ok-place.place = ap (slice_get c.args.facts.now.arguments.now) (sym m) ∙ c.in_ok-place.ensures in
    argument_address_chosen c.args.facts.now c.args.number c.in_ok-place.place c.address.result e c.address.ensures.row c.address.ensures.spelt
