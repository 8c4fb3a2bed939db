use Rattle.std.proofs.Common.{◌≤◌, arith, subst, sym}
use Rattle.cil_layout.specs.Asked.{Asked, rows_of, weight_of}
use Rattle.base_tables.specs.Shape.{items_of}
use Rattle.base_lib.proofs.Askable.{are_fit}
use Rattle.base_lib.proofs.Room.{items_few, small_at, walked_room, walked_light}
use Rattle.base_lib.proofs.library.library.Goals as goal

pub add_item-requires-clause-few : goal.add_item-requires-clause-few
add_item-requires-clause-few c = omega (arith, items_few c.args.items.now c.requires.fit)

pub add_item-requires-clause-short : goal.add_item-requires-clause-short
add_item-requires-clause-short c = (are_fit (items_of c.args.items.now) c.requires.fit).literals

pub add_item-requires-clause-small : goal.add_item-requires-clause-small
add_item-requires-clause-small c = small_at c.args.items.now c.loop-item.item-index _ (omega arith) c.requires.fit

pub add_item-requires-clause-room : goal.add_item-requires-clause-room
add_item-requires-clause-room c = λ table. subst (λ (r : Asked). rows_of r table ≤ 60000) (sym c.loop-item.invariant) (walked_room c.args.name.now c.args.items.now c.loop-item.item-index table c.requires.fit)

pub add_item-requires-clause-light : goal.add_item-requires-clause-light
add_item-requires-clause-light c = subst (λ (r : Asked). weight_of r ≤ 4000000) (sym c.loop-item.invariant) (walked_light c.args.name.now c.args.items.now c.loop-item.item-index c.requires.name c.requires.fit)
