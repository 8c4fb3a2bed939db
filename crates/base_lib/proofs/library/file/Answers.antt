use Rattle.std.proofs.Common.{arith, ap, ◌∙◌, Err}
use Rattle.cil_layout.specs.Asked.{weight_of}
use Rattle.base_tables.specs.Shape.{items_of}
use Rattle.base_lib.proofs.Room.{whole_light}
use Rattle.base_lib.proofs.library.file.Goals as goal

-- the weight is within bounds
pub unreachable-requires : goal.unreachable-requires
unreachable-requires c =
    let heavy = c.finish.ensures.full.0 (c.in-Err-Full.is ∙ ap Err c.in-Err-Full.field-0-is) in
    omega (arith, heavy, ap weight_of (c.in_ok-library.ensures {u = tt}), whole_light c.args.name.now (items_of c.args.items.now) c.requires.name c.requires.fit)
