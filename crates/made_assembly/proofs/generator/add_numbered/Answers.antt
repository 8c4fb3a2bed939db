use Rattle.std.proofs.Common.{arith, ap}
use Rattle.cil_layout.specs.Asked.{rows_of}
use Rattle.cil_layout.proofs.Counts.{rows_of-with_row}
use Rattle.made_assembly.specs.Made.{class_row}
use Rattle.made_assembly.proofs.generator.add_numbered.Goals as goal

-- a class is no method
pub add_method-requires : goal.add_method-requires
add_method-requires c =
    omega (arith, ap (λ r. rows_of r 6) (c.in_ok-add_class.ensures {u = tt}), rows_of-with_row c.args.build.now (class_row c.as_str.result.now) 6, c.requires.methods)
