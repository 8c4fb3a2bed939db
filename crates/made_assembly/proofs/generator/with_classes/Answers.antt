use Rattle.std.proofs.Common.{arith, ap}
use Rattle.cil_layout.specs.Asked.{rows_of}
use Rattle.made_assembly.specs.Made.{classes}
use Rattle.made_assembly.proofs.Rows.{types_of, methods_of, next_classes}
use Rattle.made_assembly.proofs.generator.with_classes.Goals as goal

pub loop-k-init : goal.loop-k-init
unfolding classes
loop-k-init c = c.in_ok-build.ensures {u = tt}

pub add_numbered-requires-clause-types : goal.add_numbered-requires-clause-types
add_numbered-requires-clause-types c = omega (arith, ap (λ r. rows_of r 2) c.loop-k.invariant, types_of c.loop-k.k)

pub add_numbered-requires-clause-methods : goal.add_numbered-requires-clause-methods
add_numbered-requires-clause-methods c = omega (arith, ap (λ r. rows_of r 6) c.loop-k.invariant, methods_of c.loop-k.k)

pub loop-k-preserved : goal.loop-k-preserved
loop-k-preserved c = next_classes c.loop-k.k _ _ c.loop-k.invariant (c.in_ok-add_numbered.ensures {u = tt})
