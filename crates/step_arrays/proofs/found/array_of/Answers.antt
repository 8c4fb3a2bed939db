use Rattle.std.proofs.Common.{refl}
use Rattle.step_arrays.proofs.Lengths.{array_then, array_else}
use Rattle.step_arrays.proofs.found.array_of.Goals as goal

pub returns-then-shape-eq1 : goal.returns-then-shape-eq1
returns-then-shape-eq1 c = λ m e keeps there. array_then c.shape-shape.result e.shape _ (c.shape-shape.ensures.thing m e keeps there) c.if-shape-eq1.true refl

pub returns-else-shape-eq1 : goal.returns-else-shape-eq1
returns-else-shape-eq1 c = λ m e keeps there. array_else c.shape-shape.result e.shape _ (c.shape-shape.ensures.thing m e keeps there) c.if-shape-eq1.false refl
