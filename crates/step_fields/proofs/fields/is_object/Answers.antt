use Rattle.std.proofs.Common.{◌∙◌}
use Rattle.std.proofs.lemmas.Bool.{ne_eqb}
use Rattle.step_fields.proofs.Finding.{is_of_then, is_of_else}
use Rattle.step_fields.proofs.fields.is_object.Goals as goal

pub returns-then-shape-eq0 : goal.returns-then-shape-eq0
returns-then-shape-eq0 g c = λ m e keeps there. is_of_then (g.S.Subclass.sub c.args.types.now) c.args.owner c.shape-shape.result e.shape c.is_sub.result (c.shape-shape.ensures.thing m e keeps there) c.if-shape-eq0.true c.is_sub.ensures

pub returns-else-shape-eq0 : goal.returns-else-shape-eq0
returns-else-shape-eq0 g c = λ m e keeps there. ne_eqb c.shape-shape.result.what 0 c.if-shape-eq0.false ∙ is_of_else (g.S.Subclass.sub c.args.types.now) c.args.owner c.shape-shape.result e.shape (c.shape-shape.ensures.thing m e keeps there) c.if-shape-eq0.false
