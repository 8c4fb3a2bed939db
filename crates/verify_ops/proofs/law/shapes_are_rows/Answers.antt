use Rattle.verify_ops.proofs.Choices.{shape_found}
use Rattle.verify_ops.proofs.law.shapes_are_rows.Goals as goal

pub returns : goal.returns
returns c = shape_found
