use Rattle.std.proofs.Common.{List, ap, ◌∙◌}
use Rattle.image_bytes.specs.Layout.{Image}
use Rattle.set_names.specs.Names.{seen_all}
use Rattle.board_model.specs.Bound.{named}
use Rattle.bound_answers.proofs.set.BoundSet.bindings.Goals as goal

pub returns : goal.returns
returns c = c.self.invariant.bound ∙ ap (λ (images : List Image). named (seen_all images)) c.self.view_is
