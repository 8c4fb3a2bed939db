use Rattle.std.proofs.Common.{List, ap, ◌∙◌}
use Rattle.image_bytes.specs.Layout.{Image}
use Rattle.set_names.specs.Names.{seen_all}
use Rattle.board_model.specs.Bound.{named}
use Rattle.bound_answers.proofs.set.BoundSet.referenced.Goals as goal

pub returns : goal.returns
returns c =
    c.resolved.ensures
    ∙ ap (λ f. f c.from-file.result 1 c.from.result) c.self.invariant.bound
    ∙ ap (λ (images : List Image). named (seen_all images) c.from-file.result 1 c.from.result) c.self.view_is
    ∙ ap (λ f. named (seen_all c.args.self.now) f 1 c.from.result) c.from-file.ensures
    ∙ ap (named (seen_all c.args.self.now) c.args.file 1) c.from.ensures
