use Rattle.std.proofs.Common.{List, sym, ap, ◌∙◌}
use Rattle.std.specs.Prelude.{slice_get}
use Rattle.std.specs.Option.{option_map}
use Rattle.std.proofs.lemmas.Option.{slice_get-map}
use Rattle.image_bytes.specs.Layout.{Image}
use Rattle.set_names.specs.Names.{seen_all}
use Rattle.tiny_rows.specs.Rows.{rows_seen}
use Rattle.bound_answers.proofs.set.BoundSet.image.Goals as goal

pub returns : goal.returns
returns c =
    let images = c.self.inside.names.now in
    ap (option_map rows_seen) (c.image.ensures ∙ ap (slice_get images) c.from.ensures)
    ∙ sym (slice_get-map rows_seen images c.args.file)
    ∙ ap (λ (images : List Image). slice_get (seen_all images) c.args.file) c.self.view_is
