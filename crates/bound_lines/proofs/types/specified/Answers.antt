use Rattle.std.proofs.Common.{List, sym, ap, ◌∙◌}
use Rattle.std.specs.Prelude.{slice_get}
use Rattle.machine.specs.Throw.{on_some}
use Rattle.image_bytes.specs.Layout.{Image}
use Rattle.assemblies.specs.Binding.{expanded}
use Rattle.world_rows.specs.World.{size_of}
use Rattle.board_model.specs.Bound.{named}
use Rattle.set_names.specs.Names.{seen_all}
use Rattle.set_signatures.specs.declared.tokens.Tokens.{Tokens}
use Rattle.tiny_members.specs.Rows.{field_type_in}
use Rattle.bound_lines.proofs.MeaningLaws.{image_there, signature_told, spec_is}
use Rattle.bound_lines.proofs.types.specified.Goals as goal

pub returns : goal.returns
returns c =
    let images = c.args.set.now in
    let ps = seen_all images in
    let i = c.in_ok-image.image.now in
    let at = c.from-at.result in
    let bytes = c.in_ok-signature.signature.now in
    let found = c.in_ok-image.ensures ∙ ap (λ (l : List Image). slice_get l at) c.names.ensures in
    let tokens : Tokens = record { file = at; types = c.from.result; references = c.references.result } in
    c.field_type.ensures
    ∙ signature_told i c.has_rows.ensures ps tokens (image_there images at i found) (c.from.ensures ∙ c.type_count.ensures) (λ n. c.references.ensures n ∙ ap (λ g. g c.args.file 1 n) c.bindings.ensures ∙ ap (λ f. named ps f 1 n) (sym c.from-at.ensures)) bytes
    ∙ ap (λ f. on_some (field_type_in i bytes) (expanded (size_of ps) ps f)) c.from-at.ensures
    ∙ spec_is images c.args.file c.args.row i (found ∙ ap (slice_get images) c.from-at.ensures) (field_type_in i bytes) c.in_ok-signature.ensures
