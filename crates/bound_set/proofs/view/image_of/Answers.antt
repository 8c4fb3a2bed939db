use Rattle.std.proofs.Common.{ap, ◌∙◌, List, ℕ}
use Rattle.std.specs.Option.{option_map}
use Rattle.assemblies.specs.Rows.{Assembly}
use Rattle.image_bytes.specs.Layout as layout
use Rattle.image_form.specs.Whole.{seen}
use Rattle.boot_scan.specs.Images.{FORMAT}
use Rattle.boot_scan.specs.Sets.{images_in}
use Rattle.bound_set.proofs.StandLaws.{sized_of, missing, parts_there}
use Rattle.bound_set.proofs.view.image_of.Goals as goal

pub unreachable-requires : goal.unreachable-requires
unreachable-requires c =
    let bytes = c.args.flash.now in
    let set = c.args.set.now in
    let stand = c.found_images_stand.ensures FORMAT c.images_are_a_format.ensures.format bytes (images_in bytes set) c.requires.found.found in
    missing bytes set (sized_of bytes set c.requires.found c.is_sized.ensures.places c.is_sized.ensures.sizes) stand c.args.k c.requires.there
    (c.in-Err.ensures ∙ ap (λ (b : List ℕ). option_map (λ (x : layout.Image × Assembly). x.0) (seen b)) c.bytes_of.ensures)

pub returns : goal.returns
returns c =
    let bytes = c.args.flash.now in
    let set = c.args.set.now in
    parts_there bytes set (sized_of bytes set c.requires.found c.is_sized.ensures.places c.is_sized.ensures.sizes) c.args.k c.requires.there c.in-Ok.image
    (c.in-Ok.ensures ∙ ap (λ (b : List ℕ). option_map (λ (x : layout.Image × Assembly). x.0) (seen b)) c.bytes_of.ensures)
