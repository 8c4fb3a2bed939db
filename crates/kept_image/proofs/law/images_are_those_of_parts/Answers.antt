use Rattle.std.proofs.Common.{◌≡◌, ◌∙◌, ℕ, List, None, length, map, sym, ap}
use Rattle.std.specs.List.{flat_map}
use Rattle.msspot_write.specs.Parts.{image_of_parts, over_of_parts, pools_of}
use Rattle.code_shrink.specs.Shrunk.{shrunk_bytes}
use Rattle.kept_marks.specs.Masks.{masks_of}
use Rattle.converted.specs.Bodies.{methods_of}
use Rattle.converted.specs.Choosing.{choice_of}
use Rattle.converted.specs.Images.{codes_for_kept, parts_at, parts_cut, image_at}
use Rattle.converted.specs.Over.{over_counts}
use Rattle.image_numbers.specs.Numbers.{InImage, token_word, token_number}
use Rattle.image_codes.specs.Codes.{codes_of_kept}
use Rattle.kept_image.specs.Kept.{of_file}
use Rattle.kept_image.proofs.PartLaws.{numbers_of, numbers_in, counts_law}
use Rattle.kept_image.proofs.law.images_are_those_of_parts.Goals as goal

pub returns : goal.returns
returns c files marks f x p kept parts k i is none =
    let whole = parts_at files marks f x p in
    let w : InImage = record { kept = kept; metadata = x.metadata; strings = (pools_of whole).strings } in
    let laid = codes_for_kept (choice_of files marks f) p (methods_of x p) in
    let codes = map (shrunk_bytes (token_number i)) (codes_of_kept (masks_of kept) x) in
    let image = c.kept_parts_are_laid.ensures files marks f x p k.is_there k.has_rows in
    let same = c.codes_are_those_of_marks.ensures files marks f x kept k.counted k.are_marks k.is_file in
    let words = c.shrunk_codes_are_laid.ensures.words files marks f x p w k.accepted k.is_there k.has_rows k.has_bytes k.named (numbers_of files marks f x p kept parts k) in
    let as_long : length (flat_map (λ c. c) laid) ≡ length (flat_map (λ c. c) codes) =
    ap (λ (cs : List (List ℕ)). length (flat_map (λ c. c) cs)) words
    ∙ c.lengths_are_those_of_codes.ensures files marks f x (token_word w) k.accepted k.is_there k.has_bytes
    ∙ sym (c.lengths_are_those_of_codes.ensures files marks f x (token_number i) k.accepted k.is_there k.has_bytes)
    ∙ ap (λ (cs : List (List ℕ)). length (flat_map (λ c. c) (map (shrunk_bytes (token_number i)) cs))) (sym same) in
    let counts : over_counts f (image_at files marks f (x, p)) ≡ of_file f (over_of_parts (parts_cut whole) codes) =
    counts_law f (parts_cut whole) whole (image_at files marks f (x, p)) laid codes image k.cuts.limits as_long in
    let within : over_counts f (image_at files marks f (x, p)) ≡ None =
    counts ∙ ap (λ q. of_file f (over_of_parts q codes)) (sym k.are_parts) ∙ ap (of_file f) none in
    let uncut = k.are_parts ∙ c.parts_that_fit_stay.ensures.parts whole (k.cuts.numbers within) in
    let numbers = c.shrunk_codes_are_laid.ensures.numbers files marks f x p i k.accepted k.is_there k.has_rows k.has_bytes k.named (numbers_in files marks f x p kept parts k i is uncut) within in
    ap (λ q. image_of_parts q codes) uncut
    ∙ ap (λ (cs : List (List ℕ)). image_of_parts whole (map (shrunk_bytes (token_number i)) cs)) same
    ∙ ap (λ cs. image_of_parts whole cs) (sym numbers)
    ∙ image
