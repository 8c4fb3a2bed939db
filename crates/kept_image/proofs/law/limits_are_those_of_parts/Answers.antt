use Rattle.std.proofs.Common.{◌≡◌, ◌∙◌, ℕ, List, length, map, sym, ap}
use Rattle.std.specs.List.{flat_map}
use Rattle.msspot_write.specs.Parts.{over_of_parts, pools_of}
use Rattle.code_shrink.specs.Shrunk.{shrunk_bytes}
use Rattle.kept_marks.specs.Masks.{masks_of}
use Rattle.converted.specs.Bodies.{methods_of}
use Rattle.converted.specs.Choosing.{choice_of}
use Rattle.converted.specs.Images.{codes_for_kept, parts_at, parts_cut, image_at}
use Rattle.converted.specs.Over.{kept_codes, over_counts}
use Rattle.image_numbers.specs.Numbers.{InImage, token_word}
use Rattle.image_codes.specs.Codes.{codes_of_kept, short_lengths}
use Rattle.kept_image.specs.Kept.{of_file}
use Rattle.kept_image.proofs.PartLaws.{numbers_of, counts_law, over_law}
use Rattle.kept_image.proofs.law.limits_are_those_of_parts.Goals as goal

pub returns-clause-limits : goal.returns-clause-limits
returns-clause-limits c files marks f x p kept parts k codes long =
    let whole = parts_at files marks f x p in
    let i : InImage = record { kept = kept; metadata = x.metadata; strings = (pools_of whole).strings } in
    let laid = codes_for_kept (choice_of files marks f) p (methods_of x p) in
    let same = c.codes_are_those_of_marks.ensures files marks f x kept k.counted k.are_marks k.is_file in
    let words = c.shrunk_codes_are_laid.ensures.words files marks f x p i k.accepted k.is_there k.has_rows k.has_bytes k.named (numbers_of files marks f x p kept parts k) in
    let bytes = c.lengths_are_those_of_codes.ensures files marks f x (token_word i) k.accepted k.is_there k.has_bytes in
    let as_long : length (flat_map (λ c. c) laid) ≡ length (flat_map (λ c. c) codes) =
    ap (λ (cs : List (List ℕ)). length (flat_map (λ c. c) cs)) words ∙ bytes ∙ ap short_lengths (sym same) ∙ sym long in
    let counts : over_counts f (image_at files marks f (x, p)) ≡ of_file f (over_of_parts (parts_cut whole) codes) =
    counts_law f (parts_cut whole) whole (image_at files marks f (x, p)) laid codes (c.kept_parts_are_laid.ensures files marks f x p k.is_there k.has_rows) k.cuts.limits as_long in
    over_law f parts whole (image_at files marks f (x, p)) laid codes (kept_codes files marks f x) (codes_of_kept (masks_of kept) x) same
    (counts ∙ ap (λ q. of_file f (over_of_parts q codes)) (sym k.are_parts))

pub returns-clause-lengths : goal.returns-clause-lengths
returns-clause-lengths c files marks f x p kept parts k token =
    let same = c.codes_are_those_of_marks.ensures files marks f x kept k.counted k.are_marks k.is_file in
    ap (λ (cs : List (List ℕ)). length (flat_map (λ c. c) (map (shrunk_bytes token) cs))) same
    ∙ c.lengths_are_those_of_codes.ensures files marks f x token k.accepted k.is_there k.has_bytes
    ∙ ap short_lengths (sym same)
