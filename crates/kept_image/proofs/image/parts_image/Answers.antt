use Rattle.std.proofs.Common.{◌≡◌, ◌∙◌, ℕ, List, [], length, map, sym, ap}
use Rattle.std.specs.List.{flat_map}
use Rattle.looked_rows.specs.Looked.{file_with}
use Rattle.kept_marks.specs.Masks.{InFile, masks_of}
use Rattle.file_tables.specs.File.{FilePart}
use Rattle.image_bytes.specs.Layout.{Image, onto}
use Rattle.msspot_write.specs.declared.parts.Parts.{Parts}
use Rattle.msspot_write.specs.Parts.{PoolsOf, image_of_parts, over_of_parts, pools_of}
use Rattle.msspot_write.specs.Written.{codes_of}
use Rattle.code_shrink.specs.Shrunk.{shrunk_bytes}
use Rattle.converted.specs.Over.{over_at, over_distances, over_switches}
use Rattle.image_numbers.specs.Numbers.{InImage, token_number}
use Rattle.image_codes.specs.Codes.{codes_of_kept}
use Rattle.kept_image.proofs.AnswerLaws.{on_ok, if_ok, if_err, none_over, parts_refused, refused}
use Rattle.kept_image.proofs.image.parts_image.Goals as goal

abbrev size : List (List ℕ) → ℕ
size codes = length (flat_map (λ c. c) codes)

-- the numbers of the image's tokens
numbers_are : (i : InImage) (kept : InFile) (x : FilePart) (parts : Parts) (pools : PoolsOf) → i ≡ record { kept = kept; metadata = x.metadata; strings = pools.strings } → pools ≡ pools_of parts → i ≡ record { kept = kept; metadata = x.metadata; strings = (pools_of parts).strings }
numbers_are i kept x parts pools is same = is ∙ ap (λ (ps : PoolsOf). record { kept = kept; metadata = x.metadata; strings = ps.strings }) same

pub returns-in-Ok-clause-image : goal.returns-in-Ok-clause-image
returns-in-Ok-clause-image c =
    let x : FilePart = file_with c.args.pe.now c.args.tables.now in
    let parts = c.args.parts.now in
    let kept = c.args.choice.now in
    let i : InImage = c.in_ok-numbers.numbers in
    let long = codes_of_kept (masks_of kept) x in
    let shrunk : codes_of c.as_slice.result.now ≡ map (shrunk_bytes (token_number i)) long = ap codes_of c.as_slice.ensures.value ∙ c.in-Ok.ensures.codes in
    let is = numbers_are i kept x parts c.in_ok-pools.pools c.in_ok-numbers.ensures c.in_ok-pools.ensures in
    if_ok c.written.result _ _ _
    (λ image none written files marks p k.
    written
    ∙ ap (λ cs. onto (image_of_parts parts cs) []) shrunk
    ∙ ap (λ (j : Image). onto j []) (c.images_are_those_of_parts.ensures files marks c.args.file x p kept parts k i is (ap (λ cs. over_of_parts parts cs) (sym shrunk) ∙ none)))
    c.written.ensures.within c.written.ensures.image

pub returns-in-Ok-clause-within : goal.returns-in-Ok-clause-within
returns-in-Ok-clause-within c =
    let x : FilePart = file_with c.args.pe.now c.args.tables.now in
    let parts = c.args.parts.now in
    let kept = c.args.choice.now in
    let f = c.args.file in
    let i : InImage = c.in_ok-numbers.numbers in
    let long = codes_of_kept (masks_of kept) x in
    let codes = codes_of c.as_slice.result.now in
    let shrunk : codes ≡ map (shrunk_bytes (token_number i)) long = ap codes_of c.as_slice.ensures.value ∙ c.in-Ok.ensures.codes in
    on_ok c.written.result _ _
    (λ none files marks p k.
    none_over f (over_at files marks f (x, p)) (over_of_parts parts codes) (over_distances f long) (over_switches f long)
    (c.limits_are_those_of_parts.ensures.limits files marks f x p kept parts k codes (ap size shrunk ∙ c.limits_are_those_of_parts.ensures.lengths files marks f x p kept parts k (token_number i)))
    none (c.in-Ok.ensures.near f) (c.in-Ok.ensures.few f))
    c.written.ensures.within

pub returns-in-Ok-clause-refused : goal.returns-in-Ok-clause-refused
returns-in-Ok-clause-refused c =
    let x : FilePart = file_with c.args.pe.now c.args.tables.now in
    let parts = c.args.parts.now in
    let kept = c.args.choice.now in
    let f = c.args.file in
    let i : InImage = c.in_ok-numbers.numbers in
    let long = codes_of_kept (masks_of kept) x in
    let codes = codes_of c.as_slice.result.now in
    let shrunk : codes ≡ map (shrunk_bytes (token_number i)) long = ap codes_of c.as_slice.ensures.value ∙ c.in-Ok.ensures.codes in
    if_err c.written.result _ _
    (λ e told files marks p k.
    parts_refused f (over_at files marks f (x, p)) (over_of_parts parts codes) (over_distances f long) (over_switches f long)
    (c.limits_are_those_of_parts.ensures.limits files marks f x p kept parts k codes (ap size shrunk ∙ c.limits_are_those_of_parts.ensures.lengths files marks f x p kept parts k (token_number i)))
    e told)
    c.written.ensures.refused

pub returns-clause-refused : goal.returns-clause-refused
returns-clause-refused c files marks p k =
    let x : FilePart = file_with c.args.pe.now c.args.tables.now in
    let parts = c.args.parts.now in
    let kept = c.args.choice.now in
    let f = c.args.file in
    let long = codes_of_kept (masks_of kept) x in
    let codes = map (shrunk_bytes (λ n. n)) long in
    let bytes = c.limits_are_those_of_parts.ensures.lengths files marks f x p kept parts k (λ n. n) in
    refused f (over_at files marks f (x, p)) (over_of_parts parts codes) (over_distances f long) (over_switches f long)
    (c.limits_are_those_of_parts.ensures.limits files marks f x p kept parts k codes bytes) c.first_limit.result
    (c.first_limit.ensures codes long (bytes ∙ sym c.code_length-size.ensures) (c.in-Err.ensures.past f))
