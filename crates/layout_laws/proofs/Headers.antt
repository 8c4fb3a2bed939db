-- A file that is built has the headers that are read from it, and its bodies and data stand where they are said to be.
use Rattle.std.proofs.Common.{◌≡◌, ℕ, ◌+◌, ◌-◌, ◌^◌, ◌<◌, ◌≤◌, List, ◌++◌, length, take, drop, Some, Ok, refl, ap, ◌∙◌, arith, length-append}
use Rattle.std.specs.Option.{option_map}
use Rattle.std.proofs.lemmas.List.{take-take}
use Rattle.cil_layout.specs.declared.rows.TheConstants.{MOST_WEIGHT}
use Rattle.cil_layout.specs.declared.fixed.TheConstants.{CONTENT_RVA}
use Rattle.cil_layout.specs.Asked.{Asked, rows_of, weight_of}
use Rattle.cil_layout.specs.Heaps.{content, strings_heap, texts_heap, blobs_heap}
use Rattle.cil_layout.specs.Layout.{built, metadata, tables_stream, section_size, round_up}
use Rattle.cil_layout.proofs.Stream.{parts_le, length-metadata_by}
use Rattle.file_tables.specs.Bytes.{range_of}
use Rattle.file_tables.specs.Pe.{pe_of, at_rva, tail}
use Rattle.file_tables.specs.Pe as pe
use Rattle.layout_laws.specs.Parts.{pe_part, section}
use Rattle.layout_laws.proofs.Spans.{range_left, range_right, range_middle}
use Rattle.layout_laws.proofs.FileNumbers.{HasHeaders, has_headers, front, zeros, file_is, length-front, length-file_by}
use Rattle.layout_laws.proofs.Sections.{section_with, section_found, place_found}
use Rattle.layout_laws.proofs.HeaderRules.{sections_are, region_size_is, region_place_is, rules_kept, entry_is}

-- the section is small
section_le : (r : Asked) → weight_of r ≤ MOST_WEIGHT → section_size (metadata r) (content r) + 2800 ≤ 4194304
section_le r light =
    omega (
      arith,
      light,
      parts_le r (rows_of r) (length (strings_heap r)) (length (blobs_heap r)),
      length-metadata_by (tables_stream r) (strings_heap r) (texts_heap r) (blobs_heap r),
    )

-- the size of the section's raw data
raw_of : Asked → ℕ
raw_of r = round_up 512 (section_size (metadata r) (content r))

-- the file by its parts
built_is : (r : Asked) → built r ≡ front (metadata r) (content r) r.entry ++ content r ++ metadata r ++ zeros (metadata r) (content r)
unfolding built
built_is r = file_is (metadata r) (content r) r.entry

length-built : (r : Asked) → length (built r) ≡ 512 + raw_of r
unfolding built raw_of
length-built r = length-file_by (metadata r) (content r) r.entry

-- its headers
headers_of : (r : Asked) → weight_of r ≤ MOST_WEIGHT → r.entry < 2 ^ 32 → HasHeaders (built r) (raw_of r) (length (content r)) (length (metadata r)) r.entry
unfolding built raw_of
headers_of r light entry = has_headers (metadata r) (content r) r.entry (omega (arith, section_le r light)) entry

-- bodies and data stand behind the 584 bytes of the headers
content_range : (r : Asked) (at len : ℕ) → at + len ≤ length (content r) → range_of (built r) (584 + at) len ≡ range_of (content r) at len
content_range r at len fits =
    let f : List ℕ = front (metadata r) (content r) r.entry in
    let c : List ℕ = content r in
    let m : List ℕ = metadata r in
    let z : List ℕ = zeros (metadata r) (content r) in
    ap (λ (l : List ℕ). range_of l (584 + at) len) (built_is r)
    ∙ range_left (f ++ c ++ m) z (584 + at) len (omega (arith, length-front m c r.entry, length-append f c, length-append (f ++ c) m))
    ∙ range_left (f ++ c) m (584 + at) len (omega (arith, length-front m c r.entry, length-append f c))
    ∙ range_right f c 584 at len (length-front m c r.entry)

-- and the metadata behind them
metadata_range : (r : Asked) → range_of (built r) (584 + length (content r)) (length (metadata r)) ≡ metadata r
metadata_range r =
    let f : List ℕ = front (metadata r) (content r) r.entry in
    ap (λ (l : List ℕ). range_of l (584 + length (content r)) (length (metadata r))) (built_is r)
    ∙ range_middle (f ++ content r) (metadata r) (zeros (metadata r) (content r)) (584 + length (content r)) (omega (arith, length-front (metadata r) (content r) r.entry, length-append f (content r)))

-- the section holds all, and the file is no longer than a file may be
section_fits : (r : Asked) → 72 + length (content r) + length (metadata r) ≤ raw_of r
unfolding raw_of
section_fits r = omega arith

file_small : (r : Asked) → weight_of r ≤ MOST_WEIGHT → 512 + raw_of r ≤ 4194304
unfolding raw_of
file_small r light = omega (arith, section_le r light)

-- what was asked is what the headers say
pub pe_read : (r : Asked) → weight_of r ≤ MOST_WEIGHT → r.entry < 2 ^ 32 → pe_of (built r) ≡ Ok (pe_part r)
unfolding pe.pe_of pe.pe_part raw_of
pe_read r light entry =
    let file : List ℕ = built r in
    let raw : ℕ = raw_of r in
    let before : ℕ = length (content r) in
    let len : ℕ = length (metadata r) in
    let h : HasHeaders file raw before len r.entry = headers_of r light entry in
    let small : 512 + raw ≤ 4194304 = file_small r light in
    let fits : 72 + before + len ≤ raw = section_fits r in
    let whole : length file ≡ 512 + raw = length-built r in
    let place : 512 + (72 + before) ≡ 584 + before = omega arith in
    rw (
      rules_kept file raw before len r.entry h whole fits small,
      sections_are file raw before len r.entry h whole fits small,
      entry_is file raw before len r.entry h whole fits small,
      region_place_is file raw before len r.entry h whole fits small,
      region_size_is file raw before len r.entry h whole fits small,
      place,
      metadata_range r,
    ) refl

-- the section of the parts
section_is : (r : Asked) → section r ≡ section_with (raw_of r)
unfolding raw_of
section_is r = refl

-- a range of the bodies and data is found by its RVA
pub content_read : (r : Asked) → weight_of r ≤ MOST_WEIGHT → (at len : ℕ) → at + len ≤ length (content r) → at_rva (pe_part r) (CONTENT_RVA + at) len ≡ Some (range_of (content r) at len)
content_read r light at len fits =
    let rva : CONTENT_RVA + at ≡ 0x2000 + (72 + at) = omega arith in
    let place : 512 + (72 + at) ≡ 584 + at = omega arith in
    rw (rva, length-built r, section_is r, place_found (raw_of r) (72 + at) len (omega (arith, section_fits r)), place, content_range r at len fits) refl

-- and stands at the front of what is left of the section there
pub tail_read : (r : Asked) → weight_of r ≤ MOST_WEIGHT → (at len : ℕ) → 1 ≤ len → at + len ≤ length (content r) → option_map (take len) (tail (pe_part r) (CONTENT_RVA + at)) ≡ Some (range_of (content r) at len)
tail_read r light at len some fits =
    let rva : CONTENT_RVA + at ≡ 0x2000 + (72 + at) = omega arith in
    let before : ℕ = 0x2000 + (72 + at) - 0x2000 in
    let place : 512 + before ≡ 584 + at = omega arith in
    let rest : len ≤ raw_of r - before = omega (arith, section_fits r) in
    rw (rva, length-built r, section_is r, section_found (raw_of r) (72 + at) 1 (omega (arith, section_fits r)), place)
    (ap (λ x. Some x) (take-take len (raw_of r - before) (drop (584 + at) (built r)) rest ∙ content_range r at len fits))
