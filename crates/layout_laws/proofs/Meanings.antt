-- What the rows of a built file mean: rules 12 and 13 are kept, and the parts say all that was asked for.
use Rattle.std.proofs.Common.{◌≡◌, ◌≢◌, ℕ, ◌+◌, ◌<◌, ◌≤◌, List, [], ◌∷◌, ◌++◌, length, take, drop, Some, None, refl, ap, ◌∙◌, arith, length-append, length-drop, append_assoc}
use Rattle.std.specs.Option.{option_map}
use Rattle.std.specs.List.{flat_map}
use Rattle.std.proofs.lemmas.List.{take_at}
use Rattle.std.proofs.lemmas.List.FromFn.{get_or-map-range_with_len}
use Rattle.cil_layout.specs.declared.rows.Row.{Row}
use Rattle.cil_layout.specs.declared.rows.Row.TheVariants.{Field, MethodDef, Literal}
use Rattle.cil_layout.specs.declared.rows.MethodRow.{MethodRow}
use Rattle.cil_layout.specs.declared.rows.FieldRow.{FieldRow}
use Rattle.cil_layout.specs.declared.fixed.TheConstants.{CONTENT_RVA}
use Rattle.cil_layout.specs.declared.places.Places.{Places}
use Rattle.cil_layout.specs.Asked.{Asked, table_of, row_weight}
use Rattle.cil_layout.specs.Askable.{IsAskable}
use Rattle.cil_layout.specs.Heaps.{padded, content_of, content, texts_of, texts_heap}
use Rattle.cil_layout.specs.Numbers.{table_rows}
use Rattle.cil_layout.specs.Text.{text_end, unit_bytes}
use Rattle.cil_layout.proofs.Stream.{row_weights}
use Rattle.file_tables.specs.Bytes.{range_of}
use Rattle.file_tables.specs.Heaps.{user_string_at}
use Rattle.file_tables.specs.Pe.{PePart, at_rva, tail}
use Rattle.file_tables.specs.Rules.{first_broken}
use Rattle.file_tables.specs.Metadata.{rules_of_tables}
use Rattle.file_tables.specs.File.{FilePart}
use Rattle.layout_laws.specs.Parts.{metadata_part_of, pe_part, parts_of}
use Rattle.layout_laws.specs.ReadBack.{meanings, places_behind, IsRowRead, IsReadBack}
use Rattle.layout_laws.proofs.EntriesBlobs.{text_found}
use Rattle.layout_laws.proofs.EntriesPlaces.{IsSplit, split_of, zeros_behind}
use Rattle.layout_laws.proofs.MeaningsFacts.{IsPartOf, sound, within_sum}
use Rattle.layout_laws.proofs.MeaningsFixed.{zeros_of, module_says, module_type_says, assembly_says}
use Rattle.layout_laws.proofs.MeaningsRows.{counted, row_is, data_is}
use Rattle.layout_laws.proofs.MeaningsRules.{rules_kept}
use Rattle.layout_laws.proofs.MeaningsSays.{says}

-- the content's ranges are found at their RVAs, and so are the bytes from a place on
pub record HasContent (pe : PePart) (r : Asked) : Type 0 where
  pub ranges : (at len : ℕ) → at + len ≤ length (content r) → at_rva pe (CONTENT_RVA + at) len ≡ Some (range_of (content r) at len)
  pub tails : (at len : ℕ) → 1 ≤ len → at + len ≤ length (content r) → option_map (take len) (tail pe (CONTENT_RVA + at)) ≡ Some (range_of (content r) at len)

-- where a row's bytes stand in the content
record IsHeld (r : Asked) (at : ℕ) (bytes : List ℕ) : Type 0 where
  pub within : at + length bytes ≤ length (content r)
  pub range : range_of (content r) at (length bytes) ≡ bytes

-- bytes at a place, with others behind them
held_at : (all bytes pad rest : List ℕ) (at : ℕ) → drop at all ≡ (bytes ++ pad) ++ rest → 0 < length bytes → (at + length bytes ≤ length all) × (take (length bytes) (drop at all) ≡ bytes)
held_at all bytes pad rest at e some = (
  omega (arith, length-drop at all, ap length e, length-append (bytes ++ pad) rest, length-append bytes pad),
  ap (take (length bytes)) (e ∙ append_assoc bytes pad rest) ∙ take_at bytes (pad ++ rest) (length bytes) refl,
)

-- a row's bytes, with their zeros behind them
held : (r : Asked) (before : List Row) (row : Row) (bytes : List ℕ) → IsSplit r before row → content_of row ≡ padded bytes → 0 < length bytes → IsHeld r (places_behind r.name before).content bytes
held r before row bytes split e some =
    let at : ℕ = (places_behind r.name before).content in
    let rest : List ℕ = split.content.0 in
    let is = held_at (content r) bytes (zeros_behind bytes) rest at (split.content.1 ∙ ap (λ c. c ++ rest) e) some in
    record { within = is.0; range = is.1 }

-- bytes that are there begin with one
first_byte : (bytes : List ℕ) → bytes ≢ [] → (b : ℕ) × (bs : List ℕ) × (bytes ≡ b ∷ bs)
first_byte [] some = absurd (some refl)
first_byte (b ∷ bs) some = (b, bs, refl)

-- the body of a method
body_read : (pe : PePart) (r : Asked) (before : List Row) (row : Row) (m : MethodRow) → HasContent pe r → IsSplit r before row → row ≡ MethodDef m → m.body ≢ []
    → option_map (take (length m.body)) (tail pe (CONTENT_RVA + (places_behind r.name before).content)) ≡ Some m.body
body_read pe r before row m has split e some =
    let long : 0 < length m.body = omega (arith, ap length (first_byte m.body some).2) in
    let is : IsHeld r (places_behind r.name before).content m.body = held r before row m.body split (ap content_of e) long in
    has.tails (places_behind r.name before).content (length m.body) (omega arith) is.within ∙ ap Some is.range

-- the data of a field
data_read : (pe : PePart) (r : Asked) (before : List Row) (row : Row) (d : FieldRow) → HasContent pe r → IsSplit r before row → row ≡ Field d → d.bytes ≢ []
    → at_rva pe (CONTENT_RVA + (places_behind r.name before).content) (length d.bytes) ≡ Some d.bytes
data_read pe r before row d has split e some =
    let long : 0 < length d.bytes = omega (arith, ap length (first_byte d.bytes some).2) in
    let is : IsHeld r (places_behind r.name before).content d.bytes = held r before row d.bytes split (ap content_of e) long in
    has.ranges (places_behind r.name before).content (length d.bytes) is.within ∙ ap Some is.range

-- the literal of a row
text_read : (heap : List ℕ) (r : Asked) (before : List Row) (row : Row) (behind : List Row) (units : List ℕ) → heap ≡ texts_heap r → IsAskable r → r.rows ≡ before ++ row ∷ behind → row ≡ Literal units
    → user_string_at heap (text_end before) ≡ Some (flat_map unit_bytes units)
text_read heap r before row behind units same is e literal =
    let split : IsSplit r before row = split_of r before row behind e in
    let there : drop (text_end before) heap ≡ texts_of (Literal units) ++ split.texts.0 = ap (drop (text_end before)) same ∙ split.texts.1 ∙ ap (λ x. texts_of x ++ split.texts.0) literal in
    text_found heap units split.texts.0 (text_end before) there (omega (arith, row_weights r is.light, within_sum row_weight r.rows before row behind e, ap row_weight literal))

-- all that is asked of one row
row_read : (f : FilePart) (r : Asked) (before : List Row) (row : Row) (behind : List Row) → IsPartOf f.metadata r → IsAskable r → HasContent f.pe r → r.rows ≡ before ++ row ∷ behind → IsRowRead f r before row
row_read f r before row behind part is has e =
    let p : Places = places_behind r.name before in
    let split : IsSplit r before row = split_of r before row behind e in
    record {
      says = λ below. ap (meanings f.metadata (table_of row)) (row_is f.metadata r before row behind part.tables e below) ∙ says f.metadata r p row (zeros_of f.metadata r part) (sound f.metadata r part is before row behind e) below;
      has_body = λ m is_method some. body_read f.pe r before row m has split is_method some;
      has_data = λ d is_field some.
          let first = first_byte d.bytes some in
          (data_is f.metadata r before d behind first.0 first.1 part.tables (e ∙ ap (λ x. before ++ x ∷ behind) is_field) first.2, data_read f.pe r before row d has split is_field some);
      has_text = λ units literal. text_read f.metadata.user_strings r before row behind units part.texts is e literal;
    }

-- and of the parts of a file
parts_read : (f : FilePart) (r : Asked) → IsPartOf f.metadata r → IsAskable r → HasContent f.pe r → f.pe.entry ≡ r.entry → IsReadBack f r
parts_read f r part is has entry = record {
  entry = entry;
  counts = λ table below. counted f.metadata r table part.tables below;
  module_row = module_says f.metadata r part is;
  module_type_row = module_type_says f.metadata r part is;
  assembly_row = assembly_says f.metadata r part is;
  rows = λ before row behind e. row_read f r before row behind part is has e;
}

-- the part that is built
part_of : (r : Asked) → IsPartOf (metadata_part_of r) r
part_of r = record {
  tables = record { tables = λ table below. get_or-map-range_with_len (table_rows r.name r.version r.rows) 0 64 table table [] below (omega arith) };
  strings = refl;
  blobs = refl;
  texts = refl;
}

-- the tables that are built break neither rule 12 nor rule 13
pub rows_kept : (r : Asked) → IsAskable r → first_broken (rules_of_tables (metadata_part_of r)) ≡ None
rows_kept r is = rules_kept (metadata_part_of r) r (part_of r) is

-- and say what was asked for, where the content is found at its RVAs
pub read_back : (r : Asked) → IsAskable r
    → ((at len : ℕ) → at + len ≤ length (content r) → at_rva (pe_part r) (CONTENT_RVA + at) len ≡ Some (range_of (content r) at len))
    → ((at len : ℕ) → 1 ≤ len → at + len ≤ length (content r) → option_map (take len) (tail (pe_part r) (CONTENT_RVA + at)) ≡ Some (range_of (content r) at len))
    → IsReadBack (parts_of r) r
read_back r is ranges tails = parts_read (parts_of r) r (part_of r) is (record { ranges = ranges; tails = tails }) refl
