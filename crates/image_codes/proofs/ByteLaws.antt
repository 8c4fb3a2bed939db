-- The code of a body is a part of its file's bytes.
use Rattle.std.proofs.Common.{◌≡◌, ℕ, ◌+◌, ◌/◌, ◌%◌, ◌^◌, ◌≤◌, Bool, true, false, cond, List, [], ◌∷◌, length, take, drop, Option, Some, None, Result, Ok, Err, refl, sym, ap, ◌∙◌, subst, arith}
use Rattle.std.specs.Prelude.{◌==◌, ◌&&◌, nat_lt, nat_le, slice_index, if◌then◌else◌, unwrap_or}
use Rattle.std.specs.Option.{option_map}
use Rattle.std.proofs.lemmas.Bool.{and_parts, leb-true}
use Rattle.std.proofs.lemmas.List.{length-take, length-drop}
use Rattle.plain_types.specs.declared.fault.Fault.{Fault}
use Rattle.cil_code.specs.declared.clause.Clause.{Clause}
use Rattle.cil_code.specs.Bodies.{BodyPart, tiny_body, fat_body, clauses_behind, body_at}
use Rattle.file_tables.specs.declared.TheConstants.{MOST_FILE_BYTES}
use Rattle.file_tables.specs.Bytes.{u16_at, u32_at, range_of}
use Rattle.file_tables.specs.Rules.{Rule, first_broken, unless_broken}
use Rattle.file_tables.specs.Pe.{PePart, Section, section_of, tail_of, is_dos, pe_rules, pe_part, pe_of, region_place, region_size}
use Rattle.file_tables.specs.Streams.{Stream, stream_named, heap_named}
use Rattle.file_tables.specs.Metadata.{MetadataPart, metadata_rules, metadata_part, metadata_of, user_strings_name}
use Rattle.file_tables.specs.File.{FilePart, with_metadata, after_pe, file_of}
use Rattle.machine.specs.Throw.{on_some}
use Rattle.world_rows.specs.Lines.{is_aligned, is_locals_token, if_sound, body_in, body_part}
use Rattle.world_rows.specs.Rows.{is_internal}
use Rattle.code_shrink.specs.Lines.{AreBytes}
use Rattle.converted.specs.Bodies.{body_of}
use Rattle.image_numbers.proofs.ByteLaws.{bytes_taken, bytes_dropped}
use Rattle.image_codes.specs.Bytes.{HasBytes}

-- bytes, and at most so many
pub record IsPart (most : ℕ) (bytes : List ℕ) : Type 0 where
  pub are : AreBytes bytes
  pub few : length bytes ≤ most

range_part : (most len at : ℕ) (bytes : List ℕ) → IsPart most bytes → IsPart most (take len (drop at bytes))
range_part most len at bytes is =
    let few = is.few in
    record {
      are = bytes_taken len (drop at bytes) (bytes_dropped at bytes is.are);
      few = omega (arith, few, length-take len (drop at bytes), length-drop at bytes);
    }

-- ---- the code of a body

abbrev OfCode : ℕ → Option BodyPart → Type 0
OfCode most None = Unit {0}
OfCode most (Some b) = IsPart most b.code

tiny_code : (most : ℕ) (bytes : List ℕ) → IsPart most bytes → OfCode most (tiny_body bytes)
unfolding tiny_body
tiny_code most bytes is = by (nat_lt (slice_index bytes 0 / 4) (length bytes))
  where
    by : (c : Bool) → OfCode most (if c then Some (record { max_stack = 8; locals_token = 0; code = take (slice_index bytes 0 / 4) (drop 1 bytes); clauses = [] }) else None)
    by true = range_part most (slice_index bytes 0 / 4) 1 bytes is
    by false = tt

fat_code : (most : ℕ) (bytes : List ℕ) → IsPart most bytes → OfCode most (fat_body bytes)
unfolding fat_body
fat_code most bytes is = by (nat_le 12 (length bytes) && (u16_at bytes 0 / 2 ^ 12 == 3) && nat_le (12 + u32_at bytes 4) (length bytes)) (clauses_behind bytes (12 + u32_at bytes 4))
  where
    by : (c : Bool) (o : Option (List Clause)) → OfCode most (if c then option_map (λ clauses. record { max_stack = u16_at bytes 2; locals_token = u32_at bytes 8; code = take (u32_at bytes 4) (drop 12 bytes); clauses = clauses }) o else None)
    by true None = tt
    by true (Some clauses) = range_part most (u32_at bytes 4) 12 bytes is
    by false o = tt

body_code : (most : ℕ) (bytes : List ℕ) → IsPart most bytes → OfCode most (body_at bytes)
unfolding body_at
body_code most bytes is = by (slice_index bytes 0 % 4 == 2) (slice_index bytes 0 % 4 == 3)
  where
    by : (a b : Bool) → OfCode most (if a then tiny_body bytes else if b then fat_body bytes else None)
    by true b = tiny_code most bytes is
    by false true = fat_code most bytes is
    by false false = tt

sound_code : (most : ℕ) (m : MetadataPart) (rva : ℕ) (bytes : List ℕ) (o : Option BodyPart) → OfCode most o → OfCode most (on_some o (if_sound m rva bytes))
sound_code most m rva bytes None is = tt
sound_code most m rva bytes (Some b) is = by (is_aligned rva bytes && is_locals_token m b.locals_token)
  where
    by : (c : Bool) → OfCode most (if c then Some b else None)
    by true = is
    by false = tt

part_code : (x : FilePart) (rva : ℕ) → IsPart (length x.pe.bytes) x.pe.bytes → OfCode (length x.pe.bytes) (body_part x rva)
unfolding body_part
part_code x rva is = by (rva == 0) (section_of (length x.pe.bytes) x.pe.sections rva 1)
  where
    by : (c : Bool) (o : Option Section) → OfCode (length x.pe.bytes) (if c then None else on_some (option_map (tail_of x.pe rva) o) (body_in x.metadata rva))
    by true o = tt
    by false None = tt
    by false (Some s) =
        sound_code (length x.pe.bytes) x.metadata rva (tail_of x.pe rva s) (body_at (tail_of x.pe rva s))
        (body_code (length x.pe.bytes) (tail_of x.pe rva s) (range_part (length x.pe.bytes) _ _ x.pe.bytes is))

row_code : (x : FilePart) (row : List ℕ) → IsPart (length x.pe.bytes) x.pe.bytes → OfCode (length x.pe.bytes) (body_of x row)
row_code x row is = by (is_internal row)
  where
    by : (c : Bool) → OfCode (length x.pe.bytes) (if c then None else body_part x (slice_index row 0))
    by true = tt
    by false = part_code x (slice_index row 0) is

pub code_part : (x : FilePart) (row : List ℕ) (b : BodyPart) → HasBytes x → body_of x row ≡ Some b → IsPart (length x.pe.bytes) b.code
code_part x row b has is = subst (OfCode (length x.pe.bytes)) is (row_code x row (record { are = has.bytes; few = omega arith }))

-- ---- a file that is read from bytes

-- the first of some rules is kept
abbrev KeepsFirst : List Rule → Type 0
KeepsFirst [] = Unit {0}
KeepsFirst (r ∷ rs) = r.is_kept ≡ true

first_kept : (rs : List Rule) → first_broken rs ≡ None → KeepsFirst rs
first_kept [] e = tt
first_kept (r ∷ rs) e = by r.is_kept e
  where
    by : (b : Bool) → cond b (first_broken rs) (Some r.fault) ≡ None → b ≡ true
    by true h = refl
    by false h = absurd (cc h)

unbroken : {A : Type 0} (o : Option Fault) (parts m : A) → unless_broken o parts ≡ Ok m → (o ≡ None) × (parts ≡ m)
unbroken None parts m e = (refl, let same : parts ≡ m = cc e in same)
unbroken (Some fault) parts m e = absurd (cc e)

-- the parts of a file: its bytes keep rule 1, and the metadata lie in them
pub record IsOpened (bytes : List ℕ) (pe : PePart) : Type 0 where
  pub few : length bytes ≤ MOST_FILE_BYTES
  pub part : pe_part bytes ≡ pe

short_file : (bytes : List ℕ) → is_dos bytes ≡ true → length bytes ≤ MOST_FILE_BYTES
unfolding is_dos
short_file bytes e =
    let a = and_parts (nat_le 64 (length bytes) && nat_le (length bytes) MOST_FILE_BYTES && slice_index bytes 0 == 0x4D) (slice_index bytes 1 == 0x5A) e in
    let b = and_parts (nat_le 64 (length bytes) && nat_le (length bytes) MOST_FILE_BYTES) (slice_index bytes 0 == 0x4D) a.0 in
    let c = and_parts (nat_le 64 (length bytes)) (nat_le (length bytes) MOST_FILE_BYTES) b.0 in
    leb-true (length bytes) MOST_FILE_BYTES c.1

pe_opened : (bytes : List ℕ) (pe : PePart) → pe_of bytes ≡ Ok pe → IsOpened bytes pe
unfolding pe_of pe_rules
pe_opened bytes pe e =
    let u = unbroken (first_broken (pe_rules bytes)) (pe_part bytes) pe e in
    record { few = short_file bytes (first_kept (pe_rules bytes) u.0); part = u.1 }

metadata_opened : (region : List ℕ) (m : MetadataPart) → metadata_of region ≡ Ok m → metadata_part region ≡ m
unfolding metadata_of
metadata_opened region m e = (unbroken (first_broken (metadata_rules region)) (metadata_part region) m e).1

heap_bytes : (region name : List ℕ) → AreBytes region → AreBytes (heap_named region name)
unfolding heap_named
heap_bytes region name are = by (stream_named region name)
  where
    by : (o : Option Stream) → AreBytes (unwrap_or (option_map (λ (s : Stream). range_of region s.offset s.size) o) [])
    by None = λ k. omega arith
    by (Some s) = bytes_taken s.size (drop s.offset region) (bytes_dropped s.offset region are)

part_literals : (region : List ℕ) → AreBytes region → AreBytes (metadata_part region).user_strings
unfolding metadata_part
part_literals region are = heap_bytes region user_strings_name are

part_bytes : (bytes : List ℕ) → (pe_part bytes).bytes ≡ bytes
unfolding pe_part
part_bytes bytes = refl

part_region : (bytes : List ℕ) → AreBytes bytes → AreBytes (pe_part bytes).region
unfolding pe_part
part_region bytes are = bytes_taken (region_size bytes) (drop (unwrap_or (region_place bytes) 0) bytes) (bytes_dropped (unwrap_or (region_place bytes) 0) bytes are)

pub has_bytes : (bytes : List ℕ) (x : FilePart) → AreBytes bytes → file_of bytes ≡ Ok x → HasBytes x
unfolding file_of after_pe with_metadata
has_bytes bytes x are e = by (pe_of bytes) refl e
  where
    of_metadata : (pe : PePart) → IsOpened bytes pe → (o : Result MetadataPart Fault) → metadata_of pe.region ≡ o → with_metadata pe o ≡ Ok x → HasBytes x
    of_metadata pe is (Err fault) k h = absurd (cc h)
    of_metadata pe is (Ok m) k h =
        let z : FilePart = record { pe = pe; metadata = m } in
        let same : z ≡ x = cc h in
        let whole : bytes ≡ pe.bytes = sym (part_bytes bytes) ∙ ap (λ (p : PePart). p.bytes) is.part in
        let region : AreBytes pe.region = subst (λ (p : PePart). AreBytes p.region) is.part (part_region bytes are) in
        let literals : AreBytes m.user_strings = subst (λ (d : MetadataPart). AreBytes d.user_strings) (metadata_opened pe.region m k) (part_literals pe.region region) in
        subst HasBytes same (record { bytes = subst AreBytes whole are; few = subst (λ ns. length ns ≤ MOST_FILE_BYTES) whole is.few; literals = literals })

    by : (o : Result PePart Fault) → pe_of bytes ≡ o → after_pe o ≡ Ok x → HasBytes x
    by (Err fault) k h = absurd (cc h)
    by (Ok pe) k h = of_metadata pe (pe_opened bytes pe k) (metadata_of pe.region) refl h
