-- What stands in columns and headers of two bytes is small: versions (II.22.2, II.22.5), and the room for the stack (II.25.4.3).
use Rattle.std.proofs.Common.{◌≡◌, ℕ, ◌+◌, ◌/◌, ◌^◌, ◌%◌, Bool, true, false, List, [], ◌∷◌, map, length, take, drop, Option, Some, None, Result, Ok, Err, refl, ap, ◌∙◌, subst, arith}
use Rattle.std.specs.Prelude.{◌==◌, ◌&&◌, nat_lt, nat_le, if◌then◌else◌, slice_index, slice_index_or, unwrap_or}
use Rattle.std.specs.Option.{option_map}
use Rattle.plain_types.specs.declared.fault.Fault.{Fault}
use Rattle.cil_code.specs.declared.clause.Clause.{Clause}
use Rattle.cil_code.specs.Bodies.{BodyPart, tiny_body, fat_body, clauses_behind, body_at}
use Rattle.file_tables.specs.Bytes.{u16_at, u32_at}
use Rattle.file_tables.specs.Rules.{first_broken, unless_broken}
use Rattle.file_tables.specs.Pe.{PePart, Section, section_of, tail_of, pe_rules, pe_part, pe_of, region_place, region_size}
use Rattle.file_tables.specs.Schema.{columns_of}
use Rattle.file_tables.specs.Tables.{Shape, width_of, widths_of, number_at, numbers_at, row_at, rows_at}
use Rattle.file_tables.specs.Metadata.{MetadataPart, rows_of, row_of, metadata_rules, metadata_part, metadata_of, first_row, shape_of}
use Rattle.file_tables.specs.File.{FilePart, with_metadata, after_pe, file_of}
use Rattle.machine.specs.Throw.{on_some}
use Rattle.assemblies.specs.Closed.{Each}
use Rattle.world_rows.specs.Tokens.{assemblies, assembly_refs}
use Rattle.world_rows.specs.Lines.{is_aligned, is_locals_token, if_sound, body_in, body_part}
use Rattle.world_rows.specs.Rows.{version_at, is_internal}
use Rattle.code_shrink.specs.Lines.{AreBytes}
use Rattle.converted.specs.Bodies.{body_of}
use Rattle.image_numbers.proofs.ByteLaws.{bytes_taken, bytes_dropped}
use Rattle.fitting_parts.specs.Small.{IsSmall}

two_small : (bytes : List ℕ) (at : ℕ) → AreBytes bytes → IsSmall (u16_at bytes at)
unfolding u16_at
two_small bytes at are = let low = are at in let high = are (at + 1) in omega (arith, low, high)

-- ---- the room for the stack

abbrev OfStack : Option BodyPart → Type 0
OfStack None = Unit {0}
OfStack (Some b) = IsSmall b.max_stack

tiny_stack : (bytes : List ℕ) → OfStack (tiny_body bytes)
unfolding tiny_body
tiny_stack bytes = by (nat_lt (slice_index bytes 0 / 4) (length bytes))
  where
    by : (c : Bool) → OfStack (if c then Some (record { max_stack = 8; locals_token = 0; code = take (slice_index bytes 0 / 4) (drop 1 bytes); clauses = [] }) else None)
    by true = omega arith
    by false = tt

fat_stack : (bytes : List ℕ) → AreBytes bytes → OfStack (fat_body bytes)
unfolding fat_body
fat_stack bytes are = by (nat_le 12 (length bytes) && (u16_at bytes 0 / 2 ^ 12 == 3) && nat_le (12 + u32_at bytes 4) (length bytes)) (clauses_behind bytes (12 + u32_at bytes 4))
  where
    by : (c : Bool) (o : Option (List Clause)) → OfStack (if c then option_map (λ clauses. record { max_stack = u16_at bytes 2; locals_token = u32_at bytes 8; code = take (u32_at bytes 4) (drop 12 bytes); clauses = clauses }) o else None)
    by true None = tt
    by true (Some clauses) = two_small bytes 2 are
    by false o = tt

body_stack : (bytes : List ℕ) → AreBytes bytes → OfStack (body_at bytes)
unfolding body_at
body_stack bytes are = by (slice_index bytes 0 % 4 == 2) (slice_index bytes 0 % 4 == 3)
  where
    by : (a b : Bool) → OfStack (if a then tiny_body bytes else if b then fat_body bytes else None)
    by true b = tiny_stack bytes
    by false true = fat_stack bytes are
    by false false = tt

sound_stack : (m : MetadataPart) (rva : ℕ) (bytes : List ℕ) (o : Option BodyPart) → OfStack o → OfStack (on_some o (if_sound m rva bytes))
sound_stack m rva bytes None is = tt
sound_stack m rva bytes (Some b) is = by (is_aligned rva bytes && is_locals_token m b.locals_token)
  where
    by : (c : Bool) → OfStack (if c then Some b else None)
    by true = is
    by false = tt

part_stack : (x : FilePart) (rva : ℕ) → AreBytes x.pe.bytes → OfStack (body_part x rva)
unfolding body_part
part_stack x rva are = by (rva == 0) (section_of (length x.pe.bytes) x.pe.sections rva 1)
  where
    by : (c : Bool) (o : Option Section) → OfStack (if c then None else on_some (option_map (tail_of x.pe rva) o) (body_in x.metadata rva))
    by true o = tt
    by false None = tt
    by false (Some s) =
        sound_stack x.metadata rva (tail_of x.pe rva s) (body_at (tail_of x.pe rva s)) (body_stack (tail_of x.pe rva s) (bytes_taken _ _ (bytes_dropped _ x.pe.bytes are)))

row_stack : (x : FilePart) (row : List ℕ) → AreBytes x.pe.bytes → OfStack (body_of x row)
row_stack x row are = by (is_internal row)
  where
    by : (c : Bool) → OfStack (if c then None else body_part x (slice_index row 0))
    by true = tt
    by false = part_stack x (slice_index row 0) are

pub stack_small : (x : FilePart) (row : List ℕ) (b : BodyPart) → AreBytes x.pe.bytes → body_of x row ≡ Some b → IsSmall b.max_stack
stack_small x row b are is = subst OfStack is (row_stack x row are)

-- ---- the metadata of a file that is read from bytes lie in them

pub record LieIn (m : MetadataPart) : Type 0 where
  pub region : List ℕ
  pub bytes : AreBytes region
  pub is : metadata_part region ≡ m

unbroken : {A : Type 0} (o : Option Fault) (parts m : A) → unless_broken o parts ≡ Ok m → parts ≡ m
unbroken None parts m e = let same : parts ≡ m = cc e in same
unbroken (Some fault) parts m e = absurd (cc e)

region_bytes : (bytes : List ℕ) (pe : PePart) → AreBytes bytes → pe_of bytes ≡ Ok pe → AreBytes pe.region
unfolding pe_of pe_part
region_bytes bytes pe are e =
    subst (λ (p : PePart). AreBytes p.region) (unbroken (first_broken (pe_rules bytes)) (pe_part bytes) pe e)
    (bytes_taken (region_size bytes) (drop (unwrap_or (region_place bytes) 0) bytes) (bytes_dropped (unwrap_or (region_place bytes) 0) bytes are))

metadata_is : (region : List ℕ) (m : MetadataPart) → metadata_of region ≡ Ok m → metadata_part region ≡ m
unfolding metadata_of
metadata_is region m e = unbroken (first_broken (metadata_rules region)) (metadata_part region) m e

pub metadata_lies : (bytes : List ℕ) (x : FilePart) → AreBytes bytes → file_of bytes ≡ Ok x → LieIn x.metadata
unfolding file_of after_pe with_metadata
metadata_lies bytes x are e = by (pe_of bytes) refl e
  where
    of_metadata : (pe : PePart) → AreBytes pe.region → (o : Result MetadataPart Fault) → metadata_of pe.region ≡ o → with_metadata pe o ≡ Ok x → LieIn x.metadata
    of_metadata pe region (Err fault) k h = absurd (cc h)
    of_metadata pe region (Ok m) k h =
        let z : FilePart = record { pe = pe; metadata = m } in
        let same : z ≡ x = cc h in
        record { region = pe.region; bytes = region; is = metadata_is pe.region m k ∙ ap (λ (z : FilePart). z.metadata) same }

    by : (o : Result PePart Fault) → pe_of bytes ≡ o → after_pe o ≡ Ok x → LieIn x.metadata
    by (Err fault) k h = absurd (cc h)
    by (Ok pe) k h = of_metadata pe (region_bytes bytes pe are k) (metadata_of pe.region) refl h

-- ---- versions: four columns of two bytes

abbrev VersionSmall : ℕ → List ℕ → Type 0
VersionSmall column row = Each IsSmall (version_at column row)

mapped : {A B : Type 0} (P : B → Type 0) (f : A → B) → ((x : A) → P (f x)) → (xs : List A) → Each P (map f xs)
mapped P f h [] = tt
mapped P f h (x ∷ xs) = (h x, mapped P f h xs)

module _ (region : List ℕ) (are : AreBytes region) (shape : Shape) (first : ℕ) where
  own_version : (k : ℕ) → VersionSmall 1 (row_at region shape first assemblies k)
  unfolding row_at numbers_at number_at widths_of width_of columns_of
  own_version k = (two_small region _ are, (two_small region _ are, (two_small region _ are, (two_small region _ are, tt))))

  ref_version : (k : ℕ) → VersionSmall 0 (row_at region shape first assembly_refs k)
  unfolding row_at numbers_at number_at widths_of width_of columns_of
  ref_version k = (two_small region _ are, (two_small region _ are, (two_small region _ are, (two_small region _ are, tt))))

  own_versions : Each (VersionSmall 1) (rows_at region shape first assemblies)
  unfolding rows_at
  own_versions = mapped (VersionSmall 1) (row_at region shape first assemblies) own_version _

  ref_versions : Each (VersionSmall 0) (rows_at region shape first assembly_refs)
  unfolding rows_at
  ref_versions = mapped (VersionSmall 0) (row_at region shape first assembly_refs) ref_version _

first_or : (rows : List (List ℕ)) → Each (VersionSmall 1) rows → VersionSmall 1 (slice_index_or rows 0 [])
first_or [] h = (omega arith, (omega arith, (omega arith, (omega arith, tt))))
first_or (row ∷ rows) h = h.0

part_versions : (region : List ℕ) → AreBytes region → VersionSmall 1 (row_of (metadata_part region) assemblies 1) × Each (VersionSmall 0) (rows_of (metadata_part region) assembly_refs)
unfolding metadata_part
part_versions region are = (
  first_or (rows_at region (shape_of region) (first_row region) assemblies) (own_versions region are (shape_of region) (first_row region)),
  ref_versions region are (shape_of region) (first_row region),
)

pub versions_small : (m : MetadataPart) → LieIn m → (VersionSmall 1 (row_of m assemblies 1)) × Each (VersionSmall 0) (rows_of m assembly_refs)
versions_small m lie = subst (λ (z : MetadataPart). VersionSmall 1 (row_of z assemblies 1) × Each (VersionSmall 0) (rows_of z assembly_refs)) lie.is (part_versions lie.region lie.bytes)
