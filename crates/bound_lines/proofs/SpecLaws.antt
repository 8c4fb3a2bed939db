-- The type specifications of an image by their columns.
use Rattle.std.proofs.Common.{◌≡◌, ℕ, ◌<◌, ◌≤◌, List, [], ◌∷◌, Option, Some, None, refl, sym, ap, ◌∙◌, subst}
use Rattle.std.specs.Prelude.{IsSome, slice_get, slice_index}
use Rattle.machine.specs.Throw.{on_some}
use Rattle.image_bytes.specs.Layout.{Image, rows_of}
use Rattle.assemblies.specs.Rows.{RawType, RawSpelt, RawClass, RawValue, RawArray, Assembly}
use Rattle.image_form.specs.Signatures.{read_type, whole}
use Rattle.image_form.specs.Form.{Held, all_some, none_or, only_array, plain_at, raw_at, name_at, assembly_at, ref_at, field_ref_at, method_ref_at, type_at, field_at, interface_at, clause_at, method_at, spec_at, data_at}
use Rattle.image_form.specs.Whole.{table, bytes_at, texts_in, row_in, held, nothing_held, make_assembly, rows_held, with_datas, with_clauses, with_interfaces, rows_with, image_rows}
use Rattle.image_pools.specs.Pools.{text_at}
use Rattle.msspot_read.specs.Rows.{row_of, text_in}
use Rattle.tiny_rows.specs.Rows.{rows_seen}
use Rattle.tiny_rows.proofs.Parts.{some_back, map_back, both_back, there, past}
use Rattle.tiny_rows.proofs.RowLaws.{seen_of}
use Rattle.tiny_members.specs.Rows.{field_type_in}

-- what type specifications are read by
record Read (i : Image) (p : Assembly) : Type 0 where
  signatures : List (List ℕ)
  h : Held
  texts : texts_in (bytes_at i 1) ≡ Some signatures
  signed : h.signature ≡ text_at signatures
  named : field_type_in i ≡ whole (read_type (plain_at h))
  specs : all_some (spec_at h) (table i 9) ≡ Some p.specs

specs_held : (i : Image) (s g : List (List ℕ)) (h : Held) (p : Assembly) → rows_held i s g h ≡ Some p → all_some (spec_at h) (table i 9) ≡ Some p.specs
specs_held i s g h p e =
    let r9 = both_back _ (all_some (spec_at h) (table i 9)) p e in
    let r8 = both_back _ (all_some (method_at h) (table i 7)) r9.0 r9.2 in
    let r7 = both_back _ (all_some (field_at h) (table i 6)) r8.0 r8.2 in
    let r6 = both_back _ (all_some (type_at h) (table i 4)) r7.0 r7.2 in
    let r5 = both_back _ (all_some (method_ref_at h) (table i 3)) r6.0 r6.2 in
    let r4 = both_back _ (all_some (field_ref_at h) (table i 2)) r5.0 r5.2 in
    let r3 = both_back _ (all_some (ref_at h) (table i 1)) r4.0 r4.2 in
    let r2 = both_back _ (all_some (assembly_at h) (table i 0)) r3.0 r3.2 in
    let r1 = both_back _ (none_or (row_in i 7) i.entry) r2.0 r2.2 in
    let r0 = map_back (make_assembly i s g) (name_at h i.name) r1.0 r1.2 in
    let q1 = ap (λ k. k r1.1) r0.2 ∙ r1.4 in
    let q2 = ap (λ k. k r2.1) q1 ∙ r2.4 in
    let q3 = ap (λ k. k r3.1) q2 ∙ r3.4 in
    let q4 = ap (λ k. k r4.1) q3 ∙ r4.4 in
    let q5 = ap (λ k. k r5.1) q4 ∙ r5.4 in
    let q6 = ap (λ k. k r6.1) q5 ∙ r6.4 in
    let q7 = ap (λ k. k r7.1) q6 ∙ r7.4 in
    let q8 = ap (λ k. k r8.1) q7 ∙ r8.4 in
    let whole : make_assembly i s g r0.0 r1.1 r2.1 r3.1 r4.1 r5.1 r6.1 r7.1 r8.1 r9.1 ≡ p = ap (λ k. k r9.1) q8 ∙ r9.4 in
    r9.3 ∙ ap (λ (q : Assembly). Some q.specs) whole

read_of : (i : Image) (p : Assembly) → image_rows i ≡ Some p → Read i p
read_of i p e =
    let a = some_back (texts_in (bytes_at i 0)) (λ strings. on_some (texts_in (bytes_at i 1)) (rows_with i strings)) p e in
    let b = some_back (texts_in (bytes_at i 1)) (rows_with i a.0) p a.2 in
    let c = some_back (all_some (interface_at (nothing_held i a.0 b.0)) (table i 5)) (with_interfaces i a.0 b.0) p b.2 in
    let d = some_back (all_some (clause_at (nothing_held i a.0 b.0)) (table i 8)) (with_clauses i a.0 b.0 c.0) p c.2 in
    let f = some_back (all_some (data_at (bytes_at i 3)) (table i 10)) (with_datas i a.0 b.0 c.0 d.0) p d.2 in
    record {
      signatures = b.0;
      h = held i a.0 b.0 c.0 d.0 f.0;
      texts = b.1;
      signed = refl;
      named = refl;
      specs = specs_held i a.0 b.0 (held i a.0 b.0 c.0 d.0 f.0) p f.2;
    }

array_same : (t y : RawType) → only_array t ≡ Some y → t ≡ y
array_same (RawSpelt e) y f = cc f
array_same (RawClass u) y f = cc f
array_same (RawValue u) y f = cc f
array_same (RawArray s) y f = cc f

module _ (i : Image) (rows : IsSome (image_rows i)) where
  parts : Read i (rows_seen i)
  parts = read_of i (rows_seen i) (seen_of i rows)

  pub record SpecRead (r : List ℕ) (y : RawType) : Type 0 where
    pub bytes : List ℕ
    pub signed : text_in i 1 (slice_index r 0) ≡ Some bytes
    pub typed : field_type_in i bytes ≡ Some y

  spec_read : (r : List ℕ) (y : RawType) → spec_at parts.h r ≡ Some y → SpecRead r y
  spec_read [] y e = cc e
  spec_read (a ∷ b ∷ r) y e = cc e
  spec_read (w ∷ []) y e =
      let t = some_back (raw_at parts.h w) only_array y e in
      let b = some_back (parts.h.signature w) (whole (read_type (plain_at parts.h))) t.0 t.1 in
      record {
        bytes = b.0;
        signed = ap (λ (o : Option (List (List ℕ))). on_some o (λ ts. text_at ts w)) parts.texts ∙ ap (λ (f : ℕ → Option (List ℕ)). f w) (sym parts.signed) ∙ b.1;
        typed = ap (λ (f : List ℕ → Option RawType). f b.0) parts.named ∙ b.2 ∙ ap Some (array_same t.0 y t.2);
      }

  pub record SpecThere (n : ℕ) : Type 0 where
    pub of : RawType
    pub read : SpecRead (row_of i 9 n) of
    pub row : slice_get (rows_seen i).specs n ≡ Some of

  pub spec_there : (n : ℕ) → n < rows_of i 9 → SpecThere n
  spec_there n low = let t = there i 9 n (spec_at parts.h) (rows_seen i).specs parts.specs low in record { of = t.0; read = spec_read (row_of i 9 n) t.0 t.1; row = t.2 }

  pub spec_past : (n : ℕ) → rows_of i 9 ≤ n → None ≡ slice_get (rows_seen i).specs n
  spec_past n high = sym (past i 9 n (spec_at parts.h) (rows_seen i).specs parts.specs high)

  pub spec_text : (n : ℕ) → n < rows_of i 9 → IsSome (text_in i 1 (slice_index (row_of i 9 n) 0))
  spec_text n low = subst IsSome (sym (spec_there n low).read.signed) refl

  pub spec_made : (n : ℕ) (bytes : List ℕ) → n < rows_of i 9 → Some bytes ≡ text_in i 1 (slice_index (row_of i 9 n) 0) → field_type_in i bytes ≡ slice_get (rows_seen i).specs n
  spec_made n bytes low e =
      let t = spec_there n low in
      let same : bytes ≡ t.read.bytes = cc (e ∙ t.read.signed) in
      ap (field_type_in i) same ∙ t.read.typed ∙ sym t.row
