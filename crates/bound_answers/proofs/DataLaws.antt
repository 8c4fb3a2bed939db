-- The bytes of a field by its row.
use Rattle.std.proofs.Common.{◌≡◌, ℕ, zero, suc, ◌<◌, ◌≤◌, List, [], ◌∷◌, length, Option, Some, None, refl, sym, ap, ◌∙◌, arith}
use Rattle.std.specs.Prelude.{slice_get, unwrap_or}
use Rattle.std.specs.Option.{option_map}
use Rattle.std.proofs.lemmas.Option.{slice_get_past}
use Rattle.machine.specs.Throw.{on_some}
use Rattle.classes.specs.Queries.{data_of}
use Rattle.image_bytes.specs.Layout.{Image}
use Rattle.assemblies.specs.Rows.{RawType, FieldRow}
use Rattle.class_table.specs.Seen.{field_kind_seen}
use Rattle.tiny_members.specs.declared.fields.FieldDef.{FieldDef}
use Rattle.tiny_members.specs.Rows.{field_of, field_seen, field_type_in}
use Rattle.tiny_rows.specs.Rows.{rows_seen}
use Rattle.bound_answers.specs.Told.{data_in}

-- a row that is there has the kind that is read
pub data_there : (i : Image) (row : ℕ) (f : FieldDef) (bytes : List ℕ) → row < length (rows_seen i).fields → field_seen i f ≡ slice_get (rows_seen i).fields row → bytes ≡ unwrap_or (data_of (field_kind_seen f.kind)) [] → bytes ≡ data_in (rows_seen i) row
data_there i row f bytes low e b = b ∙ by (field_type_in i f.signature.now) (slice_get (rows_seen i).fields row) refl e
  where
    some : (xs : List FieldRow) (n : ℕ) → n < length xs → slice_get xs n ≡ None → ⊥
    some [] n low e = omega (arith, low)
    some (x ∷ xs) zero low e = cc e
    some (x ∷ xs) (suc n) low e = some xs n (omega (arith, low)) e

    by : (t : Option RawType) (o : Option FieldRow) → slice_get (rows_seen i).fields row ≡ o → option_map (field_of f) t ≡ o → unwrap_or (data_of (field_kind_seen f.kind)) [] ≡ unwrap_or (on_some o (λ (f : FieldRow). data_of f.kind)) []
    by None None at e = absurd (some (rows_seen i).fields row low at)
    by None (Some x) at e = cc e
    by (Some t) None at e = cc e
    by (Some t) (Some x) at e = ap (λ (o : Option FieldRow). unwrap_or (on_some o (λ (f : FieldRow). data_of f.kind)) []) e

pub data_past : (i : Image) (row : ℕ) → length (rows_seen i).fields ≤ row → [] ≡ data_in (rows_seen i) row
data_past i row high = sym (ap (λ (o : Option FieldRow). unwrap_or (on_some o (λ (f : FieldRow). data_of f.kind)) []) (slice_get_past (rows_seen i).fields row high))

pub data_none : (i : Image) (row : ℕ) → None ≡ slice_get (rows_seen i).fields row → [] ≡ data_in (rows_seen i) row
data_none i row e = ap (λ (o : Option FieldRow). unwrap_or (on_some o (λ (f : FieldRow). data_of f.kind)) []) e
