-- The tables of fields and of their data by the numbers of the fields.
use Rattle.std.proofs.Common.{◌≡◌, ℕ, suc, ◌+◌, List, [], ◌∷◌, ◌++◌, map, length, Option, Some, None, refl, sym, ap, ◌∙◌, zero-add}
use Rattle.std.specs.Prelude.{slice_get}
use Rattle.std.specs.List.{flat_map}
use Rattle.std.specs.Option.{option_map, option_map_or}
use Rattle.std.proofs.lemmas.List.{map-append, append-nil}
use Rattle.file_tables.specs.Metadata.{MetadataPart}
use Rattle.kept_rows.specs.Select.{select, rows}
use Rattle.assemblies.specs.Rows.{FieldRow}
use Rattle.assemblies.specs.Binding.{numbered}
use Rattle.assemblies.specs.Chosen.{field_row_to}
use Rattle.assemblies.proofs.Numbered.{get_numbered}
use Rattle.image_form.specs.Form.{data_of}
use Rattle.class_table.specs.declared.rows.FieldRow.{FieldRow as FieldColumns}
use Rattle.class_table.specs.Seen.{field_kind_seen}
use Rattle.msspot_write.specs.declared.parts.PartRow.{PartRow}
use Rattle.msspot_write.specs.Spelt.{field_parts, data_part}
use Rattle.row_numbers.specs.declared.table.Table.TheVariants as table
use Rattle.kept_marks.specs.Masks.{Masks, choice_of_rows}
use Rattle.converted.specs.Images.{row_cut}
use Rattle.image_rows.specs.Walk.{parts_from}
use Rattle.image_rows.specs.Fields.{field_read, fields_read, field_made, fields_at, datas_of, datas_at, data_count, field_rows, data_rows}
use Rattle.image_rows.proofs.WalkLaws.{walked, by_number}

pub as_many : {A B : Type 0} (make : ℕ → A → B) (n : ℕ) (xs : List A) → length (numbered make n xs) ≡ length xs
as_many make n [] = refl
as_many make n (x ∷ xs) = ap suc (as_many make (suc n) xs)

module _ (kept : Masks) (m : MetadataPart) where
  abbrev to : FieldRow → FieldRow
  to f = field_row_to (choice_of_rows kept) f

  abbrev datas : FieldRow → ℕ
  datas f = length (data_of f.kind)

  -- ---- fields

  field_agrees : (n : ℕ) (o : Option FieldColumns) (y : FieldRow) → option_map (field_read m (0 + n)) o ≡ Some y → (option_map_or (λ (x : FieldColumns). data_count x.kind) o 0 ≡ datas y) × ((at : ℕ) → option_map_or (λ x. field_made kept at (field_read m n x) ∷ []) o [] ≡ field_made kept at y ∷ [])
  field_agrees n None y e = absurd (cc e)
  field_agrees n (Some x) y e =
      let same : field_read m (0 + n) x ≡ y = cc e in
      let is : field_read m n x ≡ y = ap (λ k. field_read m k x) (sym (zero-add n)) ∙ same in
      (ap datas is, λ at. ap (λ f. field_made kept at f ∷ []) is)

  field_walk : (at : ℕ) (ys : List FieldRow) → walked (λ k y. field_made kept k y ∷ []) datas at ys ≡ map row_cut (field_parts at (map to ys))
  field_walk at [] = refl
  field_walk at (y ∷ ys) = ap (λ ps. field_made kept at y ∷ ps) (field_walk (at + datas y) ys)

  pub fields_are : (xs : List FieldColumns) (count : ℕ) → count ≡ length xs → parts_from (fields_at kept m xs) (λ n. option_map_or (λ (x : FieldColumns). data_count x.kind) (slice_get xs n) 0) 0 (rows (kept table.Field) count) ≡ field_rows kept m xs
  fields_are xs count e =
      ap (λ k. parts_from (fields_at kept m xs) (λ n. option_map_or (λ (x : FieldColumns). data_count x.kind) (slice_get xs n) 0) 0 (rows (kept table.Field) k)) (e ∙ sym (as_many (field_read m) 0 xs))
      ∙ by_number (fields_at kept m xs) (λ n. option_map_or (λ (x : FieldColumns). data_count x.kind) (slice_get xs n) 0) (λ k y. field_made kept k y ∷ []) datas (kept table.Field) 0 (fields_read m xs) (λ n y h. field_agrees n (slice_get xs n) y (sym (get_numbered (field_read m) 0 n xs) ∙ h))
      ∙ field_walk 0 (select (kept table.Field) (fields_read m xs))

  pub field_past : (xs : List FieldColumns) (first n : ℕ) (out : List PartRow) → slice_get xs n ≡ None → out ≡ out ++ fields_at kept m xs first n
  field_past xs first n out e = sym (ap (λ o. out ++ option_map_or (λ x. field_made kept first (field_read m n x) ∷ []) o []) e ∙ append-nil out)

  pub field_there : (xs : List FieldColumns) (first n : ℕ) (x : FieldColumns) → slice_get xs n ≡ Some x → fields_at kept m xs first n ≡ field_made kept first (field_read m n x) ∷ []
  field_there xs first n x e = ap (λ o. option_map_or (λ y. field_made kept first (field_read m n y) ∷ []) o []) e

  -- ---- data

  abbrev bytes_of : FieldRow → List PartRow
  bytes_of f = map row_cut (map data_part (data_of f.kind))

  data_agrees : (n : ℕ) (o : Option FieldColumns) (y : FieldRow) → option_map (field_read m (0 + n)) o ≡ Some y → option_map_or (λ (x : FieldColumns). map row_cut (map data_part (data_of (field_kind_seen x.kind)))) o [] ≡ bytes_of y
  data_agrees n None y e = absurd (cc e)
  data_agrees n (Some x) y e = let same : field_read m (0 + n) x ≡ y = cc e in ap bytes_of same

  data_walk : (at : ℕ) (ys : List FieldRow) → walked (λ k y. bytes_of y) (λ y. 0) at ys ≡ map row_cut (map data_part (flat_map (λ f. data_of f.kind) (map to ys)))
  data_walk at [] = refl
  data_walk at (y ∷ ys) =
      ap (λ ps. bytes_of y ++ ps) (data_walk (at + 0) ys)
      ∙ sym (map-append row_cut (map data_part (data_of y.kind)) (map data_part (flat_map (λ (f : FieldRow). data_of f.kind) (map to ys))))
      ∙ ap (map row_cut) (sym (map-append data_part (data_of y.kind) (flat_map (λ (f : FieldRow). data_of f.kind) (map to ys))))

  pub datas_are : (xs : List FieldColumns) (count : ℕ) → count ≡ length xs → parts_from (λ first. datas_at xs) (λ n. 0) 0 (rows (kept table.Field) count) ≡ data_rows kept m xs
  datas_are xs count e =
      ap (λ k. parts_from (λ first. datas_at xs) (λ n. 0) 0 (rows (kept table.Field) k)) (e ∙ sym (as_many (field_read m) 0 xs))
      ∙ by_number (λ first. datas_at xs) (λ n. 0) (λ k y. bytes_of y) (λ y. 0) (kept table.Field) 0 (fields_read m xs) (λ n y h. (refl, λ at. data_agrees n (slice_get xs n) y (sym (get_numbered (field_read m) 0 n xs) ∙ h)))
      ∙ data_walk 0 (select (kept table.Field) (fields_read m xs))

pub count_there : (xs : List FieldColumns) (n : ℕ) (x : FieldColumns) → slice_get xs n ≡ Some x → data_count x.kind ≡ option_map_or (λ (y : FieldColumns). data_count y.kind) (slice_get xs n) 0
count_there xs n x e = sym (ap (λ o. option_map_or (λ (y : FieldColumns). data_count y.kind) o 0) e)

pub datas_past : (xs : List FieldColumns) (n : ℕ) (out : List PartRow) → slice_get xs n ≡ None → out ≡ out ++ datas_at xs n
datas_past xs n out e = sym (ap (λ o. out ++ option_map_or (λ (x : FieldColumns). datas_of x.kind) o []) e ∙ append-nil out)

pub datas_there : (xs : List FieldColumns) (n : ℕ) (x : FieldColumns) → slice_get xs n ≡ Some x → datas_at xs n ≡ datas_of x.kind
datas_there xs n x e = ap (λ o. option_map_or (λ (y : FieldColumns). datas_of y.kind) o []) e
