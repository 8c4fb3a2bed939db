-- The fields of a file, row by row.
use Rattle.std.proofs.Common.{◌≡◌, ◌⊎◌, inl, inr, ℕ, ◌+◌, ◌<◌, ◌≤◌, List, [], map, length, take, Option, Some, None, refl, sym, ap, ◌∙◌, arith, add-one, subst, ◌∷◌, ◌++◌}
use Rattle.std.specs.Prelude.{slice_get, unwrap_or}
use Rattle.std.specs.Option.{option_map}
use Rattle.std.proofs.lemmas.Bool.{cases_lt}
use Rattle.std.proofs.lemmas.Option.{slice_get-get_or, slice_get_past}
use Rattle.file_tables.specs.Metadata.{MetadataPart, rows_of, row_of, row_count, column_of}
use Rattle.file_tables.specs.File.{FilePart}
use Rattle.machine.specs.Throw.{on_some}
use Rattle.classes.specs.Classes.{SigType, FieldKind, OwnField}
use Rattle.assemblies.specs.Rows.{Assembly}
use Rattle.assemblies.specs.Binding.{id_at, numbered, own_field, field_owner, expanded}
use Rattle.world_rows.specs.Signatures.{field_signature}
use Rattle.world_rows.specs.Tokens.{fields, text_at, bytes_at}
use Rattle.world_rows.specs.Rows.{field_row, field_kind}
use Rattle.world_rows.specs.Kinds.{data_of}
use Rattle.world_rows.specs.World.{assembly_with, rows_alone, assemblies_of}
use Rattle.type_names.proofs.Resolving.{got_last}
use Rattle.class_table.specs.declared.rows.ClassRow.{ClassRow}
use Rattle.class_table.specs.declared.rows.FieldKind.{FieldKind as FieldColumn}
use Rattle.class_table.specs.declared.rows.FieldRow.{FieldRow}
use Rattle.class_table.specs.Whole.{HasData}
use Rattle.class_table.specs.Outlines.{outline_seen, outline_of, outlines_at}
use Rattle.member_reading.specs.Owners.{first_span}
use Rattle.member_reading.specs.Meant.{scopes, field_type_meant}
use Rattle.member_reading.specs.Data.{data_by}
use Rattle.member_reading.specs.Members.{fields_in, field_meant, field_span}
use Rattle.member_reading.proofs.TypeLaws.{whole_at}
use Rattle.member_reading.proofs.DataLaws.{data_is, numbered_length}
use Rattle.member_reading.proofs.SearchLaws.{all_taken}
use Rattle.member_reading.proofs.MemberLaws.{numbered_twice, owner_there, owner_past}

-- a file of which the tables are known
pub with_tables : (o : Option FilePart) (m : MetadataPart) → option_map (λ (f : FilePart). f.metadata) o ≡ Some m → (f : FilePart) × (o ≡ Some f) × (f.metadata ≡ m)
with_tables None m e = absurd (cc e)
with_tables (Some f) m e = (f, refl, cc e)

pub row_there : (m : MetadataPart) (table n : ℕ) → n < row_count m table → slice_get (rows_of m table) n ≡ Some (row_of m table (n + 1))
row_there m table n within = slice_get-get_or (rows_of m table) n [] within ∙ ap (λ k. Some (row_of m table k)) (sym (add-one n))

module _ (files : List FilePart) (file : ℕ) (m : MetadataPart) (tables : option_map (λ (f : FilePart). f.metadata) (slice_get files file) ≡ Some m) where
  abbrev k : ℕ
  k = scopes files

  abbrev qs : List Assembly
  qs = assemblies_of files

  abbrev filled : ℕ → List ℕ
  filled n = unwrap_or (data_of k files (rows_alone files) (id_at file n)) []

  signature_is : (blob : List ℕ) → field_type_meant files file blob ≡ expanded k qs file (field_signature m blob)
  signature_is blob = by (with_tables (slice_get files file) m tables)
    where
      by : (f : FilePart) × (slice_get files file ≡ Some f) × (f.metadata ≡ m) → field_type_meant files file blob ≡ expanded k qs file (field_signature m blob)
      by (f, here, same) = ap (λ o. on_some o (λ x. expanded k qs file (field_signature x.metadata blob))) here ∙ ap (λ x. expanded k qs file (field_signature x blob)) same

  data_here : (n : ℕ) → n < row_count m fields → data_of k files (rows_alone files) (id_at file n) ≡ data_by files file n (field_type_meant files file (bytes_at m (column_of m fields (n + 1) 2)))
  data_here n within = by (with_tables (slice_get files file) m tables)
    where
      by : (f : FilePart) × (slice_get files file ≡ Some f) × (f.metadata ≡ m) → data_of k files (rows_alone files) (id_at file n) ≡ data_by files file n (field_type_meant files file (bytes_at m (column_of m fields (n + 1) 2)))
      by (f, here, same) =
          data_is files file n f (row_of m fields (n + 1)) here (ap (λ x. slice_get (rows_of x fields) n) same ∙ row_there m fields n within)
          ∙ ap (λ x. data_by files file n (field_type_meant files file (bytes_at x (column_of m fields (n + 1) 2)))) same

  filled_is : (n : ℕ) → n < row_count m fields → filled n ≡ unwrap_or (data_by files file n (field_type_meant files file (bytes_at m (column_of m fields (n + 1) 2)))) []
  filled_is n within = ap (λ o. unwrap_or o []) (data_here n within)

  pub bytes_read : (n : ℕ) (signature : Option SigType) (kind : FieldColumn) → n < row_count m fields → signature ≡ field_type_meant files file (bytes_at m (column_of m fields (n + 1) 2)) → HasData kind (data_by files file n signature) → HasData kind (data_of k files (rows_alone files) (id_at file n))
  bytes_read n signature kind within e has = subst (HasData kind) (ap (data_by files file n) e ∙ sym (data_here n within)) has

  made : (name name' : List ℕ) (signature signature' : Option SigType) (kind kind' : FieldKind) (n : ℕ) → name ≡ name' → signature ≡ signature' → kind ≡ kind' → ◌≡◌ {A = OwnField} (record { id = id_at file n; name = name; signature = signature; kind = kind }) (record { id = id_at file n; name = name'; signature = signature'; kind = kind' })
  made name name' signature signature' kind kind' n e g h =
      ap (λ x. record { id = id_at file n; name = x; signature = signature; kind = kind }) e
      ∙ ap (λ x. record { id = id_at file n; name = name'; signature = x; kind = kind }) g
      ∙ ap (λ x. record { id = id_at file n; name = name'; signature = signature'; kind = x }) h

  pub field_read : (n : ℕ) (name : List ℕ) (signature : Option SigType) (kind : FieldKind) → n < row_count m fields → name ≡ text_at m (column_of m fields (n + 1) 1) → signature ≡ field_type_meant files file (bytes_at m (column_of m fields (n + 1) 2)) → kind ≡ field_kind (column_of m fields (n + 1) 0) (unwrap_or (data_by files file n signature) []) → ◌≡◌ {A = OwnField} (record { id = id_at file n; name = name; signature = signature; kind = kind }) (field_meant files file m n)
  field_read n name signature kind within e g h =
      made name _ signature _ kind _ n e (g ∙ signature_is (bytes_at m (column_of m fields (n + 1) 2)))
      (h ∙ ap (λ s. field_kind (column_of m fields (n + 1) 0) (unwrap_or (data_by files file n s) [])) g ∙ ap (field_kind (column_of m fields (n + 1) 0)) (sym (filled_is n within)))

  -- all fields
  pub fields_are : numbered (own_field k qs file) 0 (fields_in files file) ≡ numbered (λ n row. own_field k qs file n (field_row m filled n row)) 0 (rows_of m fields)
  fields_are = by (with_tables (slice_get files file) m tables)
    where
      by : (f : FilePart) × (slice_get files file ≡ Some f) × (f.metadata ≡ m) → numbered (own_field k qs file) 0 (fields_in files file) ≡ numbered (λ n row. own_field k qs file n (field_row m filled n row)) 0 (rows_of m fields)
      by (f, here, same) =
          ap (λ o. numbered (own_field k qs file) 0 (unwrap_or (option_map (λ (p : Assembly). p.fields) o) [])) (whole_at files file ∙ ap (option_map (assembly_with k files (rows_alone files) file)) here)
          ∙ numbered_twice (own_field k qs file) (field_row f.metadata filled) 0 (rows_of f.metadata fields)
          ∙ ap (λ x. numbered (λ n row. own_field k qs file n (field_row x filled n row)) 0 (rows_of x fields)) same

  pub fields_done : {A : Type 0} (seen : ℕ → A → OwnField) (rows : List A) (n : ℕ) → numbered seen 0 rows ≡ numbered (λ n row. own_field k qs file n (field_row m filled n row)) 0 (take n (rows_of m fields)) → row_count m fields ≤ n → numbered seen 0 rows ≡ numbered (own_field k qs file) 0 (fields_in files file)
  fields_done seen rows n known past = known ∙ ap (numbered (λ n row. own_field k qs file n (field_row m filled n row)) 0) (all_taken (rows_of m fields) n past) ∙ sym fields_are

  pub bytes_more : (there : ℕ → Option (List ℕ)) (rows : List FieldRow) (row : FieldRow) (n : ℕ) → length rows ≡ n → ((i : ℕ) (x : FieldRow) → slice_get rows i ≡ Some x → HasData x.kind (there i)) → HasData row.kind (there n) → (i : ℕ) (x : FieldRow) → slice_get (rows ++ row ∷ []) i ≡ Some x → HasData x.kind (there i)
  bytes_more there rows row n count each last i x e = go (got_last rows row i x e)
    where
      go : (slice_get rows i ≡ Some x) ⊎ ((i ≡ length rows) × (row ≡ x)) → HasData x.kind (there i)
      go (inl at) = each i x at
      go (inr (at, same)) = subst (λ j. HasData x.kind (there j)) (sym (at ∙ count)) (subst (λ y. HasData y.kind (there n)) same last)

  -- the types that have them
  pub field_owners : (classes : List ClassRow) (owners : List (Option ℕ)) → map outline_seen classes ≡ outlines_at files file → length owners ≡ row_count m fields → ((n : ℕ) → n < row_count m fields → slice_get owners n ≡ Some (first_span (map field_span classes) n)) → (n : ℕ) → on_some (slice_get owners n) (option_map (id_at file)) ≡ field_owner qs (id_at file n)
  field_owners classes owners read size each n = by (with_tables (slice_get files file) m tables) (cases_lt n (row_count m fields))
    where
      by : (f : FilePart) × (slice_get files file ≡ Some f) × (f.metadata ≡ m) → (n < row_count m fields) ⊎ (row_count m fields ≤ n) → on_some (slice_get owners n) (option_map (id_at file)) ≡ field_owner qs (id_at file n)
      by (f, here, same) place =
          let p = assembly_with k files (rows_alone files) file f in
          let at : slice_get qs file ≡ Some p = whole_at files file ∙ ap (option_map (assembly_with k files (rows_alone files) file)) here in
          let types : map outline_seen classes ≡ map (outline_of k qs file) p.types = read ∙ ap (λ o. unwrap_or (option_map (λ (q : Assembly). map (outline_of k qs file) q.types) o) []) at in
          let count : length p.fields ≡ row_count m fields = numbered_length (field_row f.metadata filled) 0 (rows_of f.metadata fields) ∙ ap (λ x. row_count x fields) same in
          elim place [
            | inl h ↦ ap (λ o. on_some o (option_map (id_at file))) (each n h) ∙ sym (owner_there k qs file p at (λ q. q.fields) (λ t. t.first_field) (λ t. t.field_count) (λ o. record { first = o.first_field; count = o.field_count }) field_span classes n types (λ c. refl) (λ t. refl) (omega (arith, h, count)))
            | inr h ↦ ap (λ o. on_some o (option_map (id_at file))) (slice_get_past owners n (omega (arith, h, size))) ∙ sym (owner_past k qs file p at (λ q. q.fields) (λ t. t.first_field) (λ t. t.field_count) n (omega (arith, h, count)))
          ]
