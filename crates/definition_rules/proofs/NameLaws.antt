-- What references name is what their tokens name, and a row of one of the world's files.
use Rattle.std.proofs.Common.{◌≡◌, ℕ, suc, ◌+◌, ◌*◌, ◌/◌, ◌%◌, ◌^◌, ◌<◌, true, List, [], length, take, get_or, Option, Some, None, refl, sym, ap, ◌∙◌, arith}
use Rattle.std.specs.Prelude.{if◌then◌else◌, slice_get, count_by}
use Rattle.std.specs.Option.{option_map}
use Rattle.std.proofs.lemmas.Option.{slice_get_within}
use Rattle.file_tables.specs.declared.schema.Coded.TheVariants.{TypeDefOrRef}
use Rattle.file_tables.specs.declared.numbers.TheConstants.{NO_TABLE}
use Rattle.file_tables.specs.Schema.{tag_bits_of, tables_of}
use Rattle.file_tables.specs.Metadata.{MetadataPart, rows_of, token_table, token_row}
use Rattle.file_tables.specs.File.{FilePart}
use Rattle.machine.specs.Data.{Id}
use Rattle.machine.specs.Throw.{on_some}
use Rattle.assemblies.specs.Rows.{TypeRef, Reference}
use Rattle.assemblies.specs.Binding.{resolve, resolve_ref, resolve_field, resolve_method}
use Rattle.world_rows.specs.Tokens.{type_refs, member_refs, type_token, coded_type, field_token, method_token, no_field, no_method, is_field_ref, is_method_ref}
use Rattle.world_rows.specs.World.{size_of, rows_alone, assemblies_of}
use Rattle.world_rows.proofs.Alone.{resolve_alone}
use Rattle.type_names.specs.Resolved.{class_of, class_coded, checked, type_id}
use Rattle.type_names.proofs.Resolving.{class_there}
use Rattle.member_references.specs.Resolved.{field_of, method_of, field_checked, method_checked, field_id, method_id}
use Rattle.member_references.proofs.RowLaws.{file_there}
use Rattle.member_references.proofs.ThereLaws.{field_is_there, method_is_there}

two_bits : tag_bits_of TypeDefOrRef ≡ 2
unfolding tag_bits_of
two_bits = refl

tagged : get_or (tables_of TypeDefOrRef) 1 NO_TABLE ≡ type_refs
unfolding tables_of
tagged = refl

module _ (n index : ℕ) (e : index ≡ (n + 1) * 4 + 1) where
  table_is : token_table TypeDefOrRef index ≡ type_refs
  table_is =
      let tag : index % 4 ≡ 1 = omega (arith, e) in
      ap (λ bits. get_or (tables_of TypeDefOrRef) (index % 2 ^ bits) NO_TABLE) two_bits ∙ ap (λ k. get_or (tables_of TypeDefOrRef) k NO_TABLE) tag ∙ tagged

  row_is : token_row TypeDefOrRef index ≡ suc n
  row_is =
      let quotient : index / 4 ≡ suc n = omega (arith, e) in
      ap (λ bits. index / 2 ^ bits) two_bits ∙ quotient

ref_token : (m : MetadataPart) (n : ℕ) → type_token m type_refs (suc n) ≡ TypeRef n
unfolding type_token
ref_token m n = refl

field_token_is : (m : MetadataPart) (n : ℕ) → is_field_ref m (get_or (rows_of m member_refs) n []) ≡ true → field_token m member_refs (suc n) ≡ Reference (count_by (is_field_ref m) (take n (rows_of m member_refs)))
unfolding field_token
field_token_is m n kind = ap (λ b. if b then Reference (count_by (is_field_ref m) (take n (rows_of m member_refs))) else no_field m) kind

method_token_is : (m : MetadataPart) (n : ℕ) → is_method_ref m (get_or (rows_of m member_refs) n []) ≡ true → method_token m member_refs (suc n) ≡ Reference (count_by (is_method_ref m) (take n (rows_of m member_refs)))
unfolding method_token
method_token_is m n kind = ap (λ b. if b then Reference (count_by (is_method_ref m) (take n (rows_of m member_refs))) else no_method m) kind

module _ (files : List FilePart) (f : ℕ) (x : FilePart) (there : slice_get files f ≡ Some x) where
  abbrev size : ℕ
  size = size_of (rows_alone files)

  pub type_named : (n index : ℕ) → index ≡ (n + 1) * 4 + 1 → class_coded files f TypeDefOrRef index ≡ resolve_ref size (assemblies_of files) f n
  type_named n index e =
      ap (λ o. on_some o (λ (y : FilePart). resolve size (rows_alone files) f (coded_type y.metadata TypeDefOrRef index))) there
      ∙ ap (λ t. resolve size (rows_alone files) f (type_token x.metadata t (token_row TypeDefOrRef index))) (table_is n index e)
      ∙ ap (λ r. resolve size (rows_alone files) f (type_token x.metadata type_refs r)) (row_is n index e)
      ∙ ap (resolve size (rows_alone files) f) (ref_token x.metadata n)
      ∙ sym (resolve_alone files size f (TypeRef n))

  field_named : (n k : ℕ) → is_field_ref x.metadata (get_or (rows_of x.metadata member_refs) n []) ≡ true → k ≡ count_by (is_field_ref x.metadata) (take n (rows_of x.metadata member_refs)) → field_of files f member_refs (suc n) ≡ resolve_field size (assemblies_of files) f (Reference k)
  field_named n k kind e =
      ap (λ o. on_some o (λ (y : FilePart). resolve_field size (assemblies_of files) f (field_token y.metadata member_refs (suc n)))) there
      ∙ ap (resolve_field size (assemblies_of files) f) (field_token_is x.metadata n kind ∙ ap Reference (sym e))

  method_named : (n k : ℕ) → is_method_ref x.metadata (get_or (rows_of x.metadata member_refs) n []) ≡ true → k ≡ count_by (is_method_ref x.metadata) (take n (rows_of x.metadata member_refs)) → method_of files f member_refs (suc n) ≡ resolve_method size (assemblies_of files) f (Reference k)
  method_named n k kind e =
      ap (λ o. on_some o (λ (y : FilePart). resolve_method size (assemblies_of files) f (method_token y.metadata member_refs (suc n)))) there
      ∙ ap (resolve_method size (assemblies_of files) f) (method_token_is x.metadata n kind ∙ ap Reference (sym e))

-- ---- by the tables of a file

module _ (files : List FilePart) (f : ℕ) (m : MetadataPart) (there : option_map (λ (p : FilePart). p.metadata) (slice_get files f) ≡ Some m) where
  pub part_is : (x : FilePart) → slice_get files f ≡ Some x → x.metadata ≡ m
  part_is x at = let same : Some x.metadata ≡ Some m = sym (ap (option_map (λ (p : FilePart). p.metadata)) at) ∙ there in cc same

  pub field_met : (n k : ℕ) → is_field_ref m (get_or (rows_of m member_refs) n []) ≡ true → k ≡ count_by (is_field_ref m) (take n (rows_of m member_refs)) → field_of files f member_refs (suc n) ≡ resolve_field (size_of (rows_alone files)) (assemblies_of files) f (Reference k)
  field_met n k kind e =
      let w = file_there files f m there in
      field_named files f w.0 w.1 n k (ap (λ y. is_field_ref y (get_or (rows_of y member_refs) n [])) w.2 ∙ kind) (e ∙ ap (λ y. count_by (is_field_ref y) (take n (rows_of y member_refs))) (sym w.2))

  pub method_met : (n k : ℕ) → is_method_ref m (get_or (rows_of m member_refs) n []) ≡ true → k ≡ count_by (is_method_ref m) (take n (rows_of m member_refs)) → method_of files f member_refs (suc n) ≡ resolve_method (size_of (rows_alone files)) (assemblies_of files) f (Reference k)
  method_met n k kind e =
      let w = file_there files f m there in
      method_named files f w.0 w.1 n k (ap (λ y. is_method_ref y (get_or (rows_of y member_refs) n [])) w.2 ∙ kind) (e ∙ ap (λ y. count_by (is_method_ref y) (take n (rows_of y member_refs))) (sym w.2))

-- ---- rows of the world's files

module _ (files : List FilePart) where
  checked_within : {A : Type 0} (check : FilePart → Option A) (f : ℕ) (y : A) → on_some (slice_get files f) check ≡ Some y → f < length files
  checked_within {A} check f y e = go (slice_get files f) refl e
    where
      go : (o : Option FilePart) → slice_get files f ≡ o → on_some o check ≡ Some y → f < length files
      go None at h = absurd (cc h)
      go (Some p) at h = slice_get_within files f p at

  pub type_within : (f index : ℕ) (o : Option Id) (c : Id) → o ≡ class_coded files f TypeDefOrRef index → o ≡ Some c → c.file < length files
  type_within f index o c e is =
      let named : class_of files f (token_table TypeDefOrRef index) (token_row TypeDefOrRef index) ≡ Some c = sym e ∙ is in
      checked_within _ c.file (type_id c) (sym (ap (λ z. on_some z (checked files)) named) ∙ class_there files f (token_table TypeDefOrRef index) (token_row TypeDefOrRef index) ∙ ap (option_map type_id) named)

  pub field_within : (f row : ℕ) (o : Option Id) (c : Id) → o ≡ field_of files f member_refs row → o ≡ Some c → c.file < length files
  field_within f row o c e is =
      let named : field_of files f member_refs row ≡ Some c = sym e ∙ is in
      checked_within _ c.file (field_id c) (sym (ap (λ z. on_some z (field_checked files)) named) ∙ field_is_there files f member_refs row ∙ ap (option_map field_id) named)

  pub method_within : (f row : ℕ) (o : Option Id) (c : Id) → o ≡ method_of files f member_refs row → o ≡ Some c → c.file < length files
  method_within f row o c e is =
      let named : method_of files f member_refs row ≡ Some c = sym e ∙ is in
      checked_within _ c.file (method_id c) (sym (ap (λ z. on_some z (method_checked files)) named) ∙ method_is_there files f member_refs row ∙ ap (option_map method_id) named)
