-- The tables of the parts of a file's kept rows, each by the rows of the file.
use Rattle.std.proofs.Common.{◌≡◌, ℕ, Bool, List, [], ◌∷◌, ◌++◌, map, Option, Some, None, refl, sym, ap, ◌∙◌, zero-add}
use Rattle.std.specs.Prelude.{slice_get, slice_index}
use Rattle.std.specs.List.{filter, flat_map}
use Rattle.std.specs.Option.{option_map}
use Rattle.file_tables.specs.Metadata.{rows_of}
use Rattle.file_tables.specs.File.{FilePart}
use Rattle.kept_rows.specs.Select.{select}
use Rattle.assemblies.specs.Rows.{TypeToken, TypeDef, TypeRef, TypeSpec, Scope, OfAssembly, Inside, Nowhere, RawType, RawSpelt, RawClass, RawValue, RawArray, RawPlace, RawDirect, RawByRef, RawSignature, TypeRefRow, FieldRefRow, MethodRefRow, TypeRow, FieldRow, Assembly}
use Rattle.assemblies.specs.Chosen.{Choice, token_to, scope_to, raw_to, place_to, signature_to, ref_to, field_ref_to, method_ref_to, type_row_to, field_row_to}
use Rattle.assemblies.proofs.Numbered.{map_select}
use Rattle.image_form.specs.Form.{data_of}
use Rattle.image_form.specs.Whole.{Methods}
use Rattle.world_rows.specs.Tokens.{type_refs, member_refs, type_specs, assembly_refs, bytes_at, is_field_ref, is_method_ref}
use Rattle.world_rows.specs.Signatures.{spec_signature}
use Rattle.world_rows.specs.Rows.{assembly_ref, type_ref, field_ref, method_ref}
use Rattle.world_rows.specs.World.{assemblies_of}
use Rattle.class_table.specs.declared.rows.FileRows.{FileRows}
use Rattle.class_table.specs.declared.rows.ClassTable.{ClassTable}
use Rattle.class_table.specs.Whole.{IsTable}
use Rattle.msspot_write.specs.declared.parts.PartRow.{PartRow}
use Rattle.msspot_write.specs.declared.parts.Parts.{Parts}
use Rattle.msspot_write.specs.Spelt.{assembly_part, ref_part, field_ref_part, method_ref_part, type_parts, interface_part, spec_part, field_parts, data_part}
use Rattle.msspot_write.specs.Parts as parts
use Rattle.row_numbers.specs.declared.table.Table.TheVariants as table
use Rattle.kept_marks.specs.Masks.{Masks, choice_with, choice_of_rows}
use Rattle.converted.specs.Cut.{two_bytes}
use Rattle.converted.specs.Images.{row_cut, parts_of, parts_cut}
use Rattle.image_rows.specs.Kept.{assembly_rows, reference_rows, field_reference_rows, method_reference_rows, spec_rows}
use Rattle.image_rows.specs.Fields.{fields_read, field_rows, data_rows}
use Rattle.image_rows.specs.Types.{types_read, type_rows, interface_rows}
use Rattle.image_rows.specs.Header.{version_read, name_read, entry_read, entry_kept}
use Rattle.image_rows.proofs.WorldLaws.{assembly_is, fields_are_read, types_are_read, interfaces_are_read}

maps_same : {A B : Type 0} (g h : A → B) → ((x : A) → g x ≡ h x) → (xs : List A) → map g xs ≡ map h xs
maps_same g h same [] = refl
maps_same g h same (x ∷ xs) = ap (λ y. y ∷ map g xs) (same x) ∙ ap (λ ys. h x ∷ ys) (maps_same g h same xs)

-- ---- a choice of rows says the same of tokens wherever places lie

module _ (kept : Masks) (short long : ℕ → ℕ → ℕ) where
  abbrev k : Choice
  k = choice_with kept short long

  abbrev r : Choice
  r = choice_of_rows kept

  token_same : (t : TypeToken) → token_to k t ≡ token_to r t
  token_same (TypeDef n) = refl
  token_same (TypeRef n) = refl
  token_same (TypeSpec n) = refl

  scope_same : (s : Scope) → scope_to k s ≡ scope_to r s
  scope_same (OfAssembly n) = refl
  scope_same (Inside n) = refl
  scope_same Nowhere = refl

  raw_same : (s : RawType) → raw_to k s ≡ raw_to r s
  raw_same (RawSpelt e) = refl
  raw_same (RawClass t) = ap (λ u. RawClass u) (token_same t)
  raw_same (RawValue t) = ap (λ u. RawValue u) (token_same t)
  raw_same (RawArray s) = ap (λ u. RawArray u) (raw_same s)

  place_same : (s : RawPlace) → place_to k s ≡ place_to r s
  place_same (RawDirect s) = ap (λ u. RawDirect u) (raw_same s)
  place_same (RawByRef s) = ap (λ u. RawByRef u) (raw_same s)

  result_same : (o : Option RawType) → option_map (raw_to k) o ≡ option_map (raw_to r) o
  result_same None = refl
  result_same (Some s) = ap (λ u. Some u) (raw_same s)

  abbrev signature_with : Bool → Option RawType → List RawPlace → RawSignature
  signature_with this returns parameters = record { has_this = this; returns = returns; parameters = parameters }

  signature_same : (s : RawSignature) → signature_to k s ≡ signature_to r s
  signature_same s =
      ap (λ o. signature_with s.has_this o (map (place_to k) s.parameters)) (result_same s.returns)
      ∙ ap (λ ps. signature_with s.has_this (option_map (raw_to r) s.returns) ps) (maps_same (place_to k) (place_to r) place_same s.parameters)

  abbrev field_ref_with : List ℕ → TypeToken → RawType → FieldRefRow
  field_ref_with name parent signature = record { parent = parent; name = name; signature = signature }

  abbrev method_ref_with : List ℕ → TypeToken → RawSignature → MethodRefRow
  method_ref_with name parent signature = record { parent = parent; name = name; signature = signature }

  ref_same : (x : TypeRefRow) → ref_to k x ≡ ref_to r x
  ref_same x = let moved : Scope → TypeRefRow = λ s. record { scope = s; namespace = x.namespace; name = x.name } in ap moved (scope_same x.scope)

  field_ref_same : (x : FieldRefRow) → field_ref_to k x ≡ field_ref_to r x
  field_ref_same x = ap (λ t. field_ref_with x.name t (raw_to k x.signature)) (token_same x.parent) ∙ ap (λ s. field_ref_with x.name (token_to r x.parent) s) (raw_same x.signature)

  method_ref_same : (x : MethodRefRow) → method_ref_to k x ≡ method_ref_to r x
  method_ref_same x = ap (λ t. method_ref_with x.name t (signature_to k x.signature)) (token_same x.parent) ∙ ap (λ s. method_ref_with x.name (token_to r x.parent) s) (signature_same x.signature)

  field_same : (x : FieldRow) → field_row_to k x ≡ field_row_to r x
  field_same x = let moved : RawType → FieldRow = λ s. record { name = x.name; signature = s; kind = x.kind } in ap moved (raw_same x.signature)

  extends_same : (o : Option TypeToken) → option_map (token_to k) o ≡ option_map (token_to r) o
  extends_same None = refl
  extends_same (Some t) = ap (λ u. Some u) (token_same t)

  tokens_same : (ts : List TypeToken) → map (token_to k) ts ≡ map (token_to r) ts
  tokens_same ts = maps_same (token_to k) (token_to r) token_same ts

  type_same : (x : TypeRow) → type_row_to k x ≡ type_row_to r x
  type_same x =
      let moved : Option TypeToken → List TypeToken → TypeRow = λ o ts. record (type_row_to r x) { extends = o; interfaces = ts } in
      ap (λ o. moved o (map (token_to k) x.interfaces)) (extends_same x.extends) ∙ ap (moved (option_map (token_to r) x.extends)) (tokens_same x.interfaces)

  -- the interfaces of types
  interfaces_same : (xs : List TypeRow) → flat_map (λ (t : TypeRow). t.interfaces) (map (type_row_to k) xs) ≡ flat_map (map (token_to r)) (map (λ (t : TypeRow). t.interfaces) xs)
  interfaces_same [] = refl
  interfaces_same (x ∷ xs) = ap (λ ts. ts ++ flat_map (λ (t : TypeRow). t.interfaces) (map (type_row_to k) xs)) (tokens_same x.interfaces) ∙ ap (λ ts. map (token_to r) x.interfaces ++ ts) (interfaces_same xs)

-- ---- parts of rows that are read one by one

module _ {A : Type 0} (keep : ℕ → Bool) (part : A → PartRow) (read : List ℕ → A) (rows : List (List ℕ)) (all : List A) (are : all ≡ map read rows) where
  fused : (zs : List (List ℕ)) → map row_cut (map part (map read zs)) ≡ map (λ row. row_cut (part (read row))) zs
  fused [] = refl
  fused (z ∷ zs) = ap (λ ps. row_cut (part (read z)) ∷ ps) (fused zs)

  read_parts : map row_cut (map part (select keep all)) ≡ map (λ row. row_cut (part (read row))) (select keep rows)
  read_parts = ap (λ z. map row_cut (map part (select keep z))) are ∙ ap (λ z. map row_cut (map part z)) (sym (map_select read keep rows)) ∙ fused (select keep rows)

module _ {A : Type 0} (keep : ℕ → Bool) (part : A → PartRow) (to to' : A → A) (same : (x : A) → to x ≡ to' x) (read : List ℕ → A) (rows : List (List ℕ)) (all : List A) (are : all ≡ map read rows) where
  fused_to : (zs : List (List ℕ)) → map row_cut (map part (map to' (map read zs))) ≡ map (λ row. row_cut (part (to' (read row)))) zs
  fused_to [] = refl
  fused_to (z ∷ zs) = ap (λ ps. row_cut (part (to' (read z))) ∷ ps) (fused_to zs)

  moved_parts : map row_cut (map part (map to (select keep all))) ≡ map (λ row. row_cut (part (to' (read row)))) (select keep rows)
  moved_parts =
      ap (λ z. map row_cut (map part (map to (select keep z)))) are
      ∙ ap (λ z. map row_cut (map part (map to z))) (sym (map_select read keep rows))
      ∙ ap (λ z. map row_cut (map part z)) (maps_same to to' same (map read (select keep rows)))
      ∙ fused_to (select keep rows)

-- ---- the tables

module _ (files : List FilePart) (f : ℕ) (x : FilePart) (p : Assembly) (at : slice_get files f ≡ Some x) (of : slice_get (assemblies_of files) f ≡ Some p) (kept : Masks) (short long : ℕ → ℕ → ℕ) (ms : Methods) where
  abbrev made : ℕ → List PartRow
  made n = parts.rows_of (parts_cut (parts_of (choice_with kept short long) p ms)) n

  -- ---- the header

  abbrev parts_made : Parts
  parts_made = parts_cut (parts_of (choice_with kept short long) p ms)

  pub version_is : parts_made.version ≡ version_read x.metadata
  version_is = ap (λ (a : Assembly). map two_bytes a.version) (assembly_is files f x p at of)

  pub name_is : parts_made.name ≡ name_read x.metadata
  name_is = ap (λ (a : Assembly). a.name) (assembly_is files f x p at of)

  pub entry_is : parts_made.entry ≡ entry_kept kept (entry_read f x)
  entry_is =
      ap (λ (a : Assembly). entry_kept kept a.entry) (assembly_is files f x p at of)
      ∙ ap (λ n. entry_kept kept (entry_read n x)) (zero-add f)

  -- ---- its tables

  pub assemblies_are : made 0 ≡ assembly_rows kept x.metadata
  assemblies_are =
      read_parts (kept table.AssemblyRef) assembly_part (assembly_ref x.metadata) (rows_of x.metadata assembly_refs) p.assemblies
      (ap (λ (a : Assembly). a.assemblies) (assembly_is files f x p at of))

  pub references_are : made 1 ≡ reference_rows kept x.metadata
  references_are =
      moved_parts (kept table.TypeRef) ref_part (ref_to (choice_with kept short long)) (ref_to (choice_of_rows kept)) (ref_same kept short long) (type_ref x.metadata) (rows_of x.metadata type_refs) p.refs
      (ap (λ (a : Assembly). a.refs) (assembly_is files f x p at of))

  pub field_references_are : made 2 ≡ field_reference_rows kept x.metadata
  field_references_are =
      moved_parts (kept table.FieldRef) field_ref_part (field_ref_to (choice_with kept short long)) (field_ref_to (choice_of_rows kept)) (field_ref_same kept short long) (field_ref x.metadata) (filter (is_field_ref x.metadata) (rows_of x.metadata member_refs)) p.field_refs
      (ap (λ (a : Assembly). a.field_refs) (assembly_is files f x p at of))

  pub method_references_are : made 3 ≡ method_reference_rows kept x.metadata
  method_references_are =
      moved_parts (kept table.MethodRef) method_ref_part (method_ref_to (choice_with kept short long)) (method_ref_to (choice_of_rows kept)) (method_ref_same kept short long) (method_ref x.metadata) (filter (is_method_ref x.metadata) (rows_of x.metadata member_refs)) p.method_refs
      (ap (λ (a : Assembly). a.method_refs) (assembly_is files f x p at of))

  pub specs_are : made 9 ≡ spec_rows kept x.metadata
  specs_are =
      moved_parts (kept table.TypeSpec) spec_part (raw_to (choice_with kept short long)) (raw_to (choice_of_rows kept)) (raw_same kept short long) (λ row. spec_signature x.metadata (bytes_at x.metadata (slice_index row 0))) (rows_of x.metadata type_specs) p.specs
      (ap (λ (a : Assembly). a.specs) (assembly_is files f x p at of))

  pub interfaces_are : made 5 ≡ interface_rows kept x.metadata
  interfaces_are =
      ap (λ ts. map row_cut (map interface_part ts))
      (interfaces_same kept short long (select (kept table.TypeDef) p.types)
      ∙ ap (flat_map (map (token_to (choice_of_rows kept)))) (map_select (λ (t : TypeRow). t.interfaces) (kept table.TypeDef) p.types ∙ ap (select (kept table.TypeDef)) (interfaces_are_read files f x p at of)))

  module _ (t : ClassTable) (rows : FileRows) (is : IsTable files t) (there : slice_get t.files.items f ≡ Some rows) where
    kept_types_are : map (type_row_to (choice_with kept short long)) (select (kept table.TypeDef) p.types) ≡ map (type_row_to (choice_of_rows kept)) (select (kept table.TypeDef) (types_read x.metadata rows.classes.items))
    kept_types_are =
        maps_same (type_row_to (choice_with kept short long)) (type_row_to (choice_of_rows kept)) (type_same kept short long) (select (kept table.TypeDef) p.types)
        ∙ ap (λ ys. map (type_row_to (choice_of_rows kept)) (select (kept table.TypeDef) ys)) (sym (types_are_read files f x p at of t rows is there))

    pub types_are : made 4 ≡ type_rows kept x.metadata rows.classes.items
    types_are = ap (λ ys. map row_cut (type_parts 0 ys)) kept_types_are

    kept_fields_are : map (field_row_to (choice_with kept short long)) (select (kept table.Field) p.fields) ≡ map (field_row_to (choice_of_rows kept)) (select (kept table.Field) (fields_read x.metadata rows.fields.items))
    kept_fields_are =
        maps_same (field_row_to (choice_with kept short long)) (field_row_to (choice_of_rows kept)) (field_same kept short long) (select (kept table.Field) p.fields)
        ∙ ap (λ ys. map (field_row_to (choice_of_rows kept)) (select (kept table.Field) ys)) (sym (fields_are_read files f x p at of t rows is there))

    pub fields_are : made 6 ≡ field_rows kept x.metadata rows.fields.items
    fields_are = ap (λ ys. map row_cut (field_parts 0 ys)) kept_fields_are

    pub datas_are : made 10 ≡ data_rows kept x.metadata rows.fields.items
    datas_are = ap (λ ys. map row_cut (map data_part (flat_map (λ (y : FieldRow). data_of y.kind) ys))) kept_fields_are
