-- The fields and types of a file as the table of classes and the file tell them are those of the file's assembly.
use Rattle.std.proofs.Common.{◌≡◌, ℕ, suc, ◌+◌, ◌<◌, List, [], ◌∷◌, map, length, Option, Some, refl, sym, ap, ◌∙◌, zero-add, arith}
use Rattle.std.specs.Prelude.{slice_get, slice_index, slice_index_or, unwrap_or}
use Rattle.std.specs.Option.{option_map}
use Rattle.file_tables.specs.Metadata.{MetadataPart, rows_of}
use Rattle.file_tables.specs.File.{FilePart}
use Rattle.classes.specs.Classes.{OwnField, TypeKind}
use Rattle.assemblies.specs.Rows.{TypeToken, RawType, TypeRow, FieldRow, Assembly}
use Rattle.assemblies.specs.Binding.{id_at, numbered, own_field}
use Rattle.assemblies.proofs.Numbered.{get_numbered}
use Rattle.world_rows.specs.Tokens.{type_defs, fields, bytes_at, superclass_token}
use Rattle.world_rows.specs.Signatures.{field_signature}
use Rattle.world_rows.specs.Rows.{first_of, interfaces_of, type_row, field_row}
use Rattle.world_rows.specs.Kinds.{kind_of, data_of}
use Rattle.world_rows.specs.World.{size_of, assembly_with, rows_alone, assemblies_of}
use Rattle.class_table.specs.declared.rows.FieldRow.{FieldRow as FieldColumns}
use Rattle.class_table.specs.declared.rows.FileRows.{FileRows}
use Rattle.class_table.specs.declared.rows.ClassTable.{ClassTable}
use Rattle.class_table.specs.declared.rows.ClassRow.{ClassRow}
use Rattle.class_table.specs.Seen.{field_seen}
use Rattle.class_table.specs.Outlines.{Outline, outline_seen, outline_of, outlines_at}
use Rattle.class_table.specs.Whole.{fields_at, IsTable}
use Rattle.image_rows.specs.Fields.{field_read, fields_read}
use Rattle.image_rows.specs.Types.{type_read, types_read, interfaces_read}

-- ---- rows of a table that is told, and of a file, by what is seen of both

module _ {A B C : Type 0} (seen : ℕ → A → B) (own : ℕ → C → B) (read : ℕ → A → C) (make : ℕ → List ℕ → C) (rows : List (List ℕ)) (one : (n : ℕ) (x : A) (row : List ℕ) → slice_index_or rows n [] ≡ row → seen n x ≡ own n (make n row) → read n x ≡ make n row) where
  -- those from a number on
  same_from : (n : ℕ) (xs : List A) (ys : List (List ℕ)) → ((i : ℕ) → i < length ys → slice_index_or rows (n + i) [] ≡ slice_index_or ys i []) → numbered seen n xs ≡ numbered own n (numbered make n ys) → numbered read n xs ≡ numbered make n ys
  same_from n [] [] at e = refl
  same_from n [] (y ∷ ys) at e = absurd (cc e)
  same_from n (x ∷ xs) [] at e = absurd (cc e)
  same_from n (x ∷ xs) (y ∷ ys) at e =
      let head : seen n x ≡ own n (make n y) = cc e in
      let tail : numbered seen (suc n) xs ≡ numbered own (suc n) (numbered make (suc n) ys) = cc e in
      let first : n ≡ n + 0 = omega arith in
      let some : 0 < suc (length ys) = omega arith in
      let here : slice_index_or rows n [] ≡ y = ap (λ k. slice_index_or rows k []) first ∙ at 0 some in
      ap (λ z. z ∷ numbered read (suc n) xs) (one n x y here head)
      ∙ ap (λ zs. make n y ∷ zs) (same_from (suc n) xs ys behind tail)
    where
      behind : (i : ℕ) → i < length ys → slice_index_or rows (suc n + i) [] ≡ slice_index_or ys i []
      behind i h =
          let next : suc n + i ≡ n + suc i = omega arith in
          let within : suc i < suc (length ys) = omega (arith, h) in
          ap (λ k. slice_index_or rows k []) next ∙ at (suc i) within

  same_rows : (xs : List A) → numbered seen 0 xs ≡ numbered own 0 (numbered make 0 rows) → numbered read 0 xs ≡ numbered make 0 rows
  same_rows xs e = same_from 0 xs rows (λ i h. ap (λ k. slice_index_or rows k []) (zero-add i)) e

-- ---- one row, of which the table tells all but what it names

abbrev field_by : OwnField → RawType → FieldRow
field_by o signature = record { name = o.name; signature = signature; kind = o.kind }

abbrev type_by : Outline → Option TypeToken → List TypeToken → TypeRow
type_by o extends interfaces =
    record {
      namespace = o.namespace;
      name = o.name;
      enclosing = o.enclosing;
      extends = extends;
      interfaces = interfaces;
      kind = o.kind;
      is_interface = o.is_interface;
      is_abstract = o.is_abstract;
      is_lazy = o.is_lazy;
      first_field = o.first_field;
      field_count = o.field_count;
      first_method = o.first_method;
      method_count = o.method_count;
    }

module _ (size : ℕ) (ps : List Assembly) (f : ℕ) (m : MetadataPart) where
  field_same : (filled : ℕ → List ℕ) (n : ℕ) (x : FieldColumns) (row : List ℕ) → slice_index_or (rows_of m fields) n [] ≡ row → field_seen f n x ≡ own_field size ps f n (field_row m filled n row) → field_read m n x ≡ field_row m filled n row
  field_same filled n x row at e =
      ap (λ o. field_by o (field_signature m (bytes_at m (slice_index (slice_index_or (rows_of m fields) n []) 2)))) e
      ∙ ap (λ (r : List ℕ). field_by (own_field size ps f n (field_row m filled n row)) (field_signature m (bytes_at m (slice_index r 2)))) at

  type_same : (kind : ℕ → TypeKind) (n : ℕ) (x : ClassRow) (row : List ℕ) → slice_index_or (rows_of m type_defs) n [] ≡ row → outline_seen x ≡ outline_of size ps f (type_row m kind n row) → type_read m n x ≡ type_row m kind n row
  type_same kind n x row at e =
      ap (λ o. type_by o (first_of (superclass_token m (slice_index (slice_index_or (rows_of m type_defs) n []) 3))) (interfaces_of m n)) e
      ∙ ap (λ (r : List ℕ). type_by (outline_of size ps f (type_row m kind n row)) (first_of (superclass_token m (slice_index r 3))) (interfaces_of m n)) at

-- a number that isn't looked at
unnumbered : {A B : Type 0} (g : A → B) (n : ℕ) (xs : List A) → numbered (λ k. g) n xs ≡ map g xs
unnumbered g n [] = refl
unnumbered g n (x ∷ xs) = ap (λ ys. g x ∷ ys) (unnumbered g (suc n) xs)

module _ (files : List FilePart) (f : ℕ) (x : FilePart) (p : Assembly) (at : slice_get files f ≡ Some x) (of : slice_get (assemblies_of files) f ≡ Some p) where
  -- the assembly of a file
  pub assembly_is : p ≡ assembly_with (size_of (rows_alone files)) files (rows_alone files) (0 + f) x
  unfolding assemblies_of
  assembly_is =
      let there = sym of ∙ get_numbered (assembly_with (size_of (rows_alone files)) files (rows_alone files)) 0 f files ∙ ap (option_map (assembly_with (size_of (rows_alone files)) files (rows_alone files) (0 + f))) at in
      cc there

  pub fields_are_read : (t : ClassTable) (rows : FileRows) → IsTable files t → slice_get t.files.items f ≡ Some rows → fields_read x.metadata rows.fields.items ≡ p.fields
  fields_are_read t rows is there =
      let own = own_field (size_of (rows_alone files)) (assemblies_of files) f in
      let filled : ℕ → List ℕ = λ row. unwrap_or (data_of (size_of (rows_alone files)) files (rows_alone files) (id_at (0 + f) row)) [] in
      let these : p.fields ≡ numbered (field_row x.metadata filled) 0 (rows_of x.metadata fields) = ap (λ (a : Assembly). a.fields) assembly_is in
      let table : fields_at files f ≡ p.fields = ap (λ o. unwrap_or (option_map (λ (a : Assembly). a.fields) o) []) of in
      let seen : numbered (field_seen f) 0 rows.fields.items ≡ numbered own 0 (numbered (field_row x.metadata filled) 0 (rows_of x.metadata fields)) = (is.rows f rows there).fields.fields ∙ ap (numbered own 0) (table ∙ these) in
      same_rows (field_seen f) own (field_read x.metadata) (field_row x.metadata filled) (rows_of x.metadata fields) (field_same (size_of (rows_alone files)) (assemblies_of files) f x.metadata filled) rows.fields.items seen ∙ sym these

  pub types_are_read : (t : ClassTable) (rows : FileRows) → IsTable files t → slice_get t.files.items f ≡ Some rows → types_read x.metadata rows.classes.items ≡ p.types
  types_are_read t rows is there =
      let outline : TypeRow → Outline = outline_of (size_of (rows_alone files)) (assemblies_of files) f in
      let kind : ℕ → TypeKind = λ row. kind_of (size_of (rows_alone files)) (rows_alone files) (id_at (0 + f) row) in
      let these : p.types ≡ numbered (type_row x.metadata kind) 0 (rows_of x.metadata type_defs) = ap (λ (a : Assembly). a.types) assembly_is in
      let table : outlines_at files f ≡ map outline p.types = ap (λ o. unwrap_or (option_map (λ (a : Assembly). map outline a.types) o) []) of in
      let told : map outline_seen rows.classes.items ≡ map outline (numbered (type_row x.metadata kind) 0 (rows_of x.metadata type_defs)) = (is.rows f rows there).classes ∙ table ∙ ap (map outline) these in
      let seen : numbered (λ k. outline_seen) 0 rows.classes.items ≡ numbered (λ k. outline) 0 (numbered (type_row x.metadata kind) 0 (rows_of x.metadata type_defs)) = unnumbered outline_seen 0 rows.classes.items ∙ told ∙ sym (unnumbered outline 0 (numbered (type_row x.metadata kind) 0 (rows_of x.metadata type_defs))) in
      same_rows (λ k. outline_seen) (λ k. outline) (type_read x.metadata) (type_row x.metadata kind) (rows_of x.metadata type_defs) (type_same (size_of (rows_alone files)) (assemblies_of files) f x.metadata kind) rows.classes.items seen ∙ sym these

  pub interfaces_are_read : map (λ (t : TypeRow). t.interfaces) p.types ≡ interfaces_read x.metadata
  interfaces_are_read =
      let kind : ℕ → TypeKind = λ row. kind_of (size_of (rows_alone files)) (rows_alone files) (id_at (0 + f) row) in
      ap (λ (a : Assembly). map (λ (t : TypeRow). t.interfaces) a.types) assembly_is
      ∙ named kind 0 (rows_of x.metadata type_defs)
    where
      named : (kind : ℕ → TypeKind) (n : ℕ) (rows : List (List ℕ)) → map (λ (t : TypeRow). t.interfaces) (numbered (type_row x.metadata kind) n rows) ≡ numbered (λ k row. interfaces_of x.metadata k) n rows
      named kind n [] = refl
      named kind n (row ∷ rows) = ap (λ ts. interfaces_of x.metadata n ∷ ts) (named kind (suc n) rows)
