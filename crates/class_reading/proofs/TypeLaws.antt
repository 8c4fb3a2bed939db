-- What the rows of a file say of its types.
use Rattle.std.proofs.Common.{◌≡◌, ℕ, suc, ◌+◌, ◌<◌, Bool, false, List, [], ◌∷◌, map, Option, Some, None, refl, sym, ap, ◌∙◌, arith}
use Rattle.std.specs.Prelude.{slice_get, slice_index, unwrap_or, ◌==◌, if◌then◌else◌}
use Rattle.std.specs.List.{filter, filter_map, cons_option}
use Rattle.std.specs.Option.{option_map}
use Rattle.std.proofs.lemmas.Option.{slice_get-map, slice_get-get_or}
use Rattle.std.proofs.lemmas.Bool.Decides.{nat_tests}
use Rattle.file_tables.specs.declared.schema.Coded.TheVariants.{TypeDefOrRef}
use Rattle.file_tables.specs.Metadata.{MetadataPart, rows_of, row_of, row_count, token_row}
use Rattle.file_tables.specs.Bytes.{has_bit}
use Rattle.file_tables.specs.File.{FilePart}
use Rattle.machine.specs.Data.{Id}
use Rattle.machine.specs.Throw.{on_some}
use Rattle.classes.specs.Classes.{TypeKind, Reference}
use Rattle.classes.specs.Queries.{is_instance_kind}
use Rattle.assemblies.specs.Rows.{Assembly, TypeRow, FieldRow, TypeToken}
use Rattle.assemblies.specs.Binding.{id_at, resolve, numbered, range}
use Rattle.assemblies.proofs.Numbered.{get_numbered}
use Rattle.world_rows.specs.Tokens.{type_defs, fields, methods, superclass_token, coded_type, text_at}
use Rattle.world_rows.specs.Rows.{type_row, alone, first_of, list_first, list_count, enclosing_of, interfaces_of}
use Rattle.world_rows.specs.Kinds.{superclass_of, number_in, number_of, kind_of}
use Rattle.world_rows.specs.World.{rows_alone, size_of, assembly_with, assemblies_of}
use Rattle.world_rows.proofs.Alone.{resolve_alone}
use Rattle.type_names.specs.Resolved.{class_coded}
use Rattle.class_table.specs.Outlines.{Outline, outline_of, outlines_at}
use Rattle.class_reading.specs.Fields.{number_at}
use Rattle.class_reading.specs.Types.{superclass_at, row_outline}

from_none : (n : ℕ) → 0 + n ≡ n
from_none n = omega arith

map_numbered : {A B C : Type 0} (f : B → C) (make : ℕ → A → B) (n : ℕ) (xs : List A) → map f (numbered make n xs) ≡ numbered (λ k x. f (make k x)) n xs
map_numbered f make n [] = refl
map_numbered f make n (x ∷ xs) = ap (λ ys. f (make n x) ∷ ys) (map_numbered f make (suc n) xs)

same_found : {A B : Type 0} (f g : A → Option B) → ((x : A) → f x ≡ g x) → (xs : List A) → filter_map f xs ≡ filter_map g xs
same_found f g same [] = refl
same_found f g same (x ∷ xs) = ap (λ o. cons_option o (filter_map f xs)) (same x) ∙ ap (cons_option (g x)) (same_found f g same xs)

-- ---- an outline by its parts

outline_by : List ℕ → List ℕ → Option ℕ → Option Id → List Id → TypeKind → Bool → Bool → Bool → ℕ → ℕ → ℕ → ℕ → Outline
outline_by x0 x1 x2 x3 x4 x5 x6 x7 x8 x9 x10 x11 x12 = record { namespace = x0; name = x1; enclosing = x2; superclass = x3; interfaces = x4; kind = x5; is_interface = x6; is_abstract = x7; is_lazy = x8; first_field = x9; field_count = x10; first_method = x11; method_count = x12 }

module _ (files : List FilePart) (file : ℕ) (m : MetadataPart) (n : ℕ) (row : List ℕ) (made : Outline) where
  pub outline_made : made.namespace ≡ text_at m (slice_index row 2) → made.name ≡ text_at m (slice_index row 1) → made.enclosing ≡ enclosing_of m n → made.superclass ≡ on_some (first_of (superclass_token m (slice_index row 3))) (resolve (size_of (rows_alone files)) (assemblies_of files) file) → made.interfaces ≡ filter_map (resolve (size_of (rows_alone files)) (assemblies_of files) file) (interfaces_of m n) → made.kind ≡ kind_of (size_of (rows_alone files)) (rows_alone files) (id_at file n) → made.is_interface ≡ has_bit (slice_index row 0) 5 → made.is_abstract ≡ has_bit (slice_index row 0) 7 → made.is_lazy ≡ has_bit (slice_index row 0) 20 → made.first_field ≡ list_first 4 row → made.field_count ≡ list_count m fields 4 n row → made.first_method ≡ list_first 5 row → made.method_count ≡ list_count m methods 5 n row → made ≡ row_outline files file m n row
  unfolding outline_by
  outline_made e0 e1 e2 e3 e4 e5 e6 e7 e8 e9 e10 e11 e12 =
      ap (λ (x : List ℕ). outline_by x made.name made.enclosing made.superclass made.interfaces made.kind made.is_interface made.is_abstract made.is_lazy made.first_field made.field_count made.first_method made.method_count) e0
      ∙ ap (λ (x : List ℕ). outline_by (text_at m (slice_index row 2)) x made.enclosing made.superclass made.interfaces made.kind made.is_interface made.is_abstract made.is_lazy made.first_field made.field_count made.first_method made.method_count) e1
      ∙ ap (λ (x : Option ℕ). outline_by (text_at m (slice_index row 2)) (text_at m (slice_index row 1)) x made.superclass made.interfaces made.kind made.is_interface made.is_abstract made.is_lazy made.first_field made.field_count made.first_method made.method_count) e2
      ∙ ap (λ (x : Option Id). outline_by (text_at m (slice_index row 2)) (text_at m (slice_index row 1)) (enclosing_of m n) x made.interfaces made.kind made.is_interface made.is_abstract made.is_lazy made.first_field made.field_count made.first_method made.method_count) e3
      ∙ ap (λ (x : List Id). outline_by (text_at m (slice_index row 2)) (text_at m (slice_index row 1)) (enclosing_of m n) (on_some (first_of (superclass_token m (slice_index row 3))) (resolve (size_of (rows_alone files)) (assemblies_of files) file)) x made.kind made.is_interface made.is_abstract made.is_lazy made.first_field made.field_count made.first_method made.method_count) e4
      ∙ ap (λ (x : TypeKind). outline_by (text_at m (slice_index row 2)) (text_at m (slice_index row 1)) (enclosing_of m n) (on_some (first_of (superclass_token m (slice_index row 3))) (resolve (size_of (rows_alone files)) (assemblies_of files) file)) (filter_map (resolve (size_of (rows_alone files)) (assemblies_of files) file) (interfaces_of m n)) x made.is_interface made.is_abstract made.is_lazy made.first_field made.field_count made.first_method made.method_count) e5
      ∙ ap (λ (x : Bool). outline_by (text_at m (slice_index row 2)) (text_at m (slice_index row 1)) (enclosing_of m n) (on_some (first_of (superclass_token m (slice_index row 3))) (resolve (size_of (rows_alone files)) (assemblies_of files) file)) (filter_map (resolve (size_of (rows_alone files)) (assemblies_of files) file) (interfaces_of m n)) (kind_of (size_of (rows_alone files)) (rows_alone files) (id_at file n)) x made.is_abstract made.is_lazy made.first_field made.field_count made.first_method made.method_count) e6
      ∙ ap (λ (x : Bool). outline_by (text_at m (slice_index row 2)) (text_at m (slice_index row 1)) (enclosing_of m n) (on_some (first_of (superclass_token m (slice_index row 3))) (resolve (size_of (rows_alone files)) (assemblies_of files) file)) (filter_map (resolve (size_of (rows_alone files)) (assemblies_of files) file) (interfaces_of m n)) (kind_of (size_of (rows_alone files)) (rows_alone files) (id_at file n)) (has_bit (slice_index row 0) 5) x made.is_lazy made.first_field made.field_count made.first_method made.method_count) e7
      ∙ ap (λ (x : Bool). outline_by (text_at m (slice_index row 2)) (text_at m (slice_index row 1)) (enclosing_of m n) (on_some (first_of (superclass_token m (slice_index row 3))) (resolve (size_of (rows_alone files)) (assemblies_of files) file)) (filter_map (resolve (size_of (rows_alone files)) (assemblies_of files) file) (interfaces_of m n)) (kind_of (size_of (rows_alone files)) (rows_alone files) (id_at file n)) (has_bit (slice_index row 0) 5) (has_bit (slice_index row 0) 7) x made.first_field made.field_count made.first_method made.method_count) e8
      ∙ ap (λ (x : ℕ). outline_by (text_at m (slice_index row 2)) (text_at m (slice_index row 1)) (enclosing_of m n) (on_some (first_of (superclass_token m (slice_index row 3))) (resolve (size_of (rows_alone files)) (assemblies_of files) file)) (filter_map (resolve (size_of (rows_alone files)) (assemblies_of files) file) (interfaces_of m n)) (kind_of (size_of (rows_alone files)) (rows_alone files) (id_at file n)) (has_bit (slice_index row 0) 5) (has_bit (slice_index row 0) 7) (has_bit (slice_index row 0) 20) x made.field_count made.first_method made.method_count) e9
      ∙ ap (λ (x : ℕ). outline_by (text_at m (slice_index row 2)) (text_at m (slice_index row 1)) (enclosing_of m n) (on_some (first_of (superclass_token m (slice_index row 3))) (resolve (size_of (rows_alone files)) (assemblies_of files) file)) (filter_map (resolve (size_of (rows_alone files)) (assemblies_of files) file) (interfaces_of m n)) (kind_of (size_of (rows_alone files)) (rows_alone files) (id_at file n)) (has_bit (slice_index row 0) 5) (has_bit (slice_index row 0) 7) (has_bit (slice_index row 0) 20) (list_first 4 row) x made.first_method made.method_count) e10
      ∙ ap (λ (x : ℕ). outline_by (text_at m (slice_index row 2)) (text_at m (slice_index row 1)) (enclosing_of m n) (on_some (first_of (superclass_token m (slice_index row 3))) (resolve (size_of (rows_alone files)) (assemblies_of files) file)) (filter_map (resolve (size_of (rows_alone files)) (assemblies_of files) file) (interfaces_of m n)) (kind_of (size_of (rows_alone files)) (rows_alone files) (id_at file n)) (has_bit (slice_index row 0) 5) (has_bit (slice_index row 0) 7) (has_bit (slice_index row 0) 20) (list_first 4 row) (list_count m fields 4 n row) x made.method_count) e11
      ∙ ap (λ (x : ℕ). outline_by (text_at m (slice_index row 2)) (text_at m (slice_index row 1)) (enclosing_of m n) (on_some (first_of (superclass_token m (slice_index row 3))) (resolve (size_of (rows_alone files)) (assemblies_of files) file)) (filter_map (resolve (size_of (rows_alone files)) (assemblies_of files) file) (interfaces_of m n)) (kind_of (size_of (rows_alone files)) (rows_alone files) (id_at file n)) (has_bit (slice_index row 0) 5) (has_bit (slice_index row 0) 7) (has_bit (slice_index row 0) 20) (list_first 4 row) (list_count m fields 4 n row) (list_first 5 row) x) e12

module _ (files : List FilePart) (file : ℕ) (m : MetadataPart) (there : option_map (λ (p : FilePart). p.metadata) (slice_get files file) ≡ Some m) where
  abbrev size : ℕ
  size = size_of (rows_alone files)

  file_there : (p : FilePart) × (slice_get files file ≡ Some p) × (p.metadata ≡ m)
  file_there = go (slice_get files file) refl there
    where
      go : (o : Option FilePart) → slice_get files file ≡ o → option_map (λ (p : FilePart). p.metadata) o ≡ Some m → (p : FilePart) × (slice_get files file ≡ Some p) × (p.metadata ≡ m)
      go None e f = cc f
      go (Some p) e f = (p, e, cc f)

  -- ---- one type

  module _ (n : ℕ) (within : n < row_count m type_defs) where
    abbrev row : List ℕ
    row = row_of m type_defs (suc n)

    types_alone : (x : MetadataPart) → x ≡ m → slice_get (numbered (type_row x (λ k. Reference)) 0 (rows_of x type_defs)) n ≡ Some (type_row m (λ k. Reference) n row)
    types_alone x e =
        ap (λ y. slice_get (numbered (type_row y (λ k. Reference)) 0 (rows_of y type_defs)) n) e
        ∙ get_numbered (type_row m (λ k. Reference)) 0 n (rows_of m type_defs)
        ∙ ap (option_map (type_row m (λ k. Reference) (0 + n))) (slice_get-get_or (rows_of m type_defs) n [] within)
        ∙ ap (λ k. Some (type_row m (λ k. Reference) k row)) (from_none n)

    file_alone : slice_get (rows_alone files) file ≡ Some (alone file_there.0)
    file_alone = slice_get-map alone files file ∙ ap (option_map alone) file_there.1

    pub superclass_is : superclass_of size (rows_alone files) (id_at file n) ≡ superclass_at files file m (slice_index row 3)
    superclass_is =
        ap (λ o. on_some (on_some o (λ (p : Assembly). slice_get p.types n)) (λ t. on_some t.extends (resolve size (rows_alone files) file))) file_alone
        ∙ ap (λ o. on_some o (λ (t : TypeRow). on_some t.extends (resolve size (rows_alone files) file))) (types_alone file_there.0.metadata file_there.2)

    pub number_is : number_of (rows_alone files) (id_at file n) ≡ number_at m (list_first 4 row) (list_count m fields 4 n row)
    number_is =
        ap (λ o. number_in (filter (λ (f : FieldRow). is_instance_kind f.kind) (unwrap_or (on_some o (λ (p : Assembly). option_map (λ t. range t.first_field t.field_count p.fields) (slice_get p.types n))) []))) file_alone
        ∙ ap (λ o. number_in (filter (λ (f : FieldRow). is_instance_kind f.kind) (unwrap_or (option_map (λ (t : TypeRow). range t.first_field t.field_count (alone file_there.0).fields) o) []))) (types_alone file_there.0.metadata file_there.2)
        ∙ ap (λ x. number_at x (list_first 4 row) (list_count m fields 4 n row)) file_there.2

  pub no_superclass : (extends : ℕ) → token_row TypeDefOrRef extends ≡ 0 → None ≡ superclass_at files file m extends
  no_superclass extends e = ap (λ n. on_some (first_of (if n == 0 then [] else coded_type m TypeDefOrRef extends ∷ [])) (resolve size (rows_alone files) file)) (sym e)

  pub some_superclass : (extends : ℕ) → (token_row TypeDefOrRef extends ≡ 0 → ⊥) → class_coded files file TypeDefOrRef extends ≡ superclass_at files file m extends
  some_superclass extends h =
      ap (λ o. on_some o (λ (f : FilePart). resolve size (rows_alone files) file (coded_type f.metadata TypeDefOrRef extends))) file_there.1
      ∙ ap (λ x. resolve size (rows_alone files) file (coded_type x TypeDefOrRef extends)) file_there.2
      ∙ sym (ap (λ b. on_some (first_of (if b then [] else coded_type m TypeDefOrRef extends ∷ [])) (resolve size (rows_alone files) file)) (not_zero (token_row TypeDefOrRef extends) h))
    where
      not_zero : (n : ℕ) → (n ≡ 0 → ⊥) → (n == 0) ≡ false
      not_zero n g = grind (arith, nat_tests)

  -- among the rows of all files

  pub same_superclass : (extends : ℕ) → superclass_at files file m extends ≡ on_some (first_of (superclass_token m extends)) (resolve size (assemblies_of files) file)
  same_superclass extends = go (first_of (superclass_token m extends))
    where
      go : (o : Option TypeToken) → on_some o (resolve size (rows_alone files) file) ≡ on_some o (resolve size (assemblies_of files) file)
      go None = refl
      go (Some t) = sym (resolve_alone files size file t)

  pub same_interfaces : (ts : List TypeToken) → filter_map (resolve size (rows_alone files) file) ts ≡ filter_map (resolve size (assemblies_of files) file) ts
  same_interfaces ts = same_found (resolve size (rows_alone files) file) (resolve size (assemblies_of files) file) (λ t. sym (resolve_alone files size file t)) ts

  -- ---- all types

  pub outlines_are : outlines_at files file ≡ numbered (row_outline files file m) 0 (rows_of m type_defs)
  unfolding assemblies_of
  outlines_are =
      ap (λ o. unwrap_or (option_map (λ (p : Assembly). map (outline_of size (assemblies_of files) file) p.types) o) []) (get_numbered (assembly_with size files (rows_alone files)) 0 file files ∙ ap (option_map (assembly_with size files (rows_alone files) (0 + file))) file_there.1)
      ∙ map_numbered (outline_of size (assemblies_of files) file) (type_row file_there.0.metadata (λ i. kind_of size (rows_alone files) (id_at (0 + file) i))) 0 (rows_of file_there.0.metadata type_defs)
      ∙ ap (λ k. numbered (λ n row. outline_of size (assemblies_of files) file (type_row file_there.0.metadata (λ i. kind_of size (rows_alone files) (id_at k i)) n row)) 0 (rows_of file_there.0.metadata type_defs)) (from_none file)
      ∙ ap (λ x. numbered (λ n row. outline_of size (assemblies_of files) file (type_row x (λ i. kind_of size (rows_alone files) (id_at file i)) n row)) 0 (rows_of x type_defs)) file_there.2
