-- The rows of an image's types and of the interfaces that they name, of the rows of a file that are kept. What types are is told by
-- the table of classes; what they extend and which interfaces they name by the file (II.22.37, II.22.23).
use Rattle.std.specs.Prelude.{◌≡◌, ◌<◌, ◌==◌, ℕ, suc, List, [], ◌∷◌, map, length, slice_get, slice_index, slice_index_or, Option}
use Rattle.std.specs.List.{filter, flat_map}
use Rattle.std.specs.Option.{option_map, option_map_or}
use Rattle.file_tables.specs.declared.schema.Coded.TheVariants.{TypeDefOrRef}
use Rattle.file_tables.specs.Metadata.{MetadataPart, column_of, rows_of}
use Rattle.kept_rows.specs.Select.{select, below, behind}
use Rattle.assemblies.specs.Rows.{TypeToken, TypeRow}
use Rattle.assemblies.specs.Binding.{numbered}
use Rattle.assemblies.specs.Chosen.{first_of, token_to, type_row_to}
use Rattle.world_rows.specs.Tokens.{type_defs, coded_type, superclass_token}
use Rattle.world_rows.specs.Rows.{interfaces_of}
use Rattle.world_rows.specs.Rows as file
use Rattle.image_form.specs.Signatures.{type_word}
use Rattle.image_form.specs.Form.{or_none, type_flags}
use Rattle.class_table.specs.declared.rows.ClassRow.{ClassRow}
use Rattle.class_table.specs.Seen.{kind_seen}
use Rattle.msspot_write.specs.declared.parts.PartRow.{PartRow}
use Rattle.msspot_write.specs.Spelt.{type_part, type_parts, interface_part}
use Rattle.row_numbers.specs.declared.table.Table.{Table}
use Rattle.row_numbers.specs.declared.table.Table.TheVariants as table
use Rattle.kept_marks.specs.Masks.{Masks, choice_of_rows}
use Rattle.converted.specs.Images.{row_cut}

-- ---- the interfaces that rows name

-- the columns of those that are named for the type of a row from 0
abbrev pub columns_by : List (List ℕ) → ℕ → List ℕ
columns_by impls n = map (λ row. slice_index row 1) (filter (λ row. slice_index row 0 == suc n) impls)

-- for each of so many types
pub record AreColumns (impls : List (List ℕ)) (count : ℕ) (lists : List (List ℕ)) : Type 0 where
  pub size : length lists ≡ count
  pub each : (n : ℕ) → n < count → slice_index_or lists n [] ≡ columns_by impls n

-- ---- the types of a file

module _ (m : MetadataPart) where
  abbrev pub tokens_of : List ℕ → List TypeToken
  tokens_of columns = map (coded_type m TypeDefOrRef) columns

  abbrev pub type_with : ClassRow → ℕ → List TypeToken → TypeRow
  type_with x extends interfaces =
      record {
        namespace = x.namespace.now;
        name = x.name.now;
        enclosing = x.enclosing;
        extends = file.first_of (superclass_token m extends);
        interfaces = interfaces;
        kind = kind_seen x.kind;
        is_interface = x.is_interface;
        is_abstract = x.is_abstract;
        is_lazy = x.is_lazy;
        first_field = x.first_field;
        field_count = x.field_count;
        first_method = x.first_method;
        method_count = x.method_count;
      }

  abbrev pub type_read : ℕ → ClassRow → TypeRow
  type_read n x = type_with x (column_of m type_defs (suc n) 3) (interfaces_of m n)

  abbrev pub types_read : List ClassRow → List TypeRow
  types_read xs = numbered type_read 0 xs

  -- those that each type names
  abbrev pub interfaces_read : List (List TypeToken)
  interfaces_read = numbered (λ n row. interfaces_of m n) 0 (rows_of m type_defs)

abbrev pub flags_seen : ClassRow → ℕ
flags_seen x = type_flags (kind_seen x.kind) x.is_interface x.is_abstract x.is_lazy

module _ (kept : Masks) where
  -- ---- of one row

  abbrev pub enclosing_kept : Option ℕ → ℕ
  enclosing_kept enclosing = or_none (λ n. n) (option_map (below (kept table.TypeDef)) enclosing)

  abbrev pub superclass_kept : MetadataPart → ℕ → ℕ
  superclass_kept m extends = or_none type_word (option_map (token_to (choice_of_rows kept)) (file.first_of (superclass_token m extends)))

  -- a range of members
  abbrev pub count_kept : Table → ℕ → ℕ → ℕ
  count_kept t first count = below (behind first (kept t)) count

  abbrev pub first_kept : Table → ℕ → ℕ → ℕ
  first_kept t first count = first_of (below (kept t) first) (count_kept t first count)

  -- the numbers of a type, with its column of the class that it extends and the range of its interfaces
  abbrev pub type_numbers : MetadataPart → ClassRow → ℕ → ℕ → ℕ → List ℕ
  type_numbers m x extends first count =
      enclosing_kept x.enclosing ∷ superclass_kept m extends ∷ flags_seen x ∷ first ∷ count
      ∷ first_kept table.Field x.first_field x.field_count ∷ count_kept table.Field x.first_field x.field_count
      ∷ first_kept table.MethodDef x.first_method x.method_count ∷ count_kept table.MethodDef x.first_method x.method_count ∷ []

  -- with the next row of interfaces
  abbrev pub type_made : ℕ → TypeRow → PartRow
  type_made next t = row_cut (type_part next (type_row_to (choice_of_rows kept) t))

  abbrev pub types_at : MetadataPart → List ClassRow → List (List ℕ) → ℕ → ℕ → List PartRow
  types_at m xs lists next n =
      option_map_or (λ x. type_made next (type_with m x (column_of m type_defs (suc n) 3) (tokens_of m (slice_index_or lists n []))) ∷ []) (slice_get xs n) []

  abbrev pub interface_made : MetadataPart → ℕ → PartRow
  interface_made m column = row_cut (interface_part (token_to (choice_of_rows kept) (coded_type m TypeDefOrRef column)))

  -- ---- the two tables

  abbrev pub types_kept : MetadataPart → List ClassRow → List TypeRow
  types_kept m xs = map (type_row_to (choice_of_rows kept)) (select (kept table.TypeDef) (types_read m xs))

  abbrev pub type_rows : MetadataPart → List ClassRow → List PartRow
  type_rows m xs = map row_cut (type_parts 0 (types_kept m xs))

  abbrev pub interfaces_kept : MetadataPart → List TypeToken
  interfaces_kept m = flat_map (map (token_to (choice_of_rows kept))) (select (kept table.TypeDef) (interfaces_read m))

  abbrev pub interface_rows : MetadataPart → List PartRow
  interface_rows m = map row_cut (map interface_part (interfaces_kept m))
