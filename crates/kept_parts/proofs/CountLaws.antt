-- The table of classes has as many rows of a file as the file has.
use Rattle.std.proofs.Common.{◌≡◌, ℕ, suc, ◌+◌, List, [], ◌∷◌, map, length, Some, refl, sym, ap, ◌∙◌}
use Rattle.std.specs.Prelude.{slice_get, unwrap_or}
use Rattle.std.specs.Option.{option_map}
use Rattle.std.proofs.lemmas.List.{length-map}
use Rattle.file_tables.specs.Metadata.{rows_of, row_count}
use Rattle.file_tables.specs.File.{FilePart}
use Rattle.assemblies.specs.Rows.{Assembly}
use Rattle.assemblies.specs.Binding.{numbered, own_field, own_method}
use Rattle.assemblies.proofs.Numbered.{get_numbered}
use Rattle.world_rows.specs.Tokens.{type_defs, fields, methods}
use Rattle.world_rows.specs.World.{size_of, assembly_with, rows_alone, assemblies_of}
use Rattle.class_table.specs.declared.rows.FileRows.{FileRows}
use Rattle.class_table.specs.declared.rows.ClassTable.{ClassTable}
use Rattle.class_table.specs.Seen.{field_seen, method_seen}
use Rattle.class_table.specs.Outlines.{outline_seen, outline_of, outlines_at}
use Rattle.class_table.specs.Whole.{fields_at, methods_at, IsTable}
use Rattle.kept_parts.specs.Made.{AreAsMany}

numbered_length : {A B : Type 0} (make : ℕ → A → B) (n : ℕ) (xs : List A) → length (numbered make n xs) ≡ length xs
numbered_length make n [] = refl
numbered_length make n (x ∷ xs) = ap suc (numbered_length make (suc n) xs)

-- what is seen of two lists is the same
as_many : {A B C : Type 0} (seen : ℕ → A → C) (own : ℕ → B → C) (xs : List A) (ys : List B) → numbered seen 0 xs ≡ numbered own 0 ys → length xs ≡ length ys
as_many seen own xs ys e = sym (numbered_length seen 0 xs) ∙ ap length e ∙ numbered_length own 0 ys

module _ (files : List FilePart) (f : ℕ) (x : FilePart) (at : slice_get files f ≡ Some x) where
  abbrev this : Assembly
  this = assembly_with (size_of (rows_alone files)) files (rows_alone files) (0 + f) x

  this_there : slice_get (assemblies_of files) f ≡ Some this
  unfolding assemblies_of
  this_there = get_numbered (assembly_with (size_of (rows_alone files)) files (rows_alone files)) 0 f files ∙ ap (option_map (assembly_with (size_of (rows_alone files)) files (rows_alone files) (0 + f))) at

  module _ (t : ClassTable) (rows : FileRows) (is : IsTable files t) (there : slice_get t.files.items f ≡ Some rows) where
    class_count : length rows.classes.items ≡ row_count x.metadata type_defs
    class_count =
        let told : outlines_at files f ≡ map (outline_of (size_of (rows_alone files)) (assemblies_of files) f) this.types = ap (λ o. unwrap_or (option_map (λ (a : Assembly). map (outline_of (size_of (rows_alone files)) (assemblies_of files) f) a.types) o) []) this_there in
        sym (length-map rows.classes.items outline_seen)
        ∙ ap length ((is.rows f rows there).classes ∙ told)
        ∙ length-map this.types (outline_of (size_of (rows_alone files)) (assemblies_of files) f)
        ∙ numbered_length _ 0 (rows_of x.metadata type_defs)

    field_count : length rows.fields.items ≡ row_count x.metadata fields
    field_count =
        let told : fields_at files f ≡ this.fields = ap (λ o. unwrap_or (option_map (λ (a : Assembly). a.fields) o) []) this_there in
        as_many (field_seen f) (own_field (size_of (rows_alone files)) (assemblies_of files) f) rows.fields.items (fields_at files f) (is.rows f rows there).fields.fields
        ∙ ap length told
        ∙ numbered_length _ 0 (rows_of x.metadata fields)

    method_count : length rows.methods.items ≡ row_count x.metadata methods
    method_count =
        let told : methods_at files f ≡ this.methods = ap (λ o. unwrap_or (option_map (λ (a : Assembly). a.methods) o) []) this_there in
        as_many (method_seen f) (own_method (size_of (rows_alone files)) (assemblies_of files) f) rows.methods.items (methods_at files f) (is.rows f rows there).methods.methods
        ∙ ap length told
        ∙ numbered_length _ 0 (rows_of x.metadata methods)

    pub are_as_many : AreAsMany x.metadata rows
    are_as_many = record { classes = class_count; fields = field_count; methods = method_count }
