-- Rows of a file that pass a test and that don't, and the lengths of an assembly's tables.
use Rattle.std.proofs.Common.{◌≡◌, ℕ, suc, ◌+◌, ◌-◌, Bool, true, false, not, cond, List, [], ◌∷◌, length, refl, sym, ap, ◌∙◌, arith}
use Rattle.std.specs.Prelude.{count_by, slice_get}
use Rattle.std.specs.List.{filter}
use Rattle.std.proofs.lemmas.List.{length-map}
use Rattle.std.proofs.lemmas.List.Sums.{length-filter}
use Rattle.file_tables.specs.Metadata.{MetadataPart, rows_of, row_count}
use Rattle.file_tables.specs.File.{FilePart}
use Rattle.assemblies.specs.Rows.{Assembly}
use Rattle.assemblies.specs.Binding.{numbered}
use Rattle.assemblies.proofs.Binds.{map_back}
use Rattle.assemblies.proofs.Numbered.{get_numbered}
use Rattle.world_rows.specs.Tokens.{member_refs, assembly_refs, type_refs, type_defs, fields, methods, type_specs, is_field_ref, is_method_ref}
use Rattle.world_rows.specs.World.{size_of, assembly_with, rows_alone, assemblies_of}
use Rattle.row_numbers.specs.declared.table.Table.{Table}
use Rattle.row_numbers.specs.declared.table.Table.TheVariants as table
use Rattle.row_numbers.specs.declared.table.PerTable.{PerTable}
use Rattle.row_numbers.specs.Tables.{table_length, AreCounts}
use Rattle.row_counts.specs.Counts.{table_rows, IsCount, AreCountsOf}

-- those that pass and those that don't are all
filters_apart : {A : Type 0} (test : A → Bool) (xs : List A) → length (filter test xs) + length (filter (λ x. not (test x)) xs) ≡ length xs
filters_apart test [] = refl
filters_apart test (x ∷ xs) = go (test x) (filters_apart test xs)
  where
    go : (b : Bool) → length (filter test xs) + length (filter (λ x. not (test x)) xs) ≡ length xs → length (cond b (x ∷ filter test xs) (filter test xs)) + length (cond (not b) (x ∷ filter (λ x. not (test x)) xs) (filter (λ x. not (test x)) xs)) ≡ suc (length xs)
    go true e = omega (arith, e)
    go false e = omega (arith, e)

pub counts_apart : {A : Type 0} (test : A → Bool) (xs : List A) → count_by test xs + count_by (λ x. not (test x)) xs ≡ length xs
counts_apart test xs =
    let all = filters_apart test xs in
    let yes = length-filter test xs in
    let no = length-filter (λ x. not (test x)) xs in
    omega (arith, all, yes, no)

pub field_refs_few : (m : MetadataPart) → count_by (is_field_ref m) (rows_of m member_refs) + count_by (is_method_ref m) (rows_of m member_refs) ≡ row_count m member_refs
field_refs_few m = counts_apart (is_field_ref m) (rows_of m member_refs)

as_many : {A B : Type 0} (make : ℕ → A → B) (n : ℕ) (xs : List A) → length (numbered make n xs) ≡ length xs
as_many make n [] = refl
as_many make n (x ∷ xs) = ap suc (as_many make (suc n) xs)

module _ (files : List FilePart) where
  abbrev row : ℕ → FilePart → Assembly
  row n x = assembly_with (size_of (rows_alone files)) files (rows_alone files) n x

  -- the tables of an assembly are as long as those of its file
  lengths : (n : ℕ) (x : FilePart) (t : Table) → table_length (row n x) t ≡ table_rows x.metadata t
  lengths n x table.AssemblyRef = length-map (rows_of x.metadata assembly_refs) _
  lengths n x table.TypeRef = length-map (rows_of x.metadata type_refs) _
  lengths n x table.FieldRef = length-map (filter (is_field_ref x.metadata) (rows_of x.metadata member_refs)) _ ∙ length-filter (is_field_ref x.metadata) (rows_of x.metadata member_refs)
  lengths n x table.MethodRef = length-map (filter (is_method_ref x.metadata) (rows_of x.metadata member_refs)) _ ∙ length-filter (is_method_ref x.metadata) (rows_of x.metadata member_refs)
  lengths n x table.TypeDef = as_many _ 0 (rows_of x.metadata type_defs)
  lengths n x table.Field = as_many _ 0 (rows_of x.metadata fields)
  lengths n x table.MethodDef = as_many _ 0 (rows_of x.metadata methods)
  lengths n x table.TypeSpec = length-map (rows_of x.metadata type_specs) _

  pub world_counts : (counts : List PerTable) → AreCountsOf files counts → AreCounts (assemblies_of files) counts
  unfolding assemblies_of
  world_counts counts are = record {
    files = are.count ∙ sym (as_many row 0 files);
    each = λ f p c t at e.
        let w = map_back (row (0 + f)) (slice_get files f) p (sym (get_numbered row 0 f files) ∙ at) in
        are.each f w.0 c w.1 e t ∙ sym (lengths (0 + f) w.0 t) ∙ ap (λ (q : Assembly). table_length q t) w.2;
  }

pub is_count : (m : MetadataPart) (c : PerTable) → c.assembly_refs ≡ row_count m assembly_refs → c.type_refs ≡ row_count m type_refs → c.field_refs ≡ count_by (is_field_ref m) (rows_of m member_refs) → c.method_refs ≡ row_count m member_refs - count_by (is_field_ref m) (rows_of m member_refs) → c.types ≡ row_count m type_defs → c.fields ≡ row_count m fields → c.methods ≡ row_count m methods → c.specs ≡ row_count m type_specs → IsCount m c
is_count m c a r g h t d e s table.AssemblyRef = a
is_count m c a r g h t d e s table.TypeRef = r
is_count m c a r g h t d e s table.FieldRef = g
is_count m c a r g h t d e s table.MethodRef = let few = field_refs_few m in omega (arith, h, few)
is_count m c a r g h t d e s table.TypeDef = t
is_count m c a r g h t d e s table.Field = d
is_count m c a r g h t d e s table.MethodDef = e
is_count m c a r g h t d e s table.TypeSpec = s
