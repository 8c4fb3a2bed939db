-- References as the rows tell them.
use Rattle.std.proofs.Common.{◌≡◌, ℕ, ◌+◌, ◌≤◌, ◌<◌, List, [], map, Option, Some, None, refl, sym, ap, ◌∙◌}
use Rattle.std.specs.Prelude.{slice_get}
use Rattle.std.specs.Option.{option_map}
use Rattle.std.proofs.lemmas.Option.{slice_get-map, slice_get_past, slice_get-get_or}
use Rattle.file_tables.specs.Metadata.{MetadataPart, rows_of, row_of, row_count}
use Rattle.file_tables.specs.File.{FilePart}
use Rattle.machine.specs.Throw.{on_some}
use Rattle.assemblies.specs.Rows.{Assembly}
use Rattle.assemblies.specs.Binding.{first_number, same_assembly, assembly_of}
use Rattle.world_rows.specs.Tokens.{type_refs, assembly_refs}
use Rattle.world_rows.specs.Rows.{alone, type_ref, assembly_ref}
use Rattle.world_rows.specs.World.{rows_alone}
use Rattle.type_names.proofs.RowLoops.{row_is}
use Rattle.type_names.specs.References.{reference_at}

-- of a file with the tables, where they are known
module _ (files : List FilePart) (file : ℕ) (m : MetadataPart) (there : option_map (λ (p : FilePart). p.metadata) (slice_get files file) ≡ Some m) where
  refs_are : (n : ℕ) → reference_at files file n ≡ option_map (type_ref m) (slice_get (rows_of m type_refs) n)
  refs_are n = ap (λ o. on_some o (λ (p : Assembly). slice_get p.refs n)) (slice_get-map alone files file) ∙ go (slice_get files file) there
    where
      go : (o : Option FilePart) → option_map (λ (p : FilePart). p.metadata) o ≡ Some m → on_some (option_map alone o) (λ (p : Assembly). slice_get p.refs n) ≡ option_map (type_ref m) (slice_get (rows_of m type_refs) n)
      go None e = cc e
      go (Some p) e = let same : p.metadata ≡ m = cc e in ap (λ x. slice_get (map (type_ref x) (rows_of x type_refs)) n) same ∙ slice_get-map (type_ref m) (rows_of m type_refs) n

  pub reference_past : (n : ℕ) → row_count m type_refs ≤ n → reference_at files file n ≡ None
  reference_past n past = refs_are n ∙ ap (option_map (type_ref m)) (slice_get_past (rows_of m type_refs) n past)

  pub reference_there : (n : ℕ) → n < row_count m type_refs → reference_at files file n ≡ Some (type_ref m (row_of m type_refs (n + 1)))
  reference_there n within = refs_are n ∙ ap (option_map (type_ref m)) (slice_get-get_or (rows_of m type_refs) n [] within) ∙ ap (λ r. Some (type_ref m r)) (sym (row_is m type_refs n))

  assemblies_are : (n : ℕ) → assembly_of (rows_alone files) file n ≡ on_some (option_map (assembly_ref m) (slice_get (rows_of m assembly_refs) n)) (λ a. first_number (same_assembly a) (rows_alone files))
  assemblies_are n = ap (λ o. on_some o (λ (p : Assembly). on_some (slice_get p.assemblies n) (λ a. first_number (same_assembly a) (rows_alone files)))) (slice_get-map alone files file) ∙ go (slice_get files file) there
    where
      go : (o : Option FilePart) → option_map (λ (p : FilePart). p.metadata) o ≡ Some m → on_some (option_map alone o) (λ (p : Assembly). on_some (slice_get p.assemblies n) (λ a. first_number (same_assembly a) (rows_alone files))) ≡ on_some (option_map (assembly_ref m) (slice_get (rows_of m assembly_refs) n)) (λ a. first_number (same_assembly a) (rows_alone files))
      go None e = cc e
      go (Some p) e =
          let same : p.metadata ≡ m = cc e in
          ap (λ x. on_some (slice_get (map (assembly_ref x) (rows_of x assembly_refs)) n) (λ a. first_number (same_assembly a) (rows_alone files))) same
          ∙ ap (λ o. on_some o (λ a. first_number (same_assembly a) (rows_alone files))) (slice_get-map (assembly_ref m) (rows_of m assembly_refs) n)

  pub assembly_past : (n : ℕ) → row_count m assembly_refs ≤ n → assembly_of (rows_alone files) file n ≡ None
  assembly_past n past = assemblies_are n ∙ ap (λ o. on_some (option_map (assembly_ref m) o) (λ a. first_number (same_assembly a) (rows_alone files))) (slice_get_past (rows_of m assembly_refs) n past)

  pub assembly_there : (n : ℕ) → n < row_count m assembly_refs → assembly_of (rows_alone files) file n ≡ first_number (same_assembly (assembly_ref m (row_of m assembly_refs (n + 1)))) (rows_alone files)
  assembly_there n within =
      assemblies_are n
      ∙ ap (λ o. on_some (option_map (assembly_ref m) o) (λ a. first_number (same_assembly a) (rows_alone files))) (slice_get-get_or (rows_of m assembly_refs) n [] within)
      ∙ ap (λ r. first_number (same_assembly (assembly_ref m r)) (rows_alone files)) (sym (row_is m assembly_refs n))

pub no_file : (files : List FilePart) (file : ℕ) → option_map (λ (p : FilePart). p.metadata) (slice_get files file) ≡ None → (n : ℕ) → (reference_at files file n ≡ None) × (assembly_of (rows_alone files) file n ≡ None)
no_file files file absent n = (ap (λ o. on_some o (λ (p : Assembly). slice_get p.refs n)) gone, ap (λ o. on_some o (λ (p : Assembly). on_some (slice_get p.assemblies n) (λ a. first_number (same_assembly a) (rows_alone files)))) gone)
  where
    none : (o : Option FilePart) → option_map (λ (p : FilePart). p.metadata) o ≡ None → option_map alone o ≡ None
    none None e = refl
    none (Some p) e = cc e

    gone : slice_get (rows_alone files) file ≡ None
    gone = slice_get-map alone files file ∙ none (slice_get files file) absent
