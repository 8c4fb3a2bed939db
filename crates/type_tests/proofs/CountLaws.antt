-- A table has as many classes as the files have types.
use Rattle.std.proofs.Common.{◌≡◌, ◌∙◌, ℕ, zero, suc, ◌+◌, List, [], ◌∷◌, length, take, Option, Some, None, refl, sym, ap, arith}
use Rattle.std.specs.Prelude.{slice_get, unwrap_or}
use Rattle.std.specs.Option.{option_map}
use Rattle.std.proofs.lemmas.List.{take_all, length-map}
use Rattle.std.proofs.lemmas.Option.{slice_get-map, slice_get_within}
use Rattle.file_tables.specs.Metadata.{rows_of}
use Rattle.file_tables.specs.File.{FilePart}
use Rattle.classes.specs.Classes.{Reference}
use Rattle.assemblies.specs.Rows.{Assembly}
use Rattle.world_rows.specs.Tokens.{type_defs}
use Rattle.world_rows.specs.Rows.{alone, type_row}
use Rattle.world_rows.specs.World.{rows_alone, type_count}
use Rattle.type_names.proofs.IndexLaws.{none_past}
use Rattle.class_table.specs.declared.rows.FileRows.{FileRows}
use Rattle.class_table.specs.declared.rows.ClassTable.{ClassTable}
use Rattle.class_table.specs.Outlines.{outline_seen}
use Rattle.class_table.specs.Whole.{IsTable}
use Rattle.class_queries.specs.Numbers.{count_at, start_at, total_of}
use Rattle.class_reading.specs.Types.{row_outline}
use Rattle.class_reading.proofs.FileLaws.{as_many}
use Rattle.class_reading.proofs.TypeLaws.{outlines_are}
use Rattle.member_reading.proofs.DataLaws.{numbered_length}

-- how many types the assembly of a number has
types_at : List Assembly → ℕ → ℕ
types_at ps k = unwrap_or (option_map (λ (p : Assembly). length p.types) (slice_get ps k)) 0

count_more : (ps : List Assembly) (k : ℕ) → type_count (take (suc k) ps) ≡ type_count (take k ps) + types_at ps k
unfolding types_at
count_more [] zero = refl
count_more [] (suc k) = refl
count_more (p ∷ ps) zero = omega arith
count_more (p ∷ ps) (suc k) = let rest = count_more ps k in omega (arith, rest)

module _ (files : List FilePart) (t : ClassTable) (table : IsTable files t) where
  alone_at : (k : ℕ) → slice_get (rows_alone files) k ≡ option_map alone (slice_get files k)
  alone_at k = slice_get-map alone files k

  same_count : (k : ℕ) → count_at t k ≡ types_at (rows_alone files) k
  unfolding types_at
  same_count k = go (slice_get t.files.items k) refl (slice_get files k) refl
    where
      count : length t.files.items ≡ length files
      count = table.count

      go : (a : Option FileRows) → slice_get t.files.items k ≡ a → (b : Option FilePart) → slice_get files k ≡ b → count_at t k ≡ unwrap_or (option_map (λ (p : Assembly). length p.types) (slice_get (rows_alone files) k)) 0
      go None e None g =
          ap (λ o. unwrap_or (option_map (λ (f : FileRows). length f.classes.items) o) 0) e
          ∙ sym (ap (λ o. unwrap_or (option_map (λ (p : Assembly). length p.types) o) 0) (alone_at k ∙ ap (option_map alone) g))
      go (Some f) e (Some x) g =
          let there : option_map (λ (p : FilePart). p.metadata) (slice_get files k) ≡ Some x.metadata = ap (option_map (λ (p : FilePart). p.metadata)) g in
          ap (λ o. unwrap_or (option_map (λ (f : FileRows). length f.classes.items) o) 0) e
          ∙ as_many outline_seen (row_outline files k x.metadata) 0 f.classes.items (rows_of x.metadata type_defs) ((table.rows k f e).classes ∙ outlines_are files k x.metadata there)
          ∙ sym (numbered_length (type_row x.metadata (λ n. Reference)) 0 (rows_of x.metadata type_defs))
          ∙ sym (ap (λ o. unwrap_or (option_map (λ (p : Assembly). length p.types) o) 0) (alone_at k ∙ ap (option_map alone) g))
      go (Some f) e None g = let within = slice_get_within t.files.items k f e in let few = none_past files k g in absurd (omega arith)
      go None e (Some x) g = let within = slice_get_within files k x g in let few = none_past t.files.items k e in absurd (omega arith)

  starts_are : (k : ℕ) → start_at t k ≡ type_count (take k (rows_alone files))
  starts_are zero = refl
  starts_are (suc k) = ap (λ n. n + count_at t k) (starts_are k) ∙ ap (λ n. type_count (take k (rows_alone files)) + n) (same_count k) ∙ sym (count_more (rows_alone files) k)

  pub total_is : total_of t ≡ type_count (rows_alone files)
  total_is =
      starts_are (length t.files.items)
      ∙ ap (λ n. type_count (take n (rows_alone files))) (table.count ∙ sym (length-map files alone))
      ∙ ap type_count (take_all (length (rows_alone files)) (rows_alone files) (omega arith))
