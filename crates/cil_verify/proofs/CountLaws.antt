-- The rows of one file more.
use Rattle.std.proofs.Common.{◌≡◌, ℕ, zero, suc, ◌+◌, ◌≤◌, List, [], ◌∷◌, length, Some, refl, ap, ◌∙◌, arith}
use Rattle.std.specs.Prelude.{drop, slice_get, sum_by}
use Rattle.std.specs.Option.{option_map}
use Rattle.std.proofs.lemmas.List.Sums.{sum_by-cons}
use Rattle.file_tables.specs.Metadata.{MetadataPart, row_count}
use Rattle.file_tables.specs.File.{FilePart}

module _ (table : ℕ) where
  abbrev pub rows : FilePart → ℕ
  rows x = row_count x.metadata table

  one_more : (files : List FilePart) (file : ℕ) (m : MetadataPart) → option_map (λ (x : FilePart). x.metadata) (slice_get files file) ≡ Some m → sum_by rows (drop file files) ≡ row_count m table + sum_by rows (drop (suc file) files)
  one_more [] file m e = absurd (cc e)
  one_more (x ∷ xs) zero m e = let same : x.metadata ≡ m = cc e in sum_by-cons rows x xs ∙ ap (λ z. row_count z table + sum_by rows xs) same
  one_more (x ∷ xs) (suc file) m e = one_more xs file m e

  pub one_passed : (files : List FilePart) (file : ℕ) (m : MetadataPart) → option_map (λ (x : FilePart). x.metadata) (slice_get files file) ≡ Some m → sum_by rows (drop file files) ≡ row_count m table + sum_by rows (drop (file + 1) files)
  one_passed files file m e =
      let next : suc file ≡ file + 1 = omega arith in
      one_more files file m e ∙ ap (λ k. row_count m table + sum_by rows (drop k files)) next

  pub no_more : (files : List FilePart) (file : ℕ) → length files ≤ file → sum_by rows (drop file files) ≡ 0
  no_more [] zero low = refl
  no_more [] (suc file) low = refl
  no_more (x ∷ xs) zero low = absurd (omega (arith, low))
  no_more (x ∷ xs) (suc file) low = no_more xs file (omega (arith, low))
