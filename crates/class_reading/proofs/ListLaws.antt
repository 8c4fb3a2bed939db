-- Where the lists of a type end.
use Rattle.std.proofs.Common.{◌≡◌, ℕ, suc, ◌+◌, ◌-◌, ◌<◌, ◌≤◌, [], ap, ◌∙◌, arith}
use Rattle.std.specs.Prelude.{slice_index}
use Rattle.std.specs.Option.{option_map_or}
use Rattle.std.proofs.lemmas.Option.{slice_get_past, slice_get-get_or}
use Rattle.file_tables.specs.Metadata.{MetadataPart, rows_of, row_of, row_count, column_of}
use Rattle.world_rows.specs.Tokens.{type_defs}
use Rattle.world_rows.specs.Rows.{list_first, list_end}

module _ (m : MetadataPart) (table column n : ℕ) where
  pub end_before : n + 1 < row_count m type_defs → list_end m table column n ≡ column_of m type_defs (n + 2) column - 1
  end_before h =
      let within : suc n < row_count m type_defs = omega arith in
      let two : suc (suc n) ≡ n + 2 = omega arith in
      ap (λ o. option_map_or (list_first column) o (row_count m table)) (slice_get-get_or (rows_of m type_defs) (suc n) [] within)
      ∙ ap (λ k. slice_index (row_of m type_defs k) column - 1) two

  pub end_last : row_count m type_defs ≤ n + 1 → list_end m table column n ≡ row_count m table
  end_last h =
      let past : row_count m type_defs ≤ suc n = omega arith in
      ap (λ o. option_map_or (list_first column) o (row_count m table)) (slice_get_past (rows_of m type_defs) (suc n) past)
