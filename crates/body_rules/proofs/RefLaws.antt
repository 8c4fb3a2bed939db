-- References to fields and to methods, counted apart.
use Rattle.std.proofs.Common.{◌≡◌, ◌⊎◌, inl, inr, ℕ, suc, ◌+◌, ◌<◌, ◌≤◌, Bool, true, false, List, [], length, take, get_or, sym, ap, ◌∙◌, arith}
use Rattle.std.specs.Prelude.{count_by, min}
use Rattle.std.specs.Int.{from_bool}
use Rattle.std.proofs.lemmas.Bool.{cases_lt}
use Rattle.std.proofs.lemmas.List.{take_all, length-take-le}
use Rattle.std.proofs.lemmas.List.Sums.{count_by_more_yes, count_by_more_no}
use Rattle.std.proofs.lemmas.List.FromFn.{length-map-range_with_len, get_or-map-range_with_len}
use Rattle.file_tables.specs.Metadata.{MetadataPart, rows_of, row_count}
use Rattle.row_counts.proofs.CountLaws.{counts_apart}
use Rattle.world_rows.specs.Tokens.{member_refs, is_field_ref, is_method_ref}
use Rattle.body_rules.specs.References.{fields_before, all_before}

module _ (m : MetadataPart) where
  -- more rows than there are count as all
  pub before_past : (of_kind : List ℕ → Bool) (n : ℕ) → row_count m member_refs ≤ n → count_by of_kind (take n (rows_of m member_refs)) ≡ count_by of_kind (take (row_count m member_refs) (rows_of m member_refs))
  before_past of_kind n past =
      let all : row_count m member_refs ≤ row_count m member_refs = omega arith in
      ap (count_by of_kind) (take_all n (rows_of m member_refs) past ∙ sym (take_all (row_count m member_refs) (rows_of m member_refs) all))

  pub counted_at : (n : ℕ) → n ≤ row_count m member_refs → get_or (all_before m) n 0 ≡ fields_before m n
  counted_at n few =
      let within : n < suc (row_count m member_refs) = omega (arith, few) in
      let same : 0 + n ≡ n = omega arith in
      get_or-map-range_with_len (fields_before m) 0 (suc (row_count m member_refs)) n n 0 within same

  pub counts_long : length (all_before m) ≡ suc (row_count m member_refs)
  counts_long = length-map-range_with_len (fields_before m) 0 (suc (row_count m member_refs))

  pub apart : (n : ℕ) → n ≤ row_count m member_refs → fields_before m n + count_by (is_method_ref m) (take n (rows_of m member_refs)) ≡ n
  apart n few = counts_apart (is_field_ref m) (take n (rows_of m member_refs)) ∙ length-take-le n (rows_of m member_refs) few

  pub counted_more : (n : ℕ) (b : Bool) → n < row_count m member_refs → is_field_ref m (get_or (rows_of m member_refs) n []) ≡ b → fields_before m (n + 1) ≡ fields_before m n + from_bool b
  counted_more n true within e = count_by_more_yes (is_field_ref m) (rows_of m member_refs) n [] within e
  counted_more n false within e = let same : fields_before m n ≡ fields_before m n + 0 = omega arith in count_by_more_no (is_field_ref m) (rows_of m member_refs) n [] within e ∙ same

  -- the rows up to a number are those up to the last
  pub up_to_last : (of_kind : List ℕ → Bool) (n last : ℕ) → last ≡ min n (row_count m member_refs) → count_by of_kind (take last (rows_of m member_refs)) ≡ count_by of_kind (take n (rows_of m member_refs))
  up_to_last of_kind n last e = go (cases_lt n (row_count m member_refs))
    where
      go : (n < row_count m member_refs) ⊎ (row_count m member_refs ≤ n) → count_by of_kind (take last (rows_of m member_refs)) ≡ count_by of_kind (take n (rows_of m member_refs))
      go (inl within) = let same : last ≡ n = omega (arith, e, within) in ap (λ k. count_by of_kind (take k (rows_of m member_refs))) same
      go (inr past) = let same : last ≡ row_count m member_refs = omega (arith, e, past) in ap (λ k. count_by of_kind (take k (rows_of m member_refs))) same ∙ sym (before_past of_kind n past)
