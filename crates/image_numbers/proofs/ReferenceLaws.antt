-- References to fields and to methods, counted apart, and their numbers by their rows.
use Rattle.std.proofs.Common.{◌≡◌, ℕ, ◌+◌, ◌-◌, ◌<◌, ◌≤◌, Bool, true, false, List, [], ◌∷◌, ◌++◌, map, take, get_or, sym, ap, ◌∙◌, arith}
use Rattle.std.specs.Prelude.{count_by, if◌then◌else◌}
use Rattle.std.specs.Int.{from_bool}
use Rattle.std.specs.List.{range_with_len}
use Rattle.std.proofs.lemmas.List.{length-take-le}
use Rattle.std.proofs.lemmas.List.Sums.{count_by_more_yes, count_by_more_no}
use Rattle.std.proofs.lemmas.List.FromFn.{map-range_with_len_more}
use Rattle.file_tables.specs.Metadata.{MetadataPart, rows_of, row_count}
use Rattle.kept_rows.specs.Select.{below}
use Rattle.world_rows.specs.Tokens.{member_refs, is_field_ref, is_method_ref}
use Rattle.row_counts.proofs.CountLaws.{counts_apart}
use Rattle.row_numbers.specs.declared.table.Table.TheVariants as table
use Rattle.kept_marks.specs.Masks.{Masks}
use Rattle.converted.specs.Cut.{two_bytes}
use Rattle.image_numbers.specs.Numbers.{reference_number}

module _ (m : MetadataPart) where
  abbrev pub fields_before : ℕ → ℕ
  fields_before n = count_by (is_field_ref m) (take n (rows_of m member_refs))

  apart : (n : ℕ) → n ≤ row_count m member_refs → fields_before n + count_by (is_method_ref m) (take n (rows_of m member_refs)) ≡ n
  apart n few = counts_apart (is_field_ref m) (take n (rows_of m member_refs)) ∙ length-take-le n (rows_of m member_refs) few

  pub few_fields : (n k : ℕ) → n ≤ row_count m member_refs → k ≡ fields_before n → k ≤ n
  few_fields n k few is = omega (arith, is, apart n few)

  pub counted_more : (n k : ℕ) (b : Bool) → n < row_count m member_refs → b ≡ is_field_ref m (get_or (rows_of m member_refs) n []) → k ≡ fields_before n → k + from_bool b ≡ fields_before (n + 1)
  counted_more n k true within is counted = ap (λ j. j + 1) counted ∙ sym (count_by_more_yes (is_field_ref m) (rows_of m member_refs) n [] within (sym is))
  counted_more n k false within is counted =
      let same : k + 0 ≡ k = omega arith in
      same ∙ counted ∙ sym (count_by_more_no (is_field_ref m) (rows_of m member_refs) n [] within (sym is))

  pub number_is : (kept : Masks) (n k : ℕ) (b : Bool) → n < row_count m member_refs → b ≡ is_field_ref m (get_or (rows_of m member_refs) n []) → k ≡ fields_before n → two_bytes (16384 + (if b then below (kept table.FieldRef) k else below (kept table.MethodRef) (n - k))) ≡ reference_number two_bytes kept m n
  number_is kept n k b within is counted =
      let few : n ≤ row_count m member_refs = omega (arith, within) in
      let rest : n - k ≡ count_by (is_method_ref m) (take n (rows_of m member_refs)) = omega (arith, counted, apart n few) in
      ap (λ t. two_bytes (16384 + (if t then below (kept table.FieldRef) k else below (kept table.MethodRef) (n - k)))) is
      ∙ ap (λ j. two_bytes (16384 + (if is_field_ref m (get_or (rows_of m member_refs) n []) then below (kept table.FieldRef) j else below (kept table.MethodRef) (n - k)))) counted
      ∙ ap (λ j. two_bytes (16384 + (if is_field_ref m (get_or (rows_of m member_refs) n []) then below (kept table.FieldRef) (fields_before n) else below (kept table.MethodRef) j))) rest

  pub numbers_more : (kept : Masks) (now next : List ℕ) (n r : ℕ) → now ≡ map (reference_number two_bytes kept m) (range_with_len 0 n) → next ≡ now ++ r ∷ [] → r ≡ reference_number two_bytes kept m n → next ≡ map (reference_number two_bytes kept m) (range_with_len 0 (n + 1))
  numbers_more kept now next n r before pushed is =
      let same : 0 + n ≡ n = omega arith in
      pushed
      ∙ ap (λ ns. ns ++ r ∷ []) before
      ∙ ap (λ k. map (reference_number two_bytes kept m) (range_with_len 0 n) ++ k ∷ []) is
      ∙ sym (map-range_with_len_more (reference_number two_bytes kept m) 0 n n same)
