-- The rows of tokens by their tables.
use Rattle.std.proofs.Common.{◌≡◌, ◌≢◌, ℕ, zero, suc, ◌-◌, ◌<◌, ◌≤◌, ◌^◌, Bool, true, false, List, [], sym, ap, ◌∙◌, arith}
use Rattle.std.specs.Prelude.{if◌then◌else◌, ◌==◌, count_by, take, slice_index_or}
use Rattle.std.proofs.lemmas.Bool.{eq-eqb, ne_eqb}
use Rattle.file_tables.specs.Metadata.{MetadataPart, rows_of, row_count}
use Rattle.assemblies.specs.Rows.{TypeDef, TypeRef, TypeSpec, MemberToken, Own, Reference}
use Rattle.world_rows.specs.Tokens.{type_refs, type_defs, type_specs, fields, methods, member_refs, from_zero, no_type, no_field, no_method, type_token, field_token, method_token, reference_of, is_field_ref, is_method_ref, table_of, number_of, type_named, field_named, method_named}

-- a token of more than four bytes is of no table
pub big_table : (token t : ℕ) → 2 ^ 32 ≤ token → t < 64 → (255 == t) ≡ (table_of token == t)
big_table token t big small =
    let apart : 255 ≢ t = (λ e. omega (arith, e, small)) in
    let high : 256 ≤ table_of token = omega (arith, big) in
    let other : table_of token ≢ t = (λ e. omega (arith, e, high, small)) in
    ne_eqb 255 t apart ∙ sym (ne_eqb (table_of token) t other)

-- tables that are alike as far as there are tables
abbrev pub AreAlike : ℕ → ℕ → Type 0
AreAlike a b = (t : ℕ) → t < 64 → (a == t) ≡ (b == t)

module _ (m : MetadataPart) (a b r : ℕ) (alike : AreAlike a b) where
  pub type_alike : type_token m a r ≡ type_token m b r
  unfolding type_token
  type_alike =
      ap (λ x. if x then TypeDef (from_zero (row_count m type_defs) r) else if a == type_refs then TypeRef (from_zero (row_count m type_refs) r) else if a == type_specs then TypeSpec (from_zero (row_count m type_specs) r) else no_type m) (alike type_defs (omega arith))
      ∙ ap (λ x. if b == type_defs then TypeDef (from_zero (row_count m type_defs) r) else if x then TypeRef (from_zero (row_count m type_refs) r) else if a == type_specs then TypeSpec (from_zero (row_count m type_specs) r) else no_type m) (alike type_refs (omega arith))
      ∙ ap (λ x. if b == type_defs then TypeDef (from_zero (row_count m type_defs) r) else if b == type_refs then TypeRef (from_zero (row_count m type_refs) r) else if x then TypeSpec (from_zero (row_count m type_specs) r) else no_type m) (alike type_specs (omega arith))

  pub field_alike : field_token m a r ≡ field_token m b r
  unfolding field_token
  field_alike =
      ap (λ x. if x then Own (from_zero (row_count m fields) r) else if a == member_refs then reference_of m (is_field_ref m) (no_field m) r else no_field m) (alike fields (omega arith))
      ∙ ap (λ x. if b == fields then Own (from_zero (row_count m fields) r) else if x then reference_of m (is_field_ref m) (no_field m) r else no_field m) (alike member_refs (omega arith))

  pub method_alike : method_token m a r ≡ method_token m b r
  unfolding method_token
  method_alike =
      ap (λ x. if x then Own (from_zero (row_count m methods) r) else if a == member_refs then reference_of m (is_method_ref m) (no_method m) r else no_method m) (alike methods (omega arith))
      ∙ ap (λ x. if b == methods then Own (from_zero (row_count m methods) r) else if x then reference_of m (is_method_ref m) (no_method m) r else no_method m) (alike member_refs (omega arith))

-- ---- references

module _ (m : MetadataPart) (of_kind : List ℕ → Bool) (none : MemberToken) where
  pub reference_is : (r : ℕ) → 0 < r → of_kind (slice_index_or (rows_of m member_refs) (r - 1) []) ≡ true → reference_of m of_kind none r ≡ Reference (count_by of_kind (take (r - 1) (rows_of m member_refs)))
  reference_is zero some kind = absurd (omega (arith, some))
  reference_is (suc n) some kind =
      let back : suc n - 1 ≡ n = omega arith in
      let here : of_kind (slice_index_or (rows_of m member_refs) n []) ≡ true = ap (λ k. of_kind (slice_index_or (rows_of m member_refs) k [])) (sym back) ∙ kind in
      ap (λ x. if x then Reference (count_by of_kind (take n (rows_of m member_refs))) else none) here
      ∙ ap (λ k. Reference (count_by of_kind (take k (rows_of m member_refs)))) (sym back)

  pub reference_zero : (r : ℕ) → r ≡ 0 → reference_of m of_kind none r ≡ none
  reference_zero r e = ap (reference_of m of_kind none) e

  pub reference_other : (r : ℕ) → 0 < r → of_kind (slice_index_or (rows_of m member_refs) (r - 1) []) ≡ false → reference_of m of_kind none r ≡ none
  reference_other zero some kind = absurd (omega (arith, some))
  reference_other (suc n) some kind =
      let back : suc n - 1 ≡ n = omega arith in
      ap (λ x. if x then Reference (count_by of_kind (take n (rows_of m member_refs))) else none) (ap (λ k. of_kind (slice_index_or (rows_of m member_refs) k [])) (sym back) ∙ kind)

module _ (m : MetadataPart) (t r : ℕ) where
  pub field_own : t ≡ fields → field_token m t r ≡ Own (from_zero (row_count m fields) r)
  unfolding field_token
  field_own e = ap (λ x. if x then Own (from_zero (row_count m fields) r) else if t == member_refs then reference_of m (is_field_ref m) (no_field m) r else no_field m) (eq-eqb t fields e)

  pub field_reference : t ≡ member_refs → field_token m t r ≡ reference_of m (is_field_ref m) (no_field m) r
  unfolding field_token
  field_reference e = ap (λ k. if k == fields then Own (from_zero (row_count m fields) r) else if k == member_refs then reference_of m (is_field_ref m) (no_field m) r else no_field m) e

  pub field_other : t ≢ fields → t ≢ member_refs → field_token m t r ≡ no_field m
  unfolding field_token
  field_other own ref =
      ap (λ x. if x then Own (from_zero (row_count m fields) r) else if t == member_refs then reference_of m (is_field_ref m) (no_field m) r else no_field m) (ne_eqb t fields own)
      ∙ ap (λ x. if x then reference_of m (is_field_ref m) (no_field m) r else no_field m) (ne_eqb t member_refs ref)

  pub method_own : t ≡ methods → method_token m t r ≡ Own (from_zero (row_count m methods) r)
  unfolding method_token
  method_own e = ap (λ x. if x then Own (from_zero (row_count m methods) r) else if t == member_refs then reference_of m (is_method_ref m) (no_method m) r else no_method m) (eq-eqb t methods e)

  pub method_reference : t ≡ member_refs → method_token m t r ≡ reference_of m (is_method_ref m) (no_method m) r
  unfolding method_token
  method_reference e = ap (λ k. if k == methods then Own (from_zero (row_count m methods) r) else if k == member_refs then reference_of m (is_method_ref m) (no_method m) r else no_method m) e

  pub method_other : t ≢ methods → t ≢ member_refs → method_token m t r ≡ no_method m
  unfolding method_token
  method_other own ref =
      ap (λ x. if x then Own (from_zero (row_count m methods) r) else if t == member_refs then reference_of m (is_method_ref m) (no_method m) r else no_method m) (ne_eqb t methods own)
      ∙ ap (λ x. if x then reference_of m (is_method_ref m) (no_method m) r else no_method m) (ne_eqb t member_refs ref)

-- ---- by a token

module _ (m : MetadataPart) (token a r : ℕ) (alike : AreAlike a (table_of token)) (row : r ≡ number_of token) where
  pub type_is : type_token m a r ≡ type_named m token
  type_is = type_alike m a (table_of token) r alike ∙ ap (type_token m (table_of token)) row

  pub field_is : field_token m a r ≡ field_named m token
  field_is = field_alike m a (table_of token) r alike ∙ ap (field_token m (table_of token)) row

  pub method_is : method_token m a r ≡ method_named m token
  method_is = method_alike m a (table_of token) r alike ∙ ap (method_token m (table_of token)) row
