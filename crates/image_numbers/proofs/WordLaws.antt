-- The words that the image has for the rows which tokens name are the numbers that the tokens get, of any size.
use Rattle.std.proofs.Common.{◌≡◌, ⊎_elim, ℕ, zero, suc, ◌+◌, ◌<◌, Bool, true, false, not, List, [], length, map, take, Some, refl, ap, ◌∙◌, subst, arith}
use Rattle.std.specs.Prelude.{◌==◌, if◌then◌else◌, count_by, slice_get, slice_index_or, unwrap_or}
use Rattle.std.specs.List.{range_with_len}
use Rattle.std.proofs.lemmas.Bool.{cases_lt, eqb-true}
use Rattle.std.proofs.lemmas.List.{take_all}
use Rattle.std.proofs.lemmas.List.FromFn.{length-map-range_with_len, get_or-map-range_with_len}
use Rattle.std.proofs.lemmas.Option.{slice_get-get_or}
use Rattle.file_tables.specs.Metadata.{MetadataPart, rows_of, row_count}
use Rattle.kept_rows.specs.Select.{below}
use Rattle.kept_closure.specs.Kept.{HasType, HasMethod, HasField}
use Rattle.assemblies.specs.Rows.{TypeToken, TypeDef, TypeRef, TypeSpec, MemberToken, Own, Reference, Assembly}
use Rattle.assemblies.specs.Chosen.{Choice, token_to, method_token_to, field_token_to}
use Rattle.image_form.specs.Signatures.{type_word, member_word}
use Rattle.image_pools.specs.Pools.{Entry}
use Rattle.world_rows.specs.Tokens.{type_defs, fields, methods, member_refs, literals, from_zero, is_field_ref, is_method_ref, type_token, no_type, reference_of, method_token, no_method, field_token, no_field}
use Rattle.row_numbers.specs.declared.table.Table.{Table}
use Rattle.row_numbers.specs.declared.table.Table.TheVariants as table
use Rattle.row_numbers.specs.Tables.{table_length}
use Rattle.row_counts.specs.Counts.{table_rows}
use Rattle.kept_marks.specs.Kept.{is_kept}
use Rattle.kept_marks.specs.Masks.{Masks, choice_of_rows, choice_with}
use Rattle.image_numbers.specs.Numbers.{uncut, reference_number, reference_at, field_number, method_number, type_number, literal_number, number_in}
use Rattle.image_numbers.proofs.KeptLaws.{kept_there}

-- the number of a row of MemberRef is in the list of them
numbers_at : (f : ℕ → ℕ) (count n : ℕ) → n < count → unwrap_or (slice_get (map f (range_with_len 0 count)) n) 0 ≡ f n
numbers_at f count n within =
    let long : n < length (map f (range_with_len 0 count)) = omega (arith, within, length-map-range_with_len f 0 count) in
    let sum : 0 + n ≡ n = omega arith in
    ap (λ o. unwrap_or o 0) (slice_get-get_or (map f (range_with_len 0 count)) n 0 long) ∙ get_or-map-range_with_len f 0 count n n 0 within sum

-- a row that only rows behind the last one could be like
within_table : {A : Type 0} (test : A → Bool) (xs : List A) (n : ℕ) → count_by test (take n xs) < count_by test xs → n < length xs
within_table test xs n few =
    ⊎_elim (λ lt. lt)
    (λ le. let all = ap (count_by test) (take_all n xs le) in absurd (omega (arith, few, all)))
    (cases_lt n (length xs))

module _ (ps : List Assembly) (marks : List Bool) (f : ℕ) (p : Assembly) (at : slice_get ps f ≡ Some p) (m : MetadataPart) (long : (t : Table) → table_length p t ≡ table_rows m t) (to_image back : ℕ → ℕ → ℕ) (strings : List Entry) where
  abbrev kept : Masks
  kept t = is_kept ps marks t f

  abbrev k : Choice
  k = choice_with (λ t. is_kept ps marks t f) to_image back

  there : (t : Table) (n : ℕ) → is_kept ps marks t f n ≡ true → n < table_rows m t
  there t n e = let lt = kept_there ps marks t f p at n e in let same = long t in omega (arith, lt, same)

  abbrev number : ℕ → ℕ → ℕ
  number t row = number_in uncut (λ t. is_kept ps marks t f) m strings t row

  abbrev by_table : Bool → Bool → Bool → Bool → ℕ → ℕ → ℕ
  by_table a b c d t row =
      if a then literal_number uncut (λ t. is_kept ps marks t f) m strings row
      else if b then reference_at uncut (λ t. is_kept ps marks t f) m row
      else if c then field_number uncut (λ t. is_kept ps marks t f) m row
      else if d then method_number uncut (λ t. is_kept ps marks t f) m row
      else type_number uncut (λ t. is_kept ps marks t f) m t row

  -- ---- types

  same_token : (s : TypeToken) → token_to (choice_of_rows (λ t. is_kept ps marks t f)) s ≡ token_to k s
  same_token (TypeDef n) = refl
  same_token (TypeRef n) = refl
  same_token (TypeSpec n) = refl

  no_such_type : (s : TypeToken) → s ≡ no_type m → HasType k s → ⊥
  no_such_type s e has =
      let kept_none : HasType k (no_type m) = subst (HasType k) e has in
      let lt = there table.TypeDef (row_count m type_defs) kept_none in
      omega (arith, lt)

  untyped : (t row : ℕ) → ◌≡◌ {A = TypeToken} (type_token m t row) (no_type m) → HasType k (type_token m t row) → ⊥
  untyped t row e has = no_such_type (type_token m t row) e has

  of_literals : (row : ℕ) → type_token m literals row ≡ no_type m
  unfolding type_token
  of_literals row = refl

  of_member_refs : (row : ℕ) → type_token m member_refs row ≡ no_type m
  unfolding type_token
  of_member_refs row = refl

  of_fields : (row : ℕ) → type_token m fields row ≡ no_type m
  unfolding type_token
  of_fields row = refl

  of_methods : (row : ℕ) → type_token m methods row ≡ no_type m
  unfolding type_token
  of_methods row = refl

  -- a token of another table names no type
  not_of : (t other row : ℕ) → type_token m other row ≡ no_type m → (t == other) ≡ true → HasType k (type_token m t row) → ⊥
  not_of t other row none e has = untyped t row (ap (λ t. type_token m t row) (eqb-true t other e) ∙ none) has

  pub type_law : (t row : ℕ) → HasType k (type_token m t row) → number t row ≡ type_word (token_to k (type_token m t row))
  type_law t row has = by (t == literals) refl (t == member_refs) refl (t == fields) refl (t == methods) refl
    where
      by : (a : Bool) → (t == literals) ≡ a → (b : Bool) → (t == member_refs) ≡ b → (c : Bool) → (t == fields) ≡ c → (d : Bool) → (t == methods) ≡ d → by_table a b c d t row ≡ type_word (token_to k (type_token m t row))
      by true e b x c y d z = absurd (not_of t literals row (of_literals row) e has)
      by false e true x c y d z = absurd (not_of t member_refs row (of_member_refs row) x has)
      by false e false x true y d z = absurd (not_of t fields row (of_fields row) y has)
      by false e false x false y true z = absurd (not_of t methods row (of_methods row) z has)
      by false e false x false y false z = ap type_word (same_token (type_token m t row))

  -- ---- rows of MemberRef

  module _ (of_kind : List ℕ → Bool) (none : MemberToken) (Has : MemberToken → Type 0) (word : MemberToken → ℕ) (apart : Has none → ⊥) (few : (c : ℕ) → Has (Reference c) → c < count_by of_kind (rows_of m member_refs)) (numbered : (n : ℕ) → of_kind (slice_index_or (rows_of m member_refs) n []) ≡ true → reference_number uncut (λ t. is_kept ps marks t f) m n ≡ word (Reference (count_by of_kind (take n (rows_of m member_refs))))) where
    reference_law : (row : ℕ) → Has (reference_of m of_kind none row) → reference_at uncut (λ t. is_kept ps marks t f) m row ≡ word (reference_of m of_kind none row)
    reference_law zero has = absurd (apart has)
    reference_law (suc n) has = by (of_kind (slice_index_or (rows_of m member_refs) n [])) refl has
      where
        by : (b : Bool) → of_kind (slice_index_or (rows_of m member_refs) n []) ≡ b → Has (if b then Reference (count_by of_kind (take n (rows_of m member_refs))) else none) → reference_at uncut (λ t. is_kept ps marks t f) m (suc n) ≡ word (if b then Reference (count_by of_kind (take n (rows_of m member_refs))) else none)
        by false e h = absurd (apart h)
        by true e h =
            let lt = within_table of_kind (rows_of m member_refs) n (few (count_by of_kind (take n (rows_of m member_refs))) h) in
            numbers_at (reference_number uncut (λ t. is_kept ps marks t f) m) (row_count m member_refs) n lt ∙ numbered n e

  -- ---- fields

  no_such_field : HasField k (no_field m) → ⊥
  no_such_field has = let lt = there table.Field (row_count m fields) has in omega (arith, lt)

  field_numbered : (n : ℕ) → is_field_ref m (slice_index_or (rows_of m member_refs) n []) ≡ true → reference_number uncut (λ t. is_kept ps marks t f) m n ≡ member_word (field_token_to k (Reference (count_by (is_field_ref m) (take n (rows_of m member_refs)))))
  field_numbered n e =
      ap (λ b. 16384 + (if b then below (is_kept ps marks table.FieldRef f) (count_by (is_field_ref m) (take n (rows_of m member_refs))) else below (is_kept ps marks table.MethodRef f) (count_by (is_method_ref m) (take n (rows_of m member_refs))))) e

  pub field_law : (t row : ℕ) → HasField k (field_token m t row) → number t row ≡ member_word (field_token_to k (field_token m t row))
  unfolding field_token
  field_law t row = by (t == fields) refl (t == member_refs) refl
    where
      own : t ≡ fields → number t row ≡ below (is_kept ps marks table.Field f) (from_zero (row_count m fields) row)
      own e = ap (λ t. number t row) e

      other : t ≡ member_refs → number t row ≡ reference_at uncut (λ t. is_kept ps marks t f) m row
      other e = ap (λ t. number t row) e

      by : (a : Bool) → (t == fields) ≡ a → (b : Bool) → (t == member_refs) ≡ b → HasField k (if a then Own (from_zero (row_count m fields) row) else if b then reference_of m (is_field_ref m) (no_field m) row else no_field m) → number t row ≡ member_word (field_token_to k (if a then Own (from_zero (row_count m fields) row) else if b then reference_of m (is_field_ref m) (no_field m) row else no_field m))
      by true e b x has = own (eqb-true t fields e)
      by false e true x has =
          other (eqb-true t member_refs x)
          ∙ reference_law (is_field_ref m) (no_field m) (HasField k) (λ s. member_word (field_token_to k s)) no_such_field (λ c h. there table.FieldRef c h) field_numbered row has
      by false e false x has = absurd (no_such_field has)

  -- ---- methods

  no_such_method : HasMethod k (no_method m) → ⊥
  no_such_method has = let lt = there table.MethodDef (row_count m methods) has in omega (arith, lt)

  no_field_there : (b : Bool) → not b ≡ true → b ≡ false
  no_field_there true e = absurd (cc e)
  no_field_there false e = refl

  method_numbered : (n : ℕ) → is_method_ref m (slice_index_or (rows_of m member_refs) n []) ≡ true → reference_number uncut (λ t. is_kept ps marks t f) m n ≡ member_word (method_token_to k (Reference (count_by (is_method_ref m) (take n (rows_of m member_refs)))))
  method_numbered n e =
      ap (λ b. 16384 + (if b then below (is_kept ps marks table.FieldRef f) (count_by (is_field_ref m) (take n (rows_of m member_refs))) else below (is_kept ps marks table.MethodRef f) (count_by (is_method_ref m) (take n (rows_of m member_refs))))) (no_field_there (is_field_ref m (slice_index_or (rows_of m member_refs) n [])) e)

  pub method_law : (t row : ℕ) → HasMethod k (method_token m t row) → number t row ≡ member_word (method_token_to k (method_token m t row))
  unfolding method_token
  method_law t row = by (t == methods) refl (t == member_refs) refl
    where
      own : t ≡ methods → number t row ≡ below (is_kept ps marks table.MethodDef f) (from_zero (row_count m methods) row)
      own e = ap (λ t. number t row) e

      other : t ≡ member_refs → number t row ≡ reference_at uncut (λ t. is_kept ps marks t f) m row
      other e = ap (λ t. number t row) e

      by : (a : Bool) → (t == methods) ≡ a → (b : Bool) → (t == member_refs) ≡ b → HasMethod k (if a then Own (from_zero (row_count m methods) row) else if b then reference_of m (is_method_ref m) (no_method m) row else no_method m) → number t row ≡ member_word (method_token_to k (if a then Own (from_zero (row_count m methods) row) else if b then reference_of m (is_method_ref m) (no_method m) row else no_method m))
      by true e b x has = own (eqb-true t methods e)
      by false e true x has =
          other (eqb-true t member_refs x)
          ∙ reference_law (is_method_ref m) (no_method m) (HasMethod k) (λ s. member_word (method_token_to k s)) no_such_method (λ c h. there table.MethodRef c h) method_numbered row has
      by false e false x has = absurd (no_such_method has)
