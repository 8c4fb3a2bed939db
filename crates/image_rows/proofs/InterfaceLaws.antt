-- The interfaces that rows name, a row after the other.
use Rattle.std.proofs.Common.{◌≡◌, ◌≢◌, ℕ, zero, suc, ◌+◌, ◌<◌, ◌⊎◌, inl, inr, Bool, true, false, cond, List, [], ◌∷◌, ◌++◌, length, map, take, get_or, set, refl, sym, ap, ◌∙◌, subst, add-one, arith}
use Rattle.std.specs.Prelude.{slice_index, ◌==◌, Result, Ok, Err, OnOk}
use Rattle.std.specs.List.{filter}
use Rattle.std.proofs.lemmas.Bool.{cases_eq, eq-eqb, ne_eqb}
use Rattle.std.proofs.lemmas.List.{map-append, append-nil, length-set, get_or-set_same, get_or-set_other, take_more}
use Rattle.std.proofs.lemmas.List.Elements.{filter-append}
use Rattle.file_tables.specs.Metadata.{MetadataPart, rows_of, row_of, row_count}
use Rattle.world_rows.specs.Tokens.{interface_impls}
use Rattle.image_rows.specs.Types.{columns_by, AreColumns}

-- ---- types without interfaces, and one more

pub none_behind : (lists : List (List ℕ)) → ((n : ℕ) → get_or lists n [] ≡ []) → (n : ℕ) → get_or (lists ++ [] ∷ []) n [] ≡ []
none_behind [] h zero = refl
none_behind [] h (suc n) = refl
none_behind (x ∷ xs) h zero = h 0
none_behind (x ∷ xs) h (suc n) = none_behind xs (λ k. h (suc k)) n

pub none_named : (count : ℕ) (lists : List (List ℕ)) → length lists ≡ count → ((n : ℕ) → get_or lists n [] ≡ []) → AreColumns [] count lists
none_named count lists size empty = record { size = size; each = λ n h. empty n }

-- ---- a row more

module _ (impls : List (List ℕ)) (row : List ℕ) where
  columns_more : (n : ℕ) (b : Bool) → (slice_index row 0 == suc n) ≡ b → columns_by (impls ++ row ∷ []) n ≡ columns_by impls n ++ cond b (slice_index row 1 ∷ []) []
  columns_more n b e =
      ap (map (λ r. slice_index r 1)) (filter-append (λ r. slice_index r 0 == suc n) impls (row ∷ []) ∙ ap (λ t. filter (λ r. slice_index r 0 == suc n) impls ++ cond t (row ∷ []) []) e)
      ∙ map-append (λ r. slice_index r 1) (filter (λ r. slice_index r 0 == suc n) impls) (cond b (row ∷ []) [])
      ∙ ap (λ cs. columns_by impls n ++ cs) (go b)
    where
      go : (t : Bool) → map (λ r. slice_index r 1) (cond t (row ∷ []) []) ≡ cond t (slice_index row 1 ∷ []) []
      go true = refl
      go false = refl

  of_other : (n : ℕ) → slice_index row 0 ≢ suc n → columns_by (impls ++ row ∷ []) n ≡ columns_by impls n
  of_other n other = columns_more n false (ne_eqb (slice_index row 0) (suc n) other) ∙ append-nil (columns_by impls n)

  of_own : (n : ℕ) → slice_index row 0 ≡ suc n → columns_by (impls ++ row ∷ []) n ≡ columns_by impls n ++ slice_index row 1 ∷ []
  of_own n own = columns_more n true (eq-eqb (slice_index row 0) (suc n) own)

  module _ (count : ℕ) (lists : List (List ℕ)) (are : AreColumns impls count lists) where
    pub column_nowhere : slice_index row 0 ≡ 0 → AreColumns (impls ++ row ∷ []) count lists
    column_nowhere e =
        record {
          size = are.size;
          each = λ n h. are.each n h ∙ sym (of_other n (λ q. absurd (omega (arith, q, e))));
        }

    pub column_added : (j : ℕ) → slice_index row 0 ≡ suc j → AreColumns (impls ++ row ∷ []) count (set lists j (get_or lists j [] ++ slice_index row 1 ∷ []))
    column_added j e =
        record {
          size = length-set lists j (get_or lists j [] ++ slice_index row 1 ∷ []) ∙ are.size;
          each = λ n h. go n h (cases_eq n j);
        }
      where
        go : (n : ℕ) → n < count → (n ≡ j) ⊎ (n ≡ j → ⊥) → get_or (set lists j (get_or lists j [] ++ slice_index row 1 ∷ [])) n [] ≡ columns_by (impls ++ row ∷ []) n
        go n h (inl same) =
            let below : j < length lists = omega (arith, h, same, are.size) in
            let there : j < count = omega (arith, h, same) in
            ap (λ k. get_or (set lists j (get_or lists j [] ++ slice_index row 1 ∷ [])) k []) same
            ∙ get_or-set_same lists j (get_or lists j [] ++ slice_index row 1 ∷ []) [] below
            ∙ ap (λ cs. cs ++ slice_index row 1 ∷ []) (are.each j there)
            ∙ sym (of_own j e)
            ∙ ap (columns_by (impls ++ row ∷ [])) (sym same)
        go n h (inr other) =
            get_or-set_other lists j n (get_or lists j [] ++ slice_index row 1 ∷ []) [] other
            ∙ are.each n h
            ∙ sym (of_other n (λ q. other (omega (arith, q, e))))

-- ---- a row that was read

module _ (m : MetadataPart) (n : ℕ) (within : n < row_count m interface_impls) (class interface : ℕ) (of_class : class ≡ slice_index (row_of m interface_impls (n + 1)) 0) (of_interface : interface ≡ slice_index (row_of m interface_impls (n + 1)) 1) (count : ℕ) (lists : List (List ℕ)) (are : AreColumns (take n (rows_of m interface_impls)) count lists) where
  abbrev read : List ℕ
  read = row_of m interface_impls (suc n)

  read_is : row_of m interface_impls (n + 1) ≡ read
  read_is = ap (row_of m interface_impls) (add-one n)

  taken : take (n + 1) (rows_of m interface_impls) ≡ take n (rows_of m interface_impls) ++ read ∷ []
  taken = take_more (rows_of m interface_impls) n [] within

  pub row_nowhere : class ≡ 0 → AreColumns (take (n + 1) (rows_of m interface_impls)) count lists
  row_nowhere e =
      subst (λ impls. AreColumns impls count lists) (sym taken)
      (column_nowhere (take n (rows_of m interface_impls)) read count lists are (sym (of_class ∙ ap (λ r. slice_index r 0) read_is) ∙ e))

  pub row_added : (j : ℕ) (new : List (List ℕ)) → class ≡ suc j → new ≡ set lists j (get_or lists j [] ++ interface ∷ []) → AreColumns (take (n + 1) (rows_of m interface_impls)) count new
  row_added j new e made =
      subst (λ impls. AreColumns impls count new) (sym taken)
      (subst (AreColumns (take n (rows_of m interface_impls) ++ read ∷ []) count) (sym (made ∙ ap (λ i. set lists j (get_or lists j [] ++ i ∷ [])) (of_interface ∙ ap (λ r. slice_index r 1) read_is)))
      (column_added (take n (rows_of m interface_impls)) read count lists are j (sym (of_class ∙ ap (λ r. slice_index r 0) read_is) ∙ e)))

pub on_ok : {A E : Type 0} (r : Result A E) (P Q : Type 0) → (P → Q) → OnOk r P → OnOk r Q
on_ok (Ok x) P Q f p = f p
on_ok (Err e) P Q f p = p
