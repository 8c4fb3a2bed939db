-- The first broken rule of lists made from functions.
use Rattle.std.proofs.Common.{◌≡◌, ℕ, zero, suc, ◌+◌, ◌<◌, Bool, true, false, cond, ◌&&◌, List, [], ◌∷◌, ◌++◌, map, length, get_or, Some, None, refl, ap, sym, ◌∙◌, subst, arith}
use Rattle.std.specs.Prelude.{slice_index, nat_lt}
use Rattle.std.specs.List.{range_with_len, flat_map, list_all, enumerate_from}
use Rattle.plain_types.specs.declared.fault.Fault.{Fault}
use Rattle.file_tables.specs.declared.schema.TheConstants.{LOOKED_AT}
use Rattle.file_tables.specs.Rules.{Rule, rule_at, rule_of_row, first_broken}
use Rattle.std.proofs.lemmas.Bool.{ltb-true}
use Rattle.file_tables.specs.Schema.{columns_of}
use Rattle.file_tables.specs.Metadata as metadata
use Rattle.cil_tables.proofs.SchemaLaws.{columns_few, and_both}

pub append_none : (xs ys : List Rule) → first_broken xs ≡ None → first_broken (xs ++ ys) ≡ first_broken ys
append_none [] ys h = refl
append_none (x ∷ xs) ys h =
    elim x.is_kept as (λ b. cond b (first_broken xs) (Some x.fault) ≡ None → cond b (first_broken (xs ++ ys)) (Some x.fault) ≡ first_broken ys) [
      | true ↦ λ e. append_none xs ys e
      | false ↦ λ e. absurd cc
    ] h

pub append_some : (xs ys : List Rule) (f : Fault) → first_broken xs ≡ Some f → first_broken (xs ++ ys) ≡ Some f
append_some [] ys f h = absurd cc
append_some (x ∷ xs) ys f h =
    elim x.is_kept as (λ b. cond b (first_broken xs) (Some x.fault) ≡ Some f → cond b (first_broken (xs ++ ys)) (Some x.fault) ≡ Some f) [
      | true ↦ λ e. append_some xs ys f e
      | false ↦ λ e. e
    ] h

-- rules made from the numbers from a on
pub each_kept : (f : ℕ → Rule) (a n : ℕ) → ((k : ℕ) → k < n → (f (a + k)).is_kept ≡ true) → first_broken (map f (range_with_len a n)) ≡ None
each_kept f a zero h = refl
each_kept f a (suc n) h =
    let here : (f a).is_kept ≡ true = subst (λ m. (f m).is_kept ≡ true) (omega arith) (h 0 (omega arith)) in
    rw here (each_kept f (a + 1) n (λ k below. subst (λ m. (f m).is_kept ≡ true) (omega arith) (h (suc k) (omega arith))))

pub one_broken : (f : ℕ → Rule) (a n i : ℕ) → i < n → ((k : ℕ) → k < i → (f (a + k)).is_kept ≡ true) → (f (a + i)).is_kept ≡ false → first_broken (map f (range_with_len a n)) ≡ Some (f (a + i)).fault
one_broken f a zero i below h bad = absurd (omega arith)
one_broken f a (suc n) zero below h bad =
    let same : a + 0 ≡ a = omega arith in
    let here : (f a).is_kept ≡ false = subst (λ m. (f m).is_kept ≡ false) same bad in
    rw (here, same) refl
one_broken f a (suc n) (suc i) below h bad =
    let same : a + 1 + i ≡ a + suc i = omega arith in
    let here : (f a).is_kept ≡ true = subst (λ m. (f m).is_kept ≡ true) (omega arith) (h 0 (omega arith)) in
    rw here
    (subst (λ m. first_broken (map f (range_with_len (a + 1) n)) ≡ Some (f m).fault) same
    (one_broken f (a + 1) n i (omega arith) (λ k lower. subst (λ m. (f m).is_kept ≡ true) (omega arith) (h (suc k) (omega arith))) (subst (λ m. (f m).is_kept ≡ false) (sym same) bad)))

-- rules of several lists, one behind the other
pub lists_kept : (f : ℕ → List Rule) (xs : List ℕ) → ((k : ℕ) → k < length xs → first_broken (f (get_or xs k 0)) ≡ None) → first_broken (flat_map f xs) ≡ None
lists_kept f [] h = refl
lists_kept f (x ∷ xs) h = append_none (f x) (flat_map f xs) (h 0 (omega arith)) ∙ lists_kept f xs (λ k below. h (suc k) (omega arith))

pub list_broken : (f : ℕ → List Rule) (xs : List ℕ) (i : ℕ) (e : Fault) → i < length xs → ((k : ℕ) → k < i → first_broken (f (get_or xs k 0)) ≡ None) → first_broken (f (get_or xs i 0)) ≡ Some e → first_broken (flat_map f xs) ≡ Some e
list_broken f [] i e below h bad = absurd (omega arith)
list_broken f (x ∷ xs) zero e below h bad = append_some (f x) (flat_map f xs) e bad
list_broken f (x ∷ xs) (suc i) e below h bad =
    append_none (f x) (flat_map f xs) (h 0 (omega arith)) ∙ list_broken f xs i e (omega arith) (λ k lower. h (suc k) (omega arith)) bad

-- rules 12 and 13
pub broken_rows : (m : metadata.MetadataPart) (e : Fault) → first_broken (flat_map (metadata.rules_of_rows m) LOOKED_AT) ≡ Some e → first_broken (metadata.rules_of_tables m) ≡ Some e
unfolding metadata.rules_of_tables
broken_rows m e h = append_some (flat_map (metadata.rules_of_rows m) LOOKED_AT) (rule_at 13 0 (metadata.has_one_assembly m) ∷ []) e h

pub broken_count : (m : metadata.MetadataPart) → first_broken (flat_map (metadata.rules_of_rows m) LOOKED_AT) ≡ None → metadata.has_one_assembly m ≡ false → first_broken (metadata.rules_of_tables m) ≡ Some (rule_at 13 0 false).fault
unfolding metadata.rules_of_tables
broken_count m h bad = append_none (flat_map (metadata.rules_of_rows m) LOOKED_AT) (rule_at 13 0 (metadata.has_one_assembly m) ∷ []) h ∙ rw bad refl

pub all_kept : (m : metadata.MetadataPart) → first_broken (flat_map (metadata.rules_of_rows m) LOOKED_AT) ≡ None → metadata.has_one_assembly m ≡ true → first_broken (metadata.rules_of_tables m) ≡ None
unfolding metadata.rules_of_tables
all_kept m h one = append_none (flat_map (metadata.rules_of_rows m) LOOKED_AT) (rule_at 13 0 (metadata.has_one_assembly m) ∷ []) h ∙ rw one refl

-- a test of each element with its index
pub all_pass : {X : Type 0} (p : ℕ × X → Bool) (a : ℕ) (xs : List X) (d : X) → ((k : ℕ) → k < length xs → p (a + k, get_or xs k d) ≡ true) → list_all p (enumerate_from a xs) ≡ true
all_pass p a [] d h = refl
all_pass p a (x ∷ xs) d h =
    let here : p (a, x) ≡ true = subst (λ m. p (m, x) ≡ true) (omega arith) (h 0 (omega arith)) in
    rw here (all_pass p (a + 1) xs d (λ k below. subst (λ m. p (m, get_or xs k d) ≡ true) (omega arith) (h (suc k) (omega arith))))

pub one_fails : {X : Type 0} (p : ℕ × X → Bool) (a : ℕ) (xs : List X) (d : X) (i : ℕ) → i < length xs → p (a + i, get_or xs i d) ≡ false → list_all p (enumerate_from a xs) ≡ false
one_fails p a [] d i below h = absurd (omega arith)
one_fails p a (x ∷ xs) d zero below h =
    let here : p (a, x) ≡ false = subst (λ m. p (m, x) ≡ false) (omega arith) h in
    rw here refl
one_fails p a (x ∷ xs) d (suc i) below h =
    let rest : list_all p (enumerate_from (a + 1) xs) ≡ false = one_fails p (a + 1) xs d i (omega arith) (subst (λ m. p (m, get_or xs i d) ≡ false) (omega arith) h) in
    rw rest (elim (p (a, x)) as (λ b. (b && false) ≡ false) [ true ↦ refl | false ↦ refl ])

-- the same from index 0
pub all_pass_from_0 : {X : Type 0} (p : ℕ × X → Bool) (xs : List X) (d : X) → ((k : ℕ) → k < length xs → p (k, get_or xs k d) ≡ true) → list_all p (enumerate_from 0 xs) ≡ true
all_pass_from_0 p xs d h = all_pass p 0 xs d (λ k below. subst (λ m. p (m, get_or xs k d) ≡ true) (omega arith) (h k below))

pub one_fails_from_0 : {X : Type 0} (p : ℕ × X → Bool) (xs : List X) (d : X) (i : ℕ) → i < length xs → p (i, get_or xs i d) ≡ false → list_all p (enumerate_from 0 xs) ≡ false
one_fails_from_0 p xs d i below h = one_fails p 0 xs d i below (subst (λ m. p (m, get_or xs i d) ≡ false) (omega arith) h)

-- two tests that agree at each index
same_tests : {X : Type 0} (p q : ℕ × X → Bool) (a : ℕ) (xs : List X) → ((k : ℕ) (x : X) → k < length xs → p (a + k, x) ≡ q (a + k, x)) → list_all p (enumerate_from a xs) ≡ list_all q (enumerate_from a xs)
same_tests p q a [] h = refl
same_tests p q a (x ∷ xs) h =
    let here : p (a, x) ≡ q (a, x) = subst (λ m. p (m, x) ≡ q (m, x)) (omega arith) (h 0 x (omega arith)) in
    let rest : list_all p (enumerate_from (a + 1) xs) ≡ list_all q (enumerate_from (a + 1) xs) =
    same_tests p q (a + 1) xs (λ k y below. subst (λ m. p (m, y) ≡ q (m, y)) (omega arith) (h (suc k) y (omega arith))) in
    rw (here, rest) refl

-- rule 12 for a row whose numbers, and those of the row before, were read
pub row_test : (m : metadata.MetadataPart) (table k : ℕ) (before row : List ℕ) → ((j : ℕ) → j < 9 → slice_index before j ≡ metadata.column_of m table k j) → ((j : ℕ) → j < 9 → slice_index row j ≡ metadata.column_of m table (k + 1) j) → list_all (λ c. metadata.is_column m c.1 (slice_index before c.0) (slice_index row c.0)) (enumerate_from 0 (columns_of table)) ≡ metadata.is_row m table (1 + k)
unfolding metadata.is_row
row_test m table k before row b r =
    let number : 1 + k ≡ suc k = omega arith in
    let next : k + 1 ≡ suc k = omega arith in
    rw number
    (same_tests (λ c. metadata.is_column m c.1 (slice_index before c.0) (slice_index row c.0)) (λ c. metadata.is_column m c.1 (metadata.column_of m table k c.0) (metadata.column_of m table (suc k) c.0)) 0 (columns_of table)
    (λ j column below.
    let place : 0 + j ≡ j = omega arith in
    let inside : j < 9 = omega (arith, columns_few table) in
    let first : slice_index before j ≡ metadata.column_of m table k j = b j inside in
    let second : slice_index row j ≡ metadata.column_of m table (suc k) j = subst (λ n. slice_index row j ≡ metadata.column_of m table n j) next (r j inside) in
    rw place (ap (λ n. metadata.is_column m column n (slice_index row j)) first ∙ ap (λ n. metadata.is_column m column (metadata.column_of m table k j) n) second)))

-- rule 12 in one table
pub table_kept : (m : metadata.MetadataPart) (table : ℕ) → ((k : ℕ) → k < metadata.row_count m table → metadata.is_row m table (1 + k) ≡ true) → first_broken (metadata.rules_of_rows m table) ≡ None
unfolding metadata.rules_of_rows
table_kept m table h = each_kept (λ row. rule_of_row 12 table row (metadata.is_row m table row)) 1 (metadata.row_count m table) h

pub table_broken : (m : metadata.MetadataPart) (table k : ℕ) → k < metadata.row_count m table → ((j : ℕ) → j < k → metadata.is_row m table (1 + j) ≡ true) → metadata.is_row m table (1 + k) ≡ false → first_broken (metadata.rules_of_rows m table) ≡ Some (rule_of_row 12 table (k + 1) false).fault
unfolding metadata.rules_of_rows
table_broken m table k below h bad =
    let same : 1 + k ≡ k + 1 = omega arith in
    one_broken (λ row. rule_of_row 12 table row (metadata.is_row m table row)) 1 (metadata.row_count m table) k below h bad
    ∙ ap (λ n. Some (rule_of_row 12 table n false).fault) same

-- each table that is looked at has a number below 64
small_from : (xs : List ℕ) (i : ℕ) → list_all (λ x. nat_lt x 64) xs ≡ true → get_or xs i 0 < 64
small_from [] i h = omega arith
small_from (x ∷ xs) zero h = ltb-true x 64 (and_both (nat_lt x 64) (list_all (λ y. nat_lt y 64) xs) h).0
small_from (x ∷ xs) (suc i) h = small_from xs i (and_both (nat_lt x 64) (list_all (λ y. nat_lt y 64) xs) h).1

pub looked_at_small : (i : ℕ) → get_or LOOKED_AT i 0 < 64
looked_at_small i = small_from LOOKED_AT i refl
