-- Where no rule is broken, each test is kept.
use Rattle.std.proofs.Common.{◌≡◌, ℕ, zero, suc, ◌+◌, Bool, true, false, List, [], ◌∷◌, Option, Some, None, refl, sym, subst, arith, cond}
use Rattle.std.specs.Prelude.{slice_get}
use Rattle.plain_types.specs.declared.fault.Fault.{Fault}
use Rattle.plain_types.specs.declared.fault.TheConstants.{WHOLE_FILE}
use Rattle.file_tables.specs.Metadata.{rows_of}
use Rattle.file_tables.specs.File.{FilePart}
use Rattle.verdict_rules.specs.Order.{Test, fault_of, first_fault, each, TableRules, FileRules, table_fault, file_fault, phase_fault}

pub head_kept : (f t r : ℕ) (x : Test) (xs : List Test) → first_fault f t r (x ∷ xs) ≡ None → (x.is_kept ≡ true) × (first_fault f t r xs ≡ None)
head_kept f t r x xs e = by x.is_kept refl e
  where
    by : (b : Bool) → x.is_kept ≡ b → cond b (first_fault f t r xs) (Some (fault_of f t r x)) ≡ None → (x.is_kept ≡ true) × (first_fault f t r xs ≡ None)
    by true k h = (k, h)
    by false k h = absurd (cc h)

abbrev pub kept_in : List Test → ℕ → Bool
kept_in [] i = true
kept_in (x ∷ xs) zero = x.is_kept
kept_in (x ∷ xs) (suc i) = kept_in xs i

pub tests_kept : (f t r : ℕ) (xs : List Test) (i : ℕ) → first_fault f t r xs ≡ None → kept_in xs i ≡ true
tests_kept f t r [] i e = refl
tests_kept f t r (x ∷ xs) zero e = (head_kept f t r x xs e).0
tests_kept f t r (x ∷ xs) (suc i) e = tests_kept f t r xs i (head_kept f t r x xs e).1

each_step : {A : Type 0} (fault : ℕ → A → Option Fault) (n : ℕ) (x : A) (xs : List A) → each fault n (x ∷ xs) ≡ None → (fault n x ≡ None) × (each fault (suc n) xs ≡ None)
each_step fault n x xs e = by (fault n x) refl e
  where
    by : (o : Option Fault) → fault n x ≡ o → elim o as (λ _. Option Fault) [ None ↦ each fault (suc n) xs | Some found ↦ Some found ] ≡ None → (fault n x ≡ None) × (each fault (suc n) xs ≡ None)
    by None k h = (k, h)
    by (Some found) k h = absurd (cc h)

each_from : {A : Type 0} (fault : ℕ → A → Option Fault) (n : ℕ) (xs : List A) (i : ℕ) (x : A) → each fault n xs ≡ None → slice_get xs i ≡ Some x → fault (n + i) x ≡ None
each_from fault n [] i x e at = absurd (cc at)
each_from fault n (y ∷ ys) zero x e at =
    let same : y ≡ x = cc at in
    let here : n + 0 ≡ n = omega arith in
    subst (λ k. fault k x ≡ None) (sym here) (subst (λ z. fault n z ≡ None) same (each_step fault n y ys e).0)
each_from fault n (y ∷ ys) (suc i) x e at =
    let next : suc n + i ≡ n + suc i = omega arith in
    subst (λ k. fault k x ≡ None) next (each_from fault (suc n) ys i x (each_step fault n y ys e).1 at)

pub each_kept : {A : Type 0} (fault : ℕ → A → Option Fault) (xs : List A) (i : ℕ) (x : A) → each fault 0 xs ≡ None → slice_get xs i ≡ Some x → fault i x ≡ None
each_kept fault xs i x e at = let here : 0 + i ≡ i = omega arith in subst (λ k. fault k x ≡ None) here (each_from fault 0 xs i x e at)

file_parts : (f : ℕ) (x : FilePart) (r : FileRules) → file_fault f x r ≡ None → (each (λ _ t. table_fault f x.metadata t) 0 r.tables ≡ None) × (first_fault f WHOLE_FILE 0 r.whole ≡ None)
file_parts f x r e = by (each (λ _ t. table_fault f x.metadata t) 0 r.tables) refl e
  where
    by : (o : Option Fault) → each (λ _ t. table_fault f x.metadata t) 0 r.tables ≡ o → elim o as (λ _. Option Fault) [ None ↦ first_fault f WHOLE_FILE 0 r.whole | Some found ↦ Some found ] ≡ None → (each (λ _ t. table_fault f x.metadata t) 0 r.tables ≡ None) × (first_fault f WHOLE_FILE 0 r.whole ≡ None)
    by None k h = (k, h)
    by (Some found) k h = absurd (cc h)

module _ (rules : ℕ → FilePart → FileRules) (files : List FilePart) (e : phase_fault rules files ≡ None) (f : ℕ) (x : FilePart) (at : slice_get files f ≡ Some x) where
  parts : (each (λ _ t. table_fault f x.metadata t) 0 (rules f x).tables ≡ None) × (first_fault f WHOLE_FILE 0 (rules f x).whole ≡ None)
  parts = file_parts f x (rules f x) (each_kept (λ file y. file_fault file y (rules file y)) files f x e at)

  -- the tests of a row
  pub row_kept : (i : ℕ) (t : TableRules) (n : ℕ) (row : List ℕ) → slice_get (rules f x).tables i ≡ Some t → slice_get (rows_of x.metadata t.table) n ≡ Some row → first_fault f t.table (suc n) (t.tests n row) ≡ None
  row_kept i t n row there here =
      each_kept (λ k r. first_fault f t.table (suc k) (t.tests k r)) (rows_of x.metadata t.table) n row (each_kept (λ _ s. table_fault f x.metadata s) (rules f x).tables i t parts.0 there) here

  -- and of the file itself
  pub whole_kept : first_fault f WHOLE_FILE 0 (rules f x).whole ≡ None
  whole_kept = parts.1
