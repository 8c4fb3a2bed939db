-- Columns of rows that aren't there.
use Rattle.std.proofs.Common.{◌≡◌, inl, inr, ℕ, zero, suc, ◌<◌, ◌≤◌, Bool, true, false, leb, List, [], ◌∷◌, length, Some, None, Option, refl, sym, ap, ◌∙◌, arith}
use Rattle.std.specs.Prelude.{◌⊎◌, ◌&&◌, if◌then◌else◌, slice_index, slice_index_or}
use Rattle.std.proofs.lemmas.Bool.{le-leb, cases_lt}
use Rattle.file_tables.specs.Metadata.{MetadataPart, rows_of, row_count, column_of, is_row_in}

past : (xs : List (List ℕ)) (k : ℕ) → length xs ≤ k → slice_index_or xs k [] ≡ []
past [] k le = refl
past (x ∷ xs) zero le = absurd (omega (arith, le))
past (x ∷ xs) (suc k) le = past xs k (omega (arith, le))

pub no_column : {A : Type 0} (m : MetadataPart) (t n : ℕ) (x : A) → Path (Option A) None (if is_row_in m t n then Some x else None) → 0 ≡ column_of m t n 0
no_column m t zero x e = refl
no_column {A} m t (suc k) x e = go (cases_lt k (row_count m t))
  where
    out : (b : Bool) → Path (Option A) None (if b then Some x else None) → b ≡ false
    out true f = absurd (cc f)
    out false f = refl

    go : (k < row_count m t) ⊎ (row_count m t ≤ k) → 0 ≡ column_of m t (suc k) 0
    go (inl within) =
        let one : leb 1 (suc k) ≡ true = le-leb 1 (suc k) (omega arith) in
        let two : leb (suc k) (row_count m t) ≡ true = le-leb (suc k) (row_count m t) (omega (arith, within)) in
        let both : is_row_in m t (suc k) ≡ true = ap (λ b. b && leb (suc k) (row_count m t)) one ∙ two in
        absurd (cc (sym both ∙ out (is_row_in m t (suc k)) e))
    go (inr behind) = sym (ap (λ row. slice_index row 0) (past (rows_of m t) k behind))
