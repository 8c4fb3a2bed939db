-- Rows of which some are kept.
use Rattle.std.proofs.Common.{◌≡◌, ◌≢◌, ⊎_elim, ℕ, ◌+◌, ◌<◌, ◌≤◌, ◌==◌, List, length, sym, ap, ◌∙◌, arith}
use Rattle.std.specs.Prelude.{nat_lt, slice_index}
use Rattle.std.proofs.lemmas.Bool.{lt-ltb, le-ltb, eq-eqb, ne_eqb, cases_lt}
use Rattle.machine_rename.specs.Places.{row_of}
use Rattle.machine_rename.proofs.PlaceLaws.{if_true, if_false}

module _ (kept : List ℕ) (count : ℕ) (below : (i : ℕ) → i < length kept → slice_index kept i < count) (apart : (i j : ℕ) → i < j → j < length kept → slice_index kept i ≢ slice_index kept j) where
  kept_row : (a : ℕ) → a < length kept → row_of kept count a ≡ slice_index kept a
  kept_row a h = if_true (nat_lt a (length kept)) (slice_index kept a) (count + a) (lt-ltb a (length kept) h)

  past_row : (a : ℕ) → length kept ≤ a → row_of kept count a ≡ count + a
  past_row a h = if_false (nat_lt a (length kept)) (slice_index kept a) (count + a) (le-ltb a (length kept) h)

  differ : (a b : ℕ) → a < b → row_of kept count a ≢ row_of kept count b
  differ a b lt e =
      ⊎_elim
      (λ lb. let la : a < length kept = omega arith in apart a b lt lb (sym (kept_row a la) ∙ e ∙ kept_row b lb))
      (λ kb. ⊎_elim
      (λ la. let x = below a la in let y : slice_index kept a ≡ count + b = sym (kept_row a la) ∙ e ∙ past_row b kb in omega arith)
      (λ ka. let y : count + a ≡ count + b = sym (past_row a ka) ∙ e ∙ past_row b kb in omega arith)
      (cases_lt a (length kept)))
      (cases_lt b (length kept))

  pub row_law : (a b : ℕ) → (row_of kept count a == row_of kept count b) ≡ (a == b)
  row_law a b =
      ⊎_elim
      (λ lt. ne_eqb (row_of kept count a) (row_of kept count b) (differ a b lt) ∙ sym (ne_eqb a b (λ e. omega arith)))
      (λ le. ⊎_elim
      (λ lt. ne_eqb (row_of kept count a) (row_of kept count b) (λ e. differ b a lt (sym e)) ∙ sym (ne_eqb a b (λ e. omega arith)))
      (λ ge. let same : a ≡ b = omega arith in eq-eqb (row_of kept count a) (row_of kept count b) (ap (row_of kept count) same) ∙ sym (eq-eqb a b same))
      (cases_lt b a))
      (cases_lt a b)
