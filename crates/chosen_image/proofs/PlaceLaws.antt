-- Places of instructions along code, and the order of bounds.
use Rattle.std.proofs.Common.{◌≡◌, ⊎_elim, inl, inr, ℕ, ◌+◌, ◌-◌, ◌<◌, ◌≤◌, List, [], ◌∷◌, refl, sym, ap, ◌∙◌, subst, arith}
use Rattle.std.specs.Prelude.{pos, negsuc, nat_eq, nat_lt, nat_le}
use Rattle.std.specs.Int.{Width}
use Rattle.std.specs.Int.RustNames.{FitsSigned}
use Rattle.std.specs.Int.Signed.{mag}
use Rattle.std.proofs.lemmas.Int.{ints}
use Rattle.std.proofs.lemmas.Bool.{lt-ltb, le-ltb, le-leb, lt-leb, eq-eqb, ne_eqb, cases_lt}
use Rattle.machine_rename.proofs.PlaceLaws.{if_true, if_false}
use Rattle.image_form.specs.Codes.{Instr, distance, size, long, short}
use Rattle.short_code.specs.Short.{to_short, long_end, short_end, IsBound}
use Rattle.short_code.specs.Pieces.{pieces}
use Rattle.short_code.proofs.PieceLaws.{are_shorter}
use Rattle.short_code.proofs.ShortLaws.{order}

pub begin : (is : List Instr) → to_short (pieces is) 0 ≡ 0
begin [] = refl
begin (i ∷ is) = let h = are_shorter (i ∷ is) in if_true (nat_lt 0 (size long i)) 0 (size short i + to_short (pieces is) (0 - size long i)) (lt-ltb 0 (size long i) (omega (arith, h.0, h.1)))

pub first_bound : (is : List Instr) → IsBound (pieces is) 0
first_bound [] = refl
first_bound (i ∷ is) = inl refl

pub behind_first : (i : Instr) (is : List Instr) (y : ℕ) → IsBound (pieces is) y → IsBound (pieces (i ∷ is)) (size long i + y)
behind_first i is y h =
    let off : y ≡ size long i + y - size long i = omega arith in
    inr (omega arith, subst (IsBound (pieces is)) off h)

pub end_bound : (is : List Instr) → IsBound (pieces is) (long_end (pieces is))
end_bound [] = refl
end_bound (i ∷ is) = behind_first i is (long_end (pieces is)) (end_bound is)

-- behind an instruction the image's places go on
pub goes_on : (i : Instr) (is : List Instr) (at : ℕ) → to_short (pieces (i ∷ is)) (size long i + at) ≡ size short i + to_short (pieces is) at
goes_on i is at =
    let off : size long i + at - size long i ≡ at = omega arith in
    if_false (nat_lt (size long i + at) (size long i)) 0 (size short i + to_short (pieces is) (size long i + at - size long i)) (le-ltb (size long i + at) (size long i) (omega arith))
    ∙ ap (λ n. size short i + to_short (pieces is) n) off

pub end_is : (is : List Instr) → to_short (pieces is) (long_end (pieces is)) ≡ short_end (pieces is)
end_is [] = refl
end_is (i ∷ is) = goes_on i is (long_end (pieces is)) ∙ ap (λ n. size short i + n) (end_is is)

module _ (is : List Instr) (place : ℕ → ℕ) (places : (at : ℕ) → place at ≡ to_short (pieces is) at) where
  rises : (a b : ℕ) → IsBound (pieces is) a → IsBound (pieces is) b → a < b → (place a < place b) × (place b ≤ place a + (b - a))
  rises a b p q lt = let h = order (pieces is) a b (are_shorter is) p q lt in (omega (arith, h.0, places a, places b), omega (arith, h.1, places a, places b))

  pub lt_same : (a b : ℕ) → IsBound (pieces is) a → IsBound (pieces is) b → nat_lt (place a) (place b) ≡ nat_lt a b
  lt_same a b p q =
      ⊎_elim
      (λ lt. lt-ltb (place a) (place b) (rises a b p q lt).0 ∙ sym (lt-ltb a b lt))
      (λ le.
      ⊎_elim
      (λ gt. le-ltb (place a) (place b) (omega (arith, (rises b a q p gt).0)) ∙ sym (le-ltb a b le))
      (λ ge. let same : a ≡ b = omega (arith, le, ge) in le-ltb (place a) (place b) (omega (arith, ap place same)) ∙ sym (le-ltb a b le))
      (cases_lt b a))
      (cases_lt a b)

  pub le_same : (a b : ℕ) → IsBound (pieces is) a → IsBound (pieces is) b → nat_le (place a) (place b) ≡ nat_le a b
  le_same a b p q =
      ⊎_elim
      (λ gt. lt-leb (place a) (place b) (rises b a q p gt).0 ∙ sym (lt-leb a b gt))
      (λ le.
      ⊎_elim
      (λ lt. le-leb (place a) (place b) (omega (arith, (rises a b p q lt).0)) ∙ sym (le-leb a b le))
      (λ ge. let same : a ≡ b = omega (arith, le, ge) in le-leb (place a) (place b) (omega (arith, ap place same)) ∙ sym (le-leb a b le))
      (cases_lt a b))
      (cases_lt b a)

  pub eq_same : (a b : ℕ) → IsBound (pieces is) a → IsBound (pieces is) b → nat_eq (place a) (place b) ≡ nat_eq a b
  eq_same a b p q =
      ⊎_elim
      (λ lt. ne_eqb (place a) (place b) (λ e. omega (arith, (rises a b p q lt).0, e)) ∙ sym (ne_eqb a b (λ e. omega (arith, lt, e))))
      (λ le.
      ⊎_elim
      (λ gt. ne_eqb (place a) (place b) (λ e. omega (arith, (rises b a q p gt).0, e)) ∙ sym (ne_eqb a b (λ e. omega (arith, gt, e))))
      (λ ge. let same : a ≡ b = omega (arith, le, ge) in eq-eqb (place a) (place b) (ap place same) ∙ sym (eq-eqb a b same))
      (cases_lt b a))
      (cases_lt a b)

  -- ---- a distance that fits goes on to

  forward : (w : Width) (next n : ℕ) → next ≤ n → mag (distance next (pos n)) ≡ n - next
  forward w next n le = let z : distance next (pos n) ≡ pos (n - next) = omega (arith, ints, le) in ap mag z

  backward : (w : Width) (next n : ℕ) → n < next → mag (distance next (pos n)) ≡ next - n - 1
  backward w next n lt = let z : distance next (pos n) ≡ negsuc (next - n - 1) = omega (arith, ints, lt) in ap mag z

  nearer : (w : Width) (next n : ℕ) → IsBound (pieces is) next → IsBound (pieces is) n → mag (distance (place next) (pos (place n))) ≤ mag (distance next (pos n))
  nearer w next n p q =
      ⊎_elim
      (λ lt. let h = rises n next q p lt in omega (arith, backward w next n lt, backward w (place next) (place n) h.0, h.1, h.0, lt))
      (λ le.
      ⊎_elim
      (λ gt. let h = rises next n p q gt in omega (arith, forward w next n le, forward w (place next) (place n) (omega (arith, h.0)), h.1, h.0, gt))
      (λ ge. let same : place next ≡ place n = ap place (omega (arith, le, ge)) in omega (arith, forward w (place next) (place n) (omega (arith, same)), same))
      (cases_lt next n))
      (cases_lt n next)

  pub nearer_fits : (w : Width) (next n : ℕ) → IsBound (pieces is) next → IsBound (pieces is) n → FitsSigned w (distance next (pos n)) → FitsSigned w (distance (place next) (pos (place n)))
  nearer_fits w next n p q h = record { sfits = omega (arith, nearer w next n p q, h.sfits) }
