-- A test of each number below a bound.
use Rattle.std.proofs.Common.{◌≡◌, ℕ, zero, suc, ◌<◌, Bool, true, false, ◌&&◌, eqb, eqb-true, subst, sym, arith, refl}
use Rattle.std.proofs.lemmas.Bool.Decides.{nat_tests}

unfoldable pub all_below : (ℕ → Bool) → ℕ → Bool
all_below test zero = true
all_below test (suc n) = test n && all_below test n

pub and_left : (a b : Bool) → (a && b) ≡ true → a ≡ true
and_left true b e = refl
and_left false b e = e

pub and_right : (a b : Bool) → (a && b) ≡ true → b ≡ true
and_right true b e = e
and_right false b e = absurd (cc)

pub all_below_at : (test : ℕ → Bool) (n k : ℕ) → all_below test n ≡ true → k < n → test k ≡ true
unfolding all_below
all_below_at test zero k all below = absurd (omega arith)
all_below_at test (suc n) k all below =
    elim (eqb k n) as (λ b. eqb k n ≡ b → test k ≡ true) [
      | true ↦ λ same. subst (λ j. test j ≡ true) (sym (eqb-true k n same)) (and_left (test n) (all_below test n) all)
      | false ↦ λ other. all_below_at test n k (and_right (test n) (all_below test n) all) (grind (arith, nat_tests))
    ] refl
