-- The two layouts of code.
use Rattle.std.proofs.Common.{◌≡◌, ⊎_elim, ℕ, zero, suc, ◌+◌, ◌-◌, ◌<◌, ◌≤◌, Bool, true, false, List, [], ◌∷◌, Some, None, refl, sym, ap, ◌∙◌, arith}
use Rattle.std.specs.Prelude.{if◌then◌else◌, nat_lt}
use Rattle.std.proofs.lemmas.Bool.{lt-ltb, le-ltb, cases_lt}
use Rattle.machine_rename.specs.Places.{Piece, to_long, starts_at, AreShorter}

pub if_true : {B : Type 0} (b : Bool) (x y : B) → b ≡ true → (if b then x else y) ≡ x
if_true true x y e = refl
if_true false x y e = absurd (cc e)

pub if_false : {B : Type 0} (b : Bool) (x y : B) → b ≡ false → (if b then x else y) ≡ y
if_false true x y e = absurd (cc e)
if_false false x y e = refl

module _ {A : Type 0} where
  within : (x : Piece A) (xs : List (Piece A)) (at : ℕ) → at < x.short → to_long (x ∷ xs) at ≡ at
  within x xs at h = if_true (nat_lt at x.short) at (x.long + to_long xs (at - x.short)) (lt-ltb at x.short h)

  behind : (x : Piece A) (xs : List (Piece A)) (at : ℕ) → x.short ≤ at → to_long (x ∷ xs) at ≡ x.long + to_long xs (at - x.short)
  behind x xs at h = if_false (nat_lt at x.short) at (x.long + to_long xs (at - x.short)) (le-ltb at x.short h)

  at_start : (size : Piece A → ℕ) (x : Piece A) (xs : List (Piece A)) → starts_at size (x ∷ xs) 0 ≡ Some x.what
  at_start size x xs = refl

  inside : (size : Piece A → ℕ) (x : Piece A) (xs : List (Piece A)) (at : ℕ) → 0 < at → at < size x → starts_at size (x ∷ xs) at ≡ None
  inside size x xs at h k =
      if_true (nat_lt 0 at) (if nat_lt at (size x) then None else starts_at size xs (at - size x)) (Some x.what) (lt-ltb 0 at h)
      ∙ if_true (nat_lt at (size x)) None (starts_at size xs (at - size x)) (lt-ltb at (size x) k)

  past : (size : Piece A → ℕ) (x : Piece A) (xs : List (Piece A)) (at : ℕ) → 0 < at → size x ≤ at → starts_at size (x ∷ xs) at ≡ starts_at size xs (at - size x)
  past size x xs at h k =
      if_true (nat_lt 0 at) (if nat_lt at (size x) then None else starts_at size xs (at - size x)) (Some x.what) (lt-ltb 0 at h)
      ∙ if_false (nat_lt at (size x)) None (starts_at size xs (at - size x)) (le-ltb at (size x) k)

  pub code_law : (xs : List (Piece A)) (at : ℕ) → AreShorter xs → starts_at (λ x. x.long) xs (to_long xs at) ≡ starts_at (λ x. x.short) xs at
  code_law [] at h = refl
  code_law (x ∷ xs) zero h = ap (starts_at (λ x. x.long) (x ∷ xs)) (within x xs 0 h.0)
  code_law (x ∷ xs) (suc n) h =
      ⊎_elim
      (λ lt. ap (starts_at (λ x. x.long) (x ∷ xs)) (within x xs (suc n) lt) ∙ inside (λ x. x.long) x xs (suc n) (omega arith) (omega (arith, h.1)) ∙ sym (inside (λ x. x.short) x xs (suc n) (omega arith) lt))
      (λ le.
      let back : x.long + to_long xs (suc n - x.short) - x.long ≡ to_long xs (suc n - x.short) = omega arith in
      ap (starts_at (λ x. x.long) (x ∷ xs)) (behind x xs (suc n) le)
      ∙ past (λ x. x.long) x xs (x.long + to_long xs (suc n - x.short)) (omega (arith, h.0, h.1)) (omega arith)
      ∙ ap (starts_at (λ x. x.long) xs) back
      ∙ code_law xs (suc n - x.short) h.2
      ∙ sym (past (λ x. x.short) x xs (suc n) (omega arith) le))
      (cases_lt (suc n) x.short)

  pub rises : (xs : List (Piece A)) (a b : ℕ) → AreShorter xs → a < b → to_long xs a < to_long xs b
  rises [] a b h lt = lt
  rises (x ∷ xs) a b h lt =
      ⊎_elim
      (λ la. ⊎_elim
      (λ lb. omega (arith, within x xs a la, within x xs b lb))
      (λ kb. omega (arith, within x xs a la, behind x xs b kb, h.1))
      (cases_lt b x.short))
      (λ ka. let kb : x.short ≤ b = omega arith in omega (arith, behind x xs a ka, behind x xs b kb, rises xs (a - x.short) (b - x.short) h.2 (omega arith)))
      (cases_lt a x.short)

  pub order_law : (xs : List (Piece A)) (a b : ℕ) → AreShorter xs → nat_lt (to_long xs a) (to_long xs b) ≡ nat_lt a b
  order_law xs a b h =
      ⊎_elim
      (λ lt. lt-ltb (to_long xs a) (to_long xs b) (rises xs a b h lt) ∙ sym (lt-ltb a b lt))
      (λ le. ⊎_elim
      (λ lt. le-ltb (to_long xs a) (to_long xs b) (omega (arith, rises xs b a h lt)) ∙ sym (le-ltb a b le))
      (λ ge. let same : a ≡ b = omega arith in le-ltb (to_long xs a) (to_long xs b) (omega (arith, ap (to_long xs) same)) ∙ sym (le-ltb a b le))
      (cases_lt b a))
      (cases_lt a b)
