-- Which of three is chosen, and what a bank gives.
use Rattle.std.proofs.Common.{◌≡◌, ℕ, ◌+◌, ◌*◌, Bool, true, false, ◌&&◌, ◌||◌, List, drop, refl, sym, ap, ◌∙◌, arith, get_or-drop}
use Rattle.std.specs.Prelude.{if◌then◌else◌, not, nat_le, slice_index}
use Rattle.deploy_model.specs.Banks.{Found, NoSet, Located, located, is_late, is_set, first_bad, choose, judge, walk, holds, bank_marker, bank_found}
use Rattle.boot_scan.specs.Images.{FORMAT}

module _ (o f s : Found) (n m : ℕ) where
  abbrev first_wins : Bool
  first_wins = is_set f && (not (is_set s) || nat_le m n)

  abbrev pick : Bool → Bool → Bool → Bool → Located
  pick a b c d =
      if a then located o 2 0 0
      else (if b then located f 3 0 n
      else (if c then located s 3 1 m
      else (if d then located o 1 0 0 else located (first_bad o f s) 0 0 0)))

  picked : choose o f s n m ≡ pick (is_late o) first_wins (is_set s) (is_set o)
  unfolding choose
  picked = refl

  pub late : is_late o ≡ true → located o 2 0 0 ≡ choose o f s n m
  late a = sym (picked ∙ ap (λ x. pick x first_wins (is_set s) (is_set o)) a)

  pub first : is_late o ≡ false → first_wins ≡ true → located f 3 0 n ≡ choose o f s n m
  first a b = sym (picked ∙ ap (λ x. pick x first_wins (is_set s) (is_set o)) a ∙ ap (λ x. pick false x (is_set s) (is_set o)) b)

  pub second : is_late o ≡ false → first_wins ≡ false → is_set s ≡ true → located s 3 1 m ≡ choose o f s n m
  second a b c = sym (picked ∙ ap (λ x. pick x first_wins (is_set s) (is_set o)) a ∙ ap (λ x. pick false x (is_set s) (is_set o)) b ∙ ap (λ x. pick false false x (is_set o)) c)

  pub old : is_late o ≡ false → first_wins ≡ false → is_set s ≡ false → is_set o ≡ true → located o 1 0 0 ≡ choose o f s n m
  old a b c d =
      sym (picked ∙ ap (λ x. pick x first_wins (is_set s) (is_set o)) a ∙ ap (λ x. pick false x (is_set s) (is_set o)) b ∙ ap (λ x. pick false false x (is_set o)) c ∙ ap (pick false false false) d)

  pub none : is_late o ≡ false → first_wins ≡ false → is_set s ≡ false → is_set o ≡ false → located (first_bad o f s) 0 0 0 ≡ choose o f s n m
  none a b c d =
      sym (picked ∙ ap (λ x. pick x first_wins (is_set s) (is_set o)) a ∙ ap (λ x. pick false x (is_set s) (is_set o)) b ∙ ap (λ x. pick false false x (is_set o)) c ∙ ap (pick false false false) d)

pub choose_same : (o o2 f f2 s s2 : Found) (n n2 m m2 : ℕ) → o ≡ o2 → f ≡ f2 → s ≡ s2 → n ≡ n2 → m ≡ m2 → choose o f s n m ≡ choose o2 f2 s2 n2 m2
choose_same o o2 f f2 s s2 n n2 m m2 a b c d e =
    ap (λ x. choose x f s n m) a ∙ ap (λ x. choose o2 x s n m) b ∙ ap (λ x. choose o2 f2 x n m) c ∙ ap (λ x. choose o2 f2 s2 x m) d ∙ ap (choose o2 f2 s2 n2) e

pub bank_is : (bank : ℕ) (bytes : List ℕ) → holds bank_marker 0 bytes ≡ true → judge FORMAT (131072 * bank) (walk FORMAT 32 (131072 * bank + 16) (drop 16 bytes)) ≡ bank_found FORMAT bank bytes
unfolding bank_found
bank_is bank bytes e = sym (ap (λ (b : Bool). if b then judge FORMAT (131072 * bank) (walk FORMAT 32 (131072 * bank + 16) (drop 16 bytes)) else NoSet) e)

pub number_is : (xs ys : List ℕ) (r a b c d : ℕ) → xs ≡ ys → a ≡ slice_index xs 8 → b ≡ slice_index xs 9 → c ≡ slice_index xs 10 → d ≡ slice_index xs 11 → r ≡ a + 256 * (b + 256 * (c + 256 * (d + 0)))
    → r ≡ slice_index (drop 8 ys) 0 + 256 * (slice_index (drop 8 ys) 1 + 256 * (slice_index (drop 8 ys) 2 + 256 * (slice_index (drop 8 ys) 3 + 0)))
number_is xs ys r a b c d same p q s t e =
    let p2 : slice_index xs 8 ≡ slice_index (drop 8 ys) 0 = ap (λ zs. slice_index zs 8) same ∙ sym (get_or-drop 8 ys 0 0) in
    let q2 : slice_index xs 9 ≡ slice_index (drop 8 ys) 1 = ap (λ zs. slice_index zs 9) same ∙ sym (get_or-drop 8 ys 1 0) in
    let s2 : slice_index xs 10 ≡ slice_index (drop 8 ys) 2 = ap (λ zs. slice_index zs 10) same ∙ sym (get_or-drop 8 ys 2 0) in
    let t2 : slice_index xs 11 ≡ slice_index (drop 8 ys) 3 = ap (λ zs. slice_index zs 11) same ∙ sym (get_or-drop 8 ys 3 0) in
    omega (arith, p, q, s, t, p2, q2, s2, t2, e)
