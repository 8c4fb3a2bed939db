-- Numbers in bytes, and the bytes of a number.
use Rattle.std.proofs.Common.{◌≡◌, ℕ, zero, suc, ◌+◌, ◌^◌, ◌<◌, ◌≤◌, List, [], ◌∷◌, ◌++◌, length, take, drop, refl, sym, ap, ◌∙◌, arith}
use Rattle.std.proofs.lemmas.List.{get_or-drop, drop-append-le, length-drop}
use Rattle.std.proofs.lemmas.Nat.{le_bytes_2, le_bytes_4}
use Rattle.byteorder.specs.Endian.{little_bytes, little_number, little_from}
use Rattle.byteorder.specs.Numbers.{little_from-append, little_from-lt}
use Rattle.little_endian.specs.Numbers.{AreBytes}
use Rattle.little_endian.specs.Numbers.{number}

pub AreBytes-drop : (n : ℕ) (xs : List ℕ) → AreBytes xs → AreBytes (drop n xs)
AreBytes-drop n xs bytes = λ i. let e = get_or-drop n xs i 0 in let b = bytes (n + i) in omega arith

first_bytes : (n : ℕ) (xs : List ℕ) → AreBytes xs → AreBytes (take n xs)
first_bytes zero xs bytes i = omega arith
first_bytes (suc n) [] bytes i = omega arith
first_bytes (suc n) (x ∷ xs) bytes zero = bytes 0
first_bytes (suc n) (x ∷ xs) bytes (suc i) = first_bytes n xs (λ j. bytes (suc j)) i

-- four bytes and their number
four : (xs : List ℕ) → AreBytes xs → 4 ≤ length xs → little_bytes 4 (little_number 4 xs) ≡ take 4 xs
four [] bytes long = absurd (omega arith)
four (a ∷ []) bytes long = absurd (omega arith)
four (a ∷ b ∷ []) bytes long = absurd (omega arith)
four (a ∷ b ∷ c ∷ []) bytes long = absurd (omega arith)
four (a ∷ b ∷ c ∷ d ∷ xs) bytes long =
    le_bytes_4 (a ∷ b ∷ c ∷ d ∷ []) (little_number 4 (a ∷ b ∷ c ∷ d ∷ xs)) refl
    (first_bytes 4 (a ∷ b ∷ c ∷ d ∷ xs) bytes)
    (omega arith)

two : (xs : List ℕ) → AreBytes xs → 2 ≤ length xs → little_bytes 2 (little_number 2 xs) ≡ take 2 xs
two [] bytes long = absurd (omega arith)
two (a ∷ []) bytes long = absurd (omega arith)
two (a ∷ b ∷ xs) bytes long =
    le_bytes_2 (a ∷ b ∷ []) (little_number 2 (a ∷ b ∷ xs)) refl
    (first_bytes 2 (a ∷ b ∷ xs) bytes)
    (omega arith)

-- the bytes at a place are those of their number
pub bytes_at_4 : (at : ℕ) (xs : List ℕ) → AreBytes xs → at + 4 ≤ length xs → take 4 (drop at xs) ≡ little_bytes 4 (number 4 at xs)
unfolding number
bytes_at_4 at xs bytes long = sym (four (drop at xs) (AreBytes-drop at xs bytes) (let e = length-drop at xs in omega arith))

pub bytes_at_2 : (at : ℕ) (xs : List ℕ) → AreBytes xs → at + 2 ≤ length xs → take 2 (drop at xs) ≡ little_bytes 2 (number 2 at xs)
unfolding number
bytes_at_2 at xs bytes long = sym (two (drop at xs) (AreBytes-drop at xs bytes) (let e = length-drop at xs in omega arith))

-- a number fits its bytes
pub number-lt : (n at : ℕ) (xs : List ℕ) → AreBytes xs → number n at xs < 256 ^ n
unfolding number
number-lt n at xs bytes = little_from-lt 0 n (drop at xs) (AreBytes-drop at xs bytes)

-- a number doesn't depend on what stands behind it
pub number-append : (n at : ℕ) (xs ys : List ℕ) → at + n ≤ length xs → number n at (xs ++ ys) ≡ number n at xs
unfolding number
number-append n at xs ys long =
    let moved = drop-append-le at xs ys (omega arith) in
    let front = little_from-append n (drop at xs) ys (let e = length-drop at xs in omega arith) in
    ap (λ (zs : List ℕ). little_from 0 n zs) moved ∙ front
