-- What the sum of some bytes can be.
use Rattle.std.proofs.Common.{ℕ, zero, suc, ◌*◌, ◌<◌, ◌≤◌, List, [], ◌∷◌, ◌++◌, length, arith}
use Rattle.std.proofs.Math.Nat.{mod-lt}
use Rattle.std.specs.Prelude.{sum}
use Rattle.std.proofs.lemmas.List.Sums.{sum_by-cons}
use Rattle.std.specs.Int.{byte_at, bytes_low_first}
use Rattle.little_endian.specs.Numbers.{AreBytes}

-- what is behind the first of some bytes are bytes
pub AreBytes-tail : (x : ℕ) (xs : List ℕ) → AreBytes (x ∷ xs) → AreBytes xs
AreBytes-tail x xs bytes = λ i. bytes (suc i)

pub AreBytes-cons : (x : ℕ) (xs : List ℕ) → x < 256 → AreBytes xs → AreBytes (x ∷ xs)
AreBytes-cons x xs first bytes zero = first
AreBytes-cons x xs first bytes (suc i) = bytes i

pub AreBytes-append : (xs ys : List ℕ) → AreBytes xs → AreBytes ys → AreBytes (xs ++ ys)
AreBytes-append [] ys left right = right
AreBytes-append (x ∷ xs) ys left right =
    AreBytes-cons x (xs ++ ys) (left 0) (AreBytes-append xs ys (AreBytes-tail x xs left) right)

pub byte_at-lt : (i n : ℕ) → byte_at i n < 256
byte_at-lt zero n = mod-lt n (omega arith)
byte_at-lt (suc i) n = mod-lt _ (omega arith)

pub AreBytes-bytes_low_first : (i k n : ℕ) → AreBytes (bytes_low_first i k n)
AreBytes-bytes_low_first i zero n = λ j. omega arith
AreBytes-bytes_low_first i (suc k) n =
    AreBytes-cons (byte_at i n) (bytes_low_first (suc i) k n) (byte_at-lt i n) (AreBytes-bytes_low_first (suc i) k n)

-- each byte is at most 255
pub sum-bytes : (xs : List ℕ) → AreBytes xs → sum xs ≤ 255 * length xs
sum-bytes [] bytes = omega arith
sum-bytes (x ∷ xs) bytes =
    let first = bytes 0 in
    let rest = sum-bytes xs (AreBytes-tail x xs bytes) in
    omega (arith, sum_by-cons (λ (n : ℕ). n) x xs)
