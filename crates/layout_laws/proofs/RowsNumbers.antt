-- Numbers that are spelled in a list of bytes are read as they are.
use Rattle.std.proofs.Common.{◌≡◌, ℕ, ◌+◌, ◌<◌, List, [], ◌∷◌, ◌++◌, length, get_or, take, sum_by, refl, ap, ◌∙◌, arith, length-append}
use Rattle.std.specs.List.{AllZip}
use Rattle.std.proofs.lemmas.List.{append_assoc, get_or-append-add}
use Rattle.std.proofs.lemmas.List.Sums.{sum_by-cons}
use Rattle.cil_layout.specs.Layout.{four, spelled}
use Rattle.file_tables.specs.Bytes.{u16_at, u32_at}
use Rattle.file_tables.specs.Tables.{number_at, numbers_at}

-- a number of that width in bytes
pub data FitsIn (w n : ℕ) : Type 0 where
  in_two : w ≡ 2 → n < 65536 → FitsIn w n
  in_four : w ≡ 4 → n < 4294967296 → FitsIn w n

-- what is read behind other bytes
pub byte_behind : (xs ys : List ℕ) (at k : ℕ) → at ≡ length xs + k → get_or (xs ++ ys) at 0 ≡ get_or ys k 0
byte_behind xs ys at k e = rw e (get_or-append-add xs ys k 0)

u16_behind : (xs ys : List ℕ) (at k : ℕ) → at ≡ length xs + k → u16_at (xs ++ ys) at ≡ u16_at ys k
unfolding u16_at
u16_behind xs ys at k e = rw (byte_behind xs ys at k e, byte_behind xs ys (at + 1) (k + 1) (omega (arith, e))) refl

pub u32_behind : (xs ys : List ℕ) (at k : ℕ) → at ≡ length xs + k → u32_at (xs ++ ys) at ≡ u32_at ys k
unfolding u32_at
u32_behind xs ys at k e = rw (u16_behind xs ys at k e, u16_behind xs ys (at + 2) (k + 2) (omega (arith, e))) refl

number_behind : (xs ys : List ℕ) (at k w : ℕ) → at ≡ length xs + k → number_at (xs ++ ys) at w ≡ number_at ys k w
unfolding number_at
number_behind xs ys at k w e = rw (u16_behind xs ys at k e, u32_behind xs ys at k e) refl

pub numbers_behind : (xs ys : List ℕ) (at k : ℕ) (ws : List ℕ) → at ≡ length xs + k → numbers_at (xs ++ ys) at ws ≡ numbers_at ys k ws
unfolding numbers_at
numbers_behind xs ys at k [] e = refl
numbers_behind xs ys at k (w ∷ ws) e = rw (number_behind xs ys at k w e, numbers_behind xs ys (at + w) (k + w) ws (omega (arith, e))) refl

-- the number that four bytes spell
pub four_read : (n : ℕ) (ys : List ℕ) → n < 4294967296 → u32_at (four n ++ ys) 0 ≡ n
unfolding u32_at u16_at
four_read n ys fits = omega (arith, fits)

two_read : (n : ℕ) (ys : List ℕ) → n < 65536 → u16_at (take 2 (four n) ++ ys) 0 ≡ n
unfolding u16_at
two_read n ys fits = omega (arith, fits)

number_read : (w n : ℕ) (ys : List ℕ) → FitsIn w n → number_at (take w (four n) ++ ys) 0 w ≡ n
unfolding number_at
number_read w n ys (in_two e fits) = rw e (two_read n ys fits)
number_read w n ys (in_four e fits) = rw e (four_read n ys fits)

number_length : (w n : ℕ) → FitsIn w n → length (take w (four n)) ≡ w
number_length w n (in_two e fits) = rw e refl
number_length w n (in_four e fits) = rw e refl

-- numbers that fit take as many bytes as their widths say, and are read again
pub spelled_length : (ws ns : List ℕ) → AllZip FitsIn ws ns → length (spelled ws ns) ≡ sum_by (λ w. w) ws
spelled_length [] [] fits = refl
spelled_length [] (n ∷ ns) fits = absurd fits
spelled_length (w ∷ ws) [] fits = absurd fits
spelled_length (w ∷ ws) (n ∷ ns) fits =
    omega (arith, length-append (take w (four n)) (spelled ws ns), number_length w n fits.0, spelled_length ws ns fits.1, sum_by-cons (λ v. v) w ws)

pub spelled_read : (ws ns ys : List ℕ) → AllZip FitsIn ws ns → numbers_at (spelled ws ns ++ ys) 0 ws ≡ ns
unfolding numbers_at
spelled_read [] [] ys fits = refl
spelled_read [] (n ∷ ns) ys fits = absurd fits
spelled_read (w ∷ ws) [] ys fits = absurd fits
spelled_read (w ∷ ws) (n ∷ ns) ys fits =
    let xs : List ℕ = spelled ws ns ++ ys in
    let same : spelled (w ∷ ws) (n ∷ ns) ++ ys ≡ take w (four n) ++ xs = append_assoc (take w (four n)) (spelled ws ns) ys in
    let head : number_at (take w (four n) ++ xs) 0 w ≡ n = number_read w n xs fits.0 in
    let rest : numbers_at (take w (four n) ++ xs) (0 + w) ws ≡ ns = numbers_behind (take w (four n)) xs (0 + w) 0 ws (omega (arith, number_length w n fits.0)) ∙ spelled_read ws ns ys fits.1 in
    ap (λ zs. numbers_at zs 0 (w ∷ ws)) same ∙ ap (λ m. m ∷ numbers_at (take w (four n) ++ xs) (0 + w) ws) head ∙ ap (λ ms. n ∷ ms) rest
