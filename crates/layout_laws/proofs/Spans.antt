-- Ranges of lists that are joined, and the number that four bytes spell.
use Rattle.std.proofs.Common.{◌≡◌, ℕ, ◌+◌, ◌*◌, ◌/◌, ◌%◌, ◌^◌, ◌<◌, ◌≤◌, List, ◌++◌, length, take, drop, ap, sym, ◌∙◌, refl, arith, append_assoc, length-drop}
use Rattle.std.proofs.lemmas.List.{take_all, take_at, take-append-le, drop_at, drop-append-le, drop-drop}
use Rattle.file_tables.specs.Bytes.{range_of}

-- four bytes, the lowest first
pub four_number : (n : ℕ) → n < 2 ^ 32 → n % 256 + 256 * (n / 256 % 256) + 65536 * (n / 65536 % 256 + 256 * (n / 16777216 % 256)) ≡ n
four_number n fits = omega arith

-- a range of the first list
pub range_left : (xs ys : List ℕ) (at len : ℕ) → at + len ≤ length xs → range_of (xs ++ ys) at len ≡ range_of xs at len
range_left xs ys at len fits =
    ap (take len) (drop-append-le at xs ys (omega arith)) ∙ take-append-le len (drop at xs) ys (omega (arith, length-drop at xs))

-- a range of the second list
pub range_right : (xs ys : List ℕ) (n at len : ℕ) → length xs ≡ n → range_of (xs ++ ys) (n + at) len ≡ range_of ys at len
range_right xs ys n at len same =
    ap (take len) (sym (drop-drop at n (xs ++ ys)) ∙ ap (drop at) (drop_at xs ys n same))

-- the whole second list of three
pub range_middle : (xs ys zs : List ℕ) (n : ℕ) → length xs ≡ n → range_of (xs ++ ys ++ zs) n (length ys) ≡ ys
range_middle xs ys zs n same =
    ap (λ (l : List ℕ). range_of l n (length ys)) (append_assoc xs ys zs)
    ∙ ap (take (length ys)) (drop_at xs (ys ++ zs) n same)
    ∙ take_at ys zs (length ys) refl

-- the whole second list of two
pub range_end : (xs ys : List ℕ) (n : ℕ) → length xs ≡ n → range_of (xs ++ ys) n (length ys) ≡ ys
range_end xs ys n same = ap (take (length ys)) (drop_at xs ys n same) ∙ take_all (length ys) ys (omega arith)
