-- Texts: strings are lists of UTF-16 units (I.8.2.2, II.23.1.16), what is printed is UTF-8.
use Rattle.std.specs.Prelude.{ℕ, ℤ, pos, negsuc, Bool, true, false, ◌&&◌, nat_lt, ◌==◌, if◌then◌else◌, List, [], ◌∷◌, ◌++◌, encode_utf8_all}
use Rattle.std.specs.Str.{chars}
use Rattle.std.specs.Char.Escape.{encode_utf16}
use Rattle.std.specs.Char.Utf16.{utf16_lossy_chars}
use Rattle.std.specs.Fmt.{signed_decimal}

abbrev pub same_text : List ℕ → List ℕ → Bool
same_text [] [] = true
same_text [] (y ∷ ys) = false
same_text (x ∷ xs) [] = false
same_text (x ∷ xs) (y ∷ ys) = (x == y) && same_text xs ys

-- -1, 0 or 1, by the first units that differ
abbrev pub compared_texts : List ℕ → List ℕ → ℤ
compared_texts [] [] = pos 0
compared_texts [] (y ∷ ys) = negsuc 0
compared_texts (x ∷ xs) [] = pos 1
compared_texts (x ∷ xs) (y ∷ ys) = if nat_lt x y then negsuc 0 else (if nat_lt y x then pos 1 else compared_texts xs ys)

-- what a printed line is in UTF-8, where a surrogate without a partner is written as U+FFFD
abbrev pub printed : List ℕ → List ℕ
printed units = encode_utf8_all (utf16_lossy_chars units) ++ 10 ∷ []

abbrev pub utf16_of : List ℕ → List ℕ
utf16_of [] = []
utf16_of (c ∷ cs) = encode_utf16 c ++ utf16_of cs

-- the units of a name that is given in UTF-8
abbrev pub units_of_name : List ℕ → List ℕ
units_of_name bytes = utf16_of (chars bytes)

-- the brackets behind an array's element
abbrev pub with_brackets : List ℕ → List ℕ
with_brackets units = units ++ (91 ∷ 93 ∷ [])

abbrev pub decimal_text : ℤ → List ℕ
decimal_text n = signed_decimal n
