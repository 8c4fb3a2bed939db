-- The numbers of job words: `0`, or decimal digits of which the first is no zero.
use Rattle.std.specs.Prelude.{ℕ, Bool, false, not, ◌==◌, ◌&&◌, nat_le, if◌then◌else◌, List, [], ◌∷◌, Option, Some, None}
use Rattle.std.specs.Char.{is_ascii_digit}
use Rattle.std.specs.List.{list_all}
use Rattle.std.specs.Str.Parse.{digits_value}

abbrev pub is_numeral : List ℕ → Bool
is_numeral [] = false
is_numeral (c ∷ []) = is_ascii_digit c
is_numeral (c ∷ d ∷ ds) = not (c == 48) && list_all is_ascii_digit (c ∷ d ∷ ds)

-- the number of a word, where it is one up to a bound
unfoldable pub number_up_to : ℕ → List ℕ → Option ℕ
number_up_to most word = if is_numeral word && nat_le (digits_value 10 word) most then Some (digits_value 10 word) else None
