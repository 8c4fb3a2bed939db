-- What `parse` gives for a numeral.
use Rattle.std.proofs.Common.{◌≡◌, ◌<◌, ◌^◌, ℕ, true, List, [], ◌∷◌, length, Result, Ok, Err, arith, rules}
use Rattle.std.specs.Option.{SomeIff}
use Rattle.std.specs.Result.{OkIff, result_ok}
use Rattle.std.specs.Char.{is_ascii_digit}
use Rattle.std.specs.List.{list_all}
use Rattle.std.specs.Str.Parse.{digits_value, ParsesUnsigned}
use Rattle.std.proofs.lemmas.Grind.{common_steps}
use Rattle.std.proofs.lemmas.Str.Parse.{IsNumeralModel, numerals_by_value, parse_digits}
use Rattle.numerals.specs.Numerals.{is_numeral}

own : IsNumeralModel (λ ds. list_all is_ascii_digit ds ≡ true) (digits_value 10)
own = numerals_by_value _ (search rules)

-- the digits of a numeral
digits_of : (word : List ℕ) → is_numeral word ≡ true → list_all is_ascii_digit word ≡ true
digits_of [] e = cc
digits_of (c ∷ []) e = grind (arith, common_steps)
digits_of (c ∷ d ∷ ds) e = grind (arith, common_steps)

some_of : (word : List ℕ) → is_numeral word ≡ true → 0 < length word
some_of [] e = absurd (cc e)
some_of (c ∷ cs) e = omega arith

-- a parsed numeral fits, and is its digits' value
from_parse : {E : Type 0} (word : List ℕ) (r : Result ℕ E) → is_numeral word ≡ true → OkIff r ((0 < length word) × (digits_value 10 word < 2 ^ 64)) (digits_value 10 word) → SomeIff (result_ok r) (digits_value 10 word < 2 ^ 64) (digits_value 10 word)
from_parse word (Ok n) e h = (h.0.1, h.1)
from_parse word (Err x) e h = λ small. h (some_of word e, small)

pub parsed_numeral : {E : Type 0} (word : List ℕ) (r : Result ℕ E) → is_numeral word ≡ true → ParsesUnsigned 64 10 word r → SomeIff (result_ok r) (digits_value 10 word < 2 ^ 64) (digits_value 10 word)
parsed_numeral word r e h = from_parse word r e (parse_digits own 64 word r h (digits_of word e))
