use Rattle.image_numbers.proofs.TokenLaws.{words_law, numbers_law, numbered_law}
use Rattle.image_numbers.proofs.law.kept_tokens_get_their_words.Goals as goal

pub returns : goal.returns
returns c = record {
  words = λ files marks f x p i there at numbers bytes all. words_law c.literals_are_found.ensures files marks f x p there at i numbers bytes all;
  fits = λ files marks f x p i there at numbers none. numbers_law c.literals_are_found.ensures files marks f x p there at i numbers none;
  numbers = λ files marks f x p i there at numbers bytes all none. numbered_law c.literals_are_found.ensures files marks f x p there at i numbers bytes all none;
}
