use Rattle.image_codes.proofs.JoinLaws.{laid_words, laid_numbers}
use Rattle.image_codes.proofs.law.shrunk_codes_are_laid.Goals as goal

pub returns : goal.returns
returns c = record {
  words = λ files marks f x p i accepted at there has named numbers. laid_words files accepted f x at has c.literals_are_found.ensures marks p there named i numbers;
  numbers = λ files marks f x p i accepted at there has named numbers none. laid_numbers files accepted f x at has c.literals_are_found.ensures marks p there named i numbers none;
}
