use Rattle.numerals.proofs.NumeralsLemmas.{parsed_numeral}
use Rattle.numerals.proofs.numeral.value.Goals as goal

pub returns : goal.returns
returns c = rw c.ok.ensures.value (parsed_numeral c.args.word.now c.parse.result c.requires c.parse.ensures.value.0)
