use Rattle.cil_types.proofs.SpellLaws.{kinds_spelt}
use Rattle.cil_types.proofs.law.rules_give_spellings.Goals as goal

pub returns : goal.returns
returns c = λ n cs r k. kinds_spelt n cs r k
