use Rattle.row_numbers.proofs.NumberLaws.{AreFirstFew}
use Rattle.row_numbers.proofs.numbers.all_firsts.Given as goal

abbrev pub invariant-loop-k : goal.invariant-loop-k
invariant-loop-k l = record { few : AreFirstFew l.counts l.tables.items l.k l.end }
