use Rattle.code_rules.proofs.RowLaws.{effect_row, judged_plain, judged_speaks}
use Rattle.code_rules.proofs.law.rows_are_effects.Goals as goal

pub returns : goal.returns
returns c = record { plain = effect_row; judged = judged_plain; speaks = judged_speaks }
