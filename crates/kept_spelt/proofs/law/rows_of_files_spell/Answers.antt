use Rattle.kept_spelt.proofs.RowLaws.{rows_spell}
use Rattle.kept_spelt.proofs.law.rows_of_files_spell.Goals as goal

pub returns : goal.returns
returns c = rows_spell
