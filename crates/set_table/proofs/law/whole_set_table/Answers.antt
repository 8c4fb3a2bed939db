use Rattle.set_table.proofs.TableLaws.{table_law}
use Rattle.set_table.proofs.law.whole_set_table.Goals as goal

pub returns : goal.returns
returns c = table_law
