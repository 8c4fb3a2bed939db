use Rattle.class_table.proofs.TableLaws.{table_law}
use Rattle.class_table.proofs.law.whole_table.Goals as goal

pub returns : goal.returns
returns c = table_law
