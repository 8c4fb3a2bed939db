use Rattle.base_rows.proofs.BaseLaws.{base_facts, base_is_read}
use Rattle.base_rows.proofs.law.worlds_are_based.Goals as goal

pub returns : goal.returns
returns c = record { base = base_facts; read = base_is_read }
