use Rattle.operand_facts.proofs.Known.{operand_known}
use Rattle.operand_facts.proofs.law.operands_tell.Goals as goal

pub returns : goal.returns
returns c = operand_known
