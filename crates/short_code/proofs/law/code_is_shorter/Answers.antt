use Rattle.short_code.proofs.PieceLaws.{are_shorter}
use Rattle.short_code.proofs.law.code_is_shorter.Goals as goal

pub returns : goal.returns
returns c = are_shorter
