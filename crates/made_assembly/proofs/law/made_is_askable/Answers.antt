use Rattle.made_assembly.proofs.Askable.{askable}
use Rattle.made_assembly.proofs.law.made_is_askable.Goals as goal

pub returns : goal.returns
returns c = λ n _ below. askable n below
