use Rattle.code_rules.proofs.AcceptedLaws.{method_fits}
use Rattle.code_rules.proofs.law.accepted_method_fits.Goals as goal

pub returns : goal.returns
returns c n x r b k id m code is coded fit = method_fits n x r b k id m code is coded fit
