use Rattle.mf_convert.proofs.OneLaws.{one_conversion}
use Rattle.mf_convert.proofs.law.files_have_one_conversion.Goals as goal

pub returns : goal.returns
returns c = one_conversion
