use Rattle.layout_laws.proofs.Reading.{built_is_read}
use Rattle.layout_laws.proofs.law.built_is_read.Goals as goal

-- src/law.rt:8:1
pub returns : goal.returns
returns c = built_is_read
