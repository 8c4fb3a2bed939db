use Rattle.kept_spelt.proofs.SignatureLaws.{body_locals_spell}
use Rattle.kept_spelt.proofs.law.locals_of_files_spell.Goals as goal

pub returns : goal.returns
returns c = body_locals_spell
