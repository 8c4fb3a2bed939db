use Rattle.std.proofs.Common.{suc}
use Rattle.base_rows.specs.Facts.{base}
use Rattle.verdict_laws.proofs.VerdictLaws.{rules}
use Rattle.kept_spelt.proofs.KeptLaws.{kept_spell}
use Rattle.kept_spelt.proofs.law.kept_rows_spell.Goals as goal

pub returns : goal.returns
returns c xs marks f x p accepted closed there at bodies = kept_spell (base xs) marks accepted (rules xs accepted.verdict (λ g y here. accepted.types (suc (suc g)) y here)) closed f x p there at bodies
