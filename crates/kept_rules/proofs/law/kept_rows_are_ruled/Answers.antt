use Rattle.kept_rules.proofs.RuleLaws.{ruled, keeps}
use Rattle.kept_rules.proofs.law.kept_rows_are_ruled.Goals as goal

pub returns-clause-ruled : goal.returns-clause-ruled
returns-clause-ruled c = ruled

pub returns-clause-kept : goal.returns-clause-kept
returns-clause-kept c = keeps
