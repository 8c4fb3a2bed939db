use Rattle.slot_links.proofs.RuleLaws.{slot_rules}
use Rattle.slot_links.proofs.law.slot_links_are_rules.Goals as goal

pub returns : goal.returns
returns c = λ size ps f reached chains lists. slot_rules size ps chains f reached lists
