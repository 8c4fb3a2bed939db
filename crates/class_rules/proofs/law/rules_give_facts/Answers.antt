use Rattle.class_rules.proofs.Kept.{order, members}
use Rattle.class_rules.proofs.MadeLaws.{objects, kinds}
use Rattle.class_rules.proofs.law.rules_give_facts.Goals as goal

pub returns : goal.returns
returns c n cs r b k = (order n cs r b k, members n cs r b k, objects n cs r b k, kinds n cs r b k)
