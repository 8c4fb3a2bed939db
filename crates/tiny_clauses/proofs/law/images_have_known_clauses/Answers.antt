use Rattle.tiny_clauses.proofs.ClauseLaws.{all_known}
use Rattle.tiny_clauses.proofs.law.images_have_known_clauses.Goals as goal

pub returns : goal.returns
returns c = all_known
