use Rattle.kept_rules.proofs.LeastLaws.{least_is_needed}
use Rattle.kept_rules.proofs.law.the_least_rows_are_needed.Goals as goal

pub returns : goal.returns
returns c size ps base keep has stand least = least_is_needed size ps base has stand keep least
