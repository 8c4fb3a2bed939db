use Rattle.kept_numbers.proofs.NeededLaws.{closure_is_needed}
use Rattle.kept_numbers.proofs.law.the_closure_is_needed.Goals as goal

pub returns : goal.returns
returns c size ps base keep rules roots closure has stand made closes is = closure_is_needed size ps base keep rules roots closure has stand made closes is
