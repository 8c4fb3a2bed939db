use Rattle.deploy_laws.proofs.Matching.{operation_matches, banks_match}
use Rattle.deploy_laws.proofs.laws.replies_match.Goals as goal

pub returns-clause-operation : goal.returns-clause-operation
returns-clause-operation c last p op is = operation_matches last p op is

pub returns-clause-banks : goal.returns-clause-banks
returns-clause-banks c f content last p bytes is = banks_match last f content p bytes is
