use Rattle.method_facts.proofs.Tells.{field_told, method_told}
use Rattle.method_facts.proofs.law.rows_tell.Goals as goal

pub returns : goal.returns
returns c = record { field = field_told; method = method_told }
