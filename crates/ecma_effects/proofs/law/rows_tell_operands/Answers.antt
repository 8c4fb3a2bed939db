use Rattle.ecma_effects.proofs.Ruled.{field_known, method_known}
use Rattle.ecma_effects.proofs.law.rows_tell_operands.Goals as goal

pub returns : goal.returns
returns c = record { field = field_known; method = method_known }
