use Rattle.memory_states.proofs.Heaps.{used_is, size_is, type_is_held}
use Rattle.memory_states.proofs.law.cells_are_alike.Goals as goal

pub returns : goal.returns
returns c = record { whole = used_is; object = size_is; element = type_is_held }
