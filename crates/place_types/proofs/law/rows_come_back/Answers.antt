use Rattle.place_types.proofs.RowLaws.{id_back, type_back, place_comes, stack_comes, stacks_come}
use Rattle.place_types.proofs.law.rows_come_back.Goals as goal

pub returns : goal.returns
returns c = record { ids = id_back; types = type_back; places = place_comes; stack = stack_comes; stacks = stacks_come }
