use Rattle.tiny_types.proofs.SmallLaws.{total_small}
use Rattle.tiny_types.proofs.bound.bind_types.Goals as goal

pub find_basic-requires : goal.find_basic-requires
find_basic-requires c = total_small c.args.table.now c.in_ok-check_small.ensures
