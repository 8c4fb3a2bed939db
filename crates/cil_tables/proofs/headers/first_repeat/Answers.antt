use Rattle.cil_tables.proofs.HeaderLaws.{first_repeat_is}
use Rattle.cil_tables.proofs.headers.first_repeat.Goals as goal

pub returns : goal.returns
returns c =
    first_repeat_is c.args.region.now c.args.starts.now c.sort_names.new.starts c.requires c.sort_names.ensures.permutation c.sort_names.ensures.sorted c.least_repeat.result c.least_repeat.ensures
