use Rattle.std.proofs.Common.{refl}
use Rattle.set_names.specs.Names.{seen_all}
use Rattle.scope_walk.proofs.Lists.{stands_at}
use Rattle.set_binding.proofs.LackingLaws.{lacking_past}
use Rattle.set_binding.proofs.lacking.lacking_at.Goals as goal

pub lacking_in-requires : goal.lacking_in-requires
lacking_in-requires c =
    let look = c.in-Some.ensures.lookup in
    c.requires.files.each c.args.file c.in-Some.bound.now (stands_at c.args.files.now c.args.files.now c.args.file c.in-Some.bound.now refl look.3.0 look.1)

pub returns-in-None : goal.returns-in-None
returns-in-None c = lacking_past (seen_all c.args.names.now) c.args.file c.args.files.now c.requires.files c.in-None.ensures.lookup.3
