use Rattle.std.proofs.Common.{sym, ◌∙◌, ap}
use Rattle.profile_order.specs.declared.tables.Phase.TheVariants.{Types, Members}
use Rattle.profile_order.specs.Told.{whole_told}
use Rattle.profile_order.proofs.OrderLaws.{whole_by}
use Rattle.profile_order.proofs.order.whole_fault.Goals as goal

pub returns-in-Types : goal.returns-in-Types
returns-in-Types c =
    whole_by c.args.judge.now.subject.now.world.now c.args.file Types _ c.requires.file c.entry_fault.ensures
    ∙ ap (whole_told c.args.judge.now.subject.now.world.now c.args.file) (sym c.in-Types.is)

pub returns-in_ok-library_fault-in-Members : goal.returns-in_ok-library_fault-in-Members
returns-in_ok-library_fault-in-Members c =
    whole_by c.args.judge.now.subject.now.world.now c.args.file Members _ c.requires.file c.in_ok-library_fault-in-Members.ensures
    ∙ ap (whole_told c.args.judge.now.subject.now.world.now c.args.file) (sym c.in-Members.is)
