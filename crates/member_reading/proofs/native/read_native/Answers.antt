use Rattle.member_reading.specs.Natives.{knows}
use Rattle.member_reading.proofs.NativeLaws.{shown_is}
use Rattle.member_reading.proofs.native.read_native.Goals as goal

pub returns : goal.returns
returns c = shown_is c.args.types.now.names.now c.args.row.now (knows c.args.known) _ _ c.find_class-owner.ensures c.in_ok-signature.ensures c.requires.known
