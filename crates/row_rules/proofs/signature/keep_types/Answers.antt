use Rattle.std.proofs.Common.{◌<◌, length, arith}
use Rattle.row_rules.specs.Links.{row_at}
use Rattle.row_rules.specs.Named.{in_sig}
use Rattle.row_rules.proofs.LinkLaws.{keeps_more}
use Rattle.row_rules.proofs.signature.keep_types.Goals as goal

pub loop-of-preserved : goal.loop-of-preserved
loop-of-preserved c =
    let within : c.loop-of.of-index < length c.args.types.now = omega arith in
    keeps_more (row_at c.args.place) (in_sig c.args.place.file c.args.tables.now) c.args.types.now c.args.rules.now c.loop-of.rules c.keep_type.new.rules c.loop-of.of-index _ within c.loop-of.invariant c.in_ok-keep_type.ensures
