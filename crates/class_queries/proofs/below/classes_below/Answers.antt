use Rattle.std.proofs.Common.{sym}
use Rattle.member_keys.specs.Seen.{class_seen}
use Rattle.class_queries.proofs.below.classes_below.Goals as goal

pub loop-class-init : goal.loop-class-init
loop-class-init c = record { below = c.in_ok-known.ensures c.args.table.now (sym c.requires.numbers.total) (class_seen c.args.other) }
