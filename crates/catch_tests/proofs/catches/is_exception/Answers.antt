use Rattle.member_keys.specs.Seen.{class_seen}
use Rattle.catch_tests.proofs.CatchLaws.{exception_law}
use Rattle.catch_tests.proofs.catches.is_exception.Goals as goal

pub returns : goal.returns
returns c =
    exception_law c.args.subject.now.world.now c.args.subject.now.setting.table.now c.requires.subject.table (class_seen c.args.class) c.is_sub.result (class_seen c.args.exception) c.is_sub.ensures c.requires.exception
