use Rattle.std.specs.Option.{option_map}
use Rattle.member_keys.specs.Seen.{class_seen}
use Rattle.catch_tests.proofs.CatchLaws.{object_law}
use Rattle.catch_tests.proofs.catches.is_object.Goals as goal

pub returns : goal.returns
returns c =
    object_law c.args.subject.now.world.now c.args.subject.now.setting.table.now c.requires.table (class_seen c.args.class) c.is_class.result (option_map class_seen c.args.subject.now.setting.library.object) c.is_class.ensures c.requires.setting.library.object
