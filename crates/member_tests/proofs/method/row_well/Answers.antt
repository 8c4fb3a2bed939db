use Rattle.std.proofs.Common.{ap, sym, ◌∙◌}
use Rattle.std.specs.Option.{option_copied}
use Rattle.member_keys.specs.Seen.{class_seen}
use Rattle.verdict_rules.specs.World.{world_of}
use Rattle.verdict_rules.specs.Members.{method_well}
use Rattle.member_tests.proofs.MethodLaws.{file_rows, row_keeps, method_missing}
use Rattle.member_tests.proofs.method.row_well.Goals as goal

pub returns-in-Some : goal.returns-in-Some
returns-in-Some c =
    let files = c.args.subject.now.world.now in
    let t = c.args.subject.now.setting.table.now in
    let found = sym c.find_method.ensures ∙ ap option_copied c.in-Some.is in
    λ x columns none row.
    c.keeps.ensures (file_rows files t c.requires.table c.args.file c.args.n c.in-Some.method.now found) c.args.n
    ∙ row_keeps files t c.requires.table c.args.file c.args.n c.in-Some.method.now found (class_seen c.args.none) c.args.row.now x columns none row

pub returns-in-None : goal.returns-in-None
returns-in-None c =
    λ x columns none row.
    method_missing c.args.subject.now.world.now c.args.subject.now.setting.table.now c.requires.table c.args.file c.args.n (method_well (world_of c.args.subject.now.world.now) x columns)
    (sym c.find_method.ensures ∙ ap option_copied c.in-None.is)
