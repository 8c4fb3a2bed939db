use Rattle.std.proofs.Common.{ap, sym, ◌∙◌}
use Rattle.std.specs.Option.{option_copied}
use Rattle.verdict_rules.specs.World.{world_of}
use Rattle.verdict_rules.specs.Members.{field_well}
use Rattle.member_tests.proofs.FieldLaws.{field_keeps, field_missing}
use Rattle.member_tests.proofs.field.field_well.Goals as goal

pub returns-in-Some : goal.returns-in-Some
returns-in-Some c =
    field_keeps c.args.subject.now.world.now c.args.subject.now.setting.table.now c.requires.subject.table c.args.file c.args.n c.files-files.ensures.stand c.in-Some.field.now
    (sym c.find_field.ensures ∙ ap option_copied c.in-Some.is) c.keeps.result (λ i bytes has. c.keeps.ensures i bytes has)

pub returns-in-None : goal.returns-in-None
returns-in-None c =
    field_missing c.args.subject.now.world.now c.args.subject.now.setting.table.now c.requires.subject.table c.args.file c.args.n (field_well (world_of c.args.subject.now.world.now) c.args.file c.args.n)
    (sym c.find_field.ensures ∙ ap option_copied c.in-None.is)
