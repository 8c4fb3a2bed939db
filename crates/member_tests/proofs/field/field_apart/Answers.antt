use Rattle.std.proofs.Common.{ap, sym, ◌∙◌}
use Rattle.std.specs.Option.{option_copied, option_map}
use Rattle.assemblies.specs.Binding.{id_at}
use Rattle.member_search.specs.declared.sort.Sort.TheVariants.{Field}
use Rattle.member_search.specs.Shown.{Indexed, key_shown, own_member}
use Rattle.verdict_rules.specs.World.{world_of}
use Rattle.verdict_rules.specs.Members.{of_member, is_field_apart}
use Rattle.member_tests.specs.Rows.{is_not_before}
use Rattle.member_tests.proofs.FieldLaws.{field_is_apart, field_missing}
use Rattle.member_tests.proofs.field.field_apart.Goals as goal

pub returns-in-Some : goal.returns-in-Some
returns-in-Some c =
    c.is_first.ensures
    ∙ ap (λ (i : Indexed). of_member (option_map (id_at c.args.file) c.in-Some.field.now.owner) (λ d. is_not_before c.args.n (own_member i.sort i.table (key_shown c.field_key.result) d))) c.requires.index
    ∙ ap (λ s. of_member (option_map (id_at c.args.file) c.in-Some.field.now.owner) (λ d. is_not_before c.args.n (own_member Field c.args.subject.now.setting.table.now s d))) c.field_key.ensures
    ∙ field_is_apart c.args.subject.now.world.now c.args.subject.now.setting.table.now c.requires.subject.table c.args.file c.args.n c.files-files.ensures.stand c.in-Some.field.now (sym c.find_field.ensures ∙ ap option_copied c.in-Some.is)

pub returns-in-None : goal.returns-in-None
returns-in-None c =
    field_missing c.args.subject.now.world.now c.args.subject.now.setting.table.now c.requires.subject.table c.args.file c.args.n (is_field_apart (world_of c.args.subject.now.world.now) c.args.file c.args.n)
    (sym c.find_field.ensures ∙ ap option_copied c.in-None.is)
