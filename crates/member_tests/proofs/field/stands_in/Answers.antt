use Rattle.std.proofs.Common.{ap, sym, ◌∙◌}
use Rattle.std.specs.Option.{option_copied}
use Rattle.member_keys.specs.Seen.{class_seen}
use Rattle.class_table.specs.Seen.{field_seen}
use Rattle.class_rules.specs.Rules.{holds_some, field_stands_well}
use Rattle.member_tests.proofs.ClassLaws.{class_found, class_missing}
use Rattle.member_tests.proofs.field.stands_in.Goals as goal

pub returns-in-Some : goal.returns-in-Some
returns-in-Some c =
    let found = class_found c.args.table.now (class_seen c.args.class) c.in-Some.row.now (sym c.find_class.ensures ∙ ap option_copied c.in-Some.is) in
    λ file n. c.field_stands_well.ensures found.0 file n ∙ sym (ap (λ o. holds_some o (λ k. field_stands_well (class_seen c.args.class) k (field_seen file n c.args.field.now))) found.1)

pub returns-in-None : goal.returns-in-None
returns-in-None c =
    let missing = class_missing c.args.table.now (class_seen c.args.class) (sym c.find_class.ensures ∙ ap option_copied c.in-None.is) in
    λ file n. sym (ap (λ o. holds_some o (λ k. field_stands_well (class_seen c.args.class) k (field_seen file n c.args.field.now))) missing)
