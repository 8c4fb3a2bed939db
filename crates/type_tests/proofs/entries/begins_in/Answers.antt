use Rattle.std.proofs.Common.{ap, sym, ◌∙◌, Some, eq-eqb}
use Rattle.std.specs.Prelude.{◌&&◌}
use Rattle.std.specs.Option.{option_map}
use Rattle.member_keys.specs.Seen.{class_seen}
use Rattle.class_checks.specs.Entry.{entry_test}
use Rattle.type_tests.proofs.EntryLaws.{begins_is}
use Rattle.type_tests.proofs.entries.begins_in.Goals as goal

pub returns-then-place-from : goal.returns-then-place-from
returns-then-place-from c =
    let s = c.args.subject.now in
    let place = c.in-Some.place in
    c.entry_well.ensures
    ∙ sym
    (begins_is s.world.now s.setting.table.now c.requires.subject.table c.args.file (Some (class_seen place)) (sym (ap (option_map class_seen) c.in-Some.is) ∙ c.requires.entries.entry)
    ∙ ap (λ b. b && entry_test s.setting.table.now (class_seen place)) (eq-eqb place.file c.args.file (c.if-place-from.true ∙ c.from.ensures)))
