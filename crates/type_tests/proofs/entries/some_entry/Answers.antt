use Rattle.std.proofs.Common.{sym, ◌∙◌}
use Rattle.type_tests.proofs.EntryLaws.{last_is}
use Rattle.type_tests.proofs.entries.some_entry.Goals as goal

pub returns-then-is_last : goal.returns-then-is_last
returns-then-is_last c =
    c.is_some.ensures ∙ last_is c.args.subject.now.world.now c.args.file (sym c.is_last.ensures ∙ c.if-is_last.true) c.args.entries.now.first c.requires.first
