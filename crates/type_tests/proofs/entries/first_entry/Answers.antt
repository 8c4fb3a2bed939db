use Rattle.std.proofs.Common.{sym, ◌∙◌}
use Rattle.type_tests.proofs.EntryLaws.{first_here, first_behind}
use Rattle.type_tests.proofs.entries.first_entry.Goals as goal

pub returns-then-entry-ne0 : goal.returns-then-entry-ne0
returns-then-entry-ne0 c =
    sym (c.loop-file.invariant ∙ first_here c.args.world.now c.loop-file.file c.pe.result.now c.pe.ensures (λ z. c.if-entry-ne0.true (c.entry.ensures ∙ z)))

pub loop-file-preserved : goal.loop-file-preserved
loop-file-preserved c = c.loop-file.invariant ∙ first_behind c.args.world.now c.loop-file.file c.pe.result.now c.pe.ensures (sym c.entry.ensures ∙ c.if-entry-ne0.false)
