use Rattle.std.proofs.Common.{◌≤◌, length, sym, ap, ◌∙◌, arith}
use Rattle.root_marks.specs.Roots.{marked}
use Rattle.root_marks.proofs.EntryLaws.{marks_on, entries_end}
use Rattle.root_marks.proofs.entries.mark_entries.Goals as goal

pub loop-file-preserved : goal.loop-file-preserved
loop-file-preserved c =
    λ ps are.
    marks_on ps c.args.world.now c.loop-file.file c.pe.result.now c.entry.result c.loop-file.marks c.mark_entry.new.marks c.pe.ensures c.entry.ensures (c.mark_entry.ensures ps are) ∙ c.loop-file.invariant ps are

pub returns : goal.returns
returns c =
    λ ps are.
    let past : length c.args.world.now ≤ c.loop-file.file = omega arith in
    sym (ap (λ rows. marked ps rows c.loop-file.marks) (entries_end c.args.world.now c.loop-file.file past)) ∙ c.loop-file.invariant ps are
