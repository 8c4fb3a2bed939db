use Rattle.class_table.specs.Seen.{classes_seen}
use Rattle.slot_links.proofs.Added.{AddsTo}
use Rattle.slot_links.proofs.slots.add_slots.Given as goal

abbrev pub invariant-loop-row : goal.invariant-loop-row
invariant-loop-row l = AddsTo (classes_seen l.methods.table) l.file l.row l.fn.rules l.rules
