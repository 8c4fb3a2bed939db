use Rattle.std.proofs.Common.{◌-◌, length}
use Rattle.msspot_read.specs.Forms.{fits}
use Rattle.msspot_read.proofs.EntryLaws.{Walked}
use Rattle.msspot_read.proofs.entries.entries_of.Given as goal

abbrev pub invariant-entries : goal.invariant-entries
invariant-entries l = Walked l.pool l.at (fits l.parts l.form) l.marks.words

abbrev pub decreases-entries : goal.decreases-entries
decreases-entries l = length l.pool - l.at
