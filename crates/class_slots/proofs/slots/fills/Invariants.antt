use Rattle.std.proofs.Common.{◌≡◌, ℕ, ◌+◌, ◌<◌, true, Some}
use Rattle.std.specs.Prelude.{slice_get}
use Rattle.classes.specs.Classes.{OwnMethod}
use Rattle.classes.specs.Queries.{methods_of}
use Rattle.member_keys.specs.Seen.{class_seen}
use Rattle.class_table.specs.Seen.{classes_seen}
use Rattle.class_slots.specs.Slots.{slot_filled}
use Rattle.class_slots.proofs.slots.fills.Given as goal

abbrev pub invariant-loop-row : goal.invariant-loop-row
invariant-loop-row l =
    (k : ℕ) (m : OwnMethod) → l.initial.row + k < l.row → slice_get (methods_of (classes_seen l.methods.table) (class_seen l.owner)) k ≡ Some m → slot_filled (classes_seen l.methods.table) (class_seen l.class) (class_seen l.owner) m ≡ true
