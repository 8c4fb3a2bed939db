use Rattle.std.proofs.Common.{◌≡◌, ℕ, ◌<◌, true, Some}
use Rattle.std.specs.Prelude.{slice_get}
use Rattle.member_keys.specs.declared.keys.ClassId.{ClassId}
use Rattle.member_keys.specs.Seen.{class_seen}
use Rattle.class_table.specs.Seen.{classes_seen}
use Rattle.class_rules.specs.Rules.{fills}
use Rattle.class_slots.proofs.slots.fills_each.Given as goal

abbrev pub invariant-loop-owner : goal.invariant-loop-owner
invariant-loop-owner l =
    (k : ℕ) (d : ClassId) → k < l.owner-index → slice_get l.owners k ≡ Some d → fills (classes_seen l.methods.table) (class_seen l.class) (class_seen d) ≡ true
