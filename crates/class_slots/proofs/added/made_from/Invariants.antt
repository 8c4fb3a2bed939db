use Rattle.std.proofs.Common.{◌≡◌}
use Rattle.member_keys.specs.Seen.{class_seen}
use Rattle.class_table.specs.Seen.{classes_seen}
use Rattle.class_slots.specs.Added.{made_from}
use Rattle.class_slots.proofs.MadeLaws.{made_within}
use Rattle.class_slots.proofs.added.made_from.Given as goal

abbrev pub invariant-up : goal.invariant-up
invariant-up l = record { rest : made_from (classes_seen l.table) (class_seen l.fn.class) ≡ made_within (classes_seen l.table) l.left (class_seen l.class) }

abbrev pub decreases-up : goal.decreases-up
decreases-up l = l.left
