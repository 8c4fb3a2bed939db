use Rattle.std.proofs.Common.{◌≡◌, false, take}
use Rattle.std.specs.List.{list_any}
use Rattle.machine.specs.Data.{id_eq}
use Rattle.member_keys.specs.Seen.{class_seen}
use Rattle.tiny_types.proofs.bound.is_among.Given as goal

abbrev pub invariant-loop-class : goal.invariant-loop-class
invariant-loop-class l = list_any (λ c. id_eq (class_seen l.wanted) (class_seen c)) (take l.class-index l.classes) ≡ false
