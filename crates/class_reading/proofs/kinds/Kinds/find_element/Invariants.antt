use Rattle.std.proofs.Common.{◌≡◌, map, drop}
use Rattle.member_keys.specs.Seen.{class_seen}
use Rattle.class_reading.specs.Base.{basic_seen}
use Rattle.class_reading.proofs.BaseLaws.{element_by}
use Rattle.class_reading.proofs.kinds.Kinds.find_element.Given as goal

abbrev pub invariant-loop-basic : goal.invariant-loop-basic
invariant-loop-basic l =
    element_by (class_seen l.class) (map basic_seen l.basic-items) ≡ element_by (class_seen l.class) (map basic_seen (drop l.basic-index l.basic-items))
