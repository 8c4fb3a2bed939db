use Rattle.std.proofs.Common.{◌≡◌, ◌++◌, map, take}
use Rattle.classes.specs.Queries.{place_of as place_in}
use Rattle.member_keys.specs.Seen.{place_seen}
use Rattle.class_table.specs.Seen.{classes_seen}
use Rattle.method_facts.specs.Places.{place_to}
use Rattle.method_facts.proofs.places.place_types.Given as goal

abbrev pub invariant-loop-key : goal.invariant-loop-key
invariant-loop-key l = l.places.items ≡ l.fn.places.items ++ map place_to (map (place_in (classes_seen l.table)) (map place_seen (take l.key-index l.keys)))
