use Rattle.std.proofs.Common.{◌≡◌, map}
use Rattle.member_keys.specs.Seen.{place_seen}
use Rattle.set_signatures.specs.Meant.{places_told}
use Rattle.set_signatures.proofs.PartLaws.{behind, left}
use Rattle.set_signatures.proofs.parts.places.Given as goal

abbrev pub invariant-loop : goal.invariant-loop
invariant-loop l = behind l.tokens (map place_seen l.places.items) (left l.tokens l.count l.counter l.rest) ≡ places_told l.tokens l.count l.bytes
