use Rattle.std.proofs.Common.{◌≡◌, map, drop}
use Rattle.wire_script.specs.Net.{each, packet_number}
use Rattle.wire_script.proofs.Each.{with_front}
use Rattle.wire_script.proofs.net.numbers_of.Given as goal

abbrev pub invariant-loop-word : goal.invariant-loop-word
invariant-loop-word l = with_front l.found.items (each packet_number (map (λ word. word.now) (drop l.word-index l.words))) ≡ each packet_number (map (λ word. word.now) l.words)
