use Rattle.std.proofs.Common.{◌≡◌, ℕ, List, length, drop}
use Rattle.machine.specs.Texts.{compared_texts}
use Rattle.tiny_ram.specs.Memory.{Memory, IsEntry}
use Rattle.tiny_ram.specs.Region.{Keeps}
use Rattle.tiny_native.specs.Seen.{text_entry}
use Rattle.tiny_native.proofs.strings.units_order.Given as goal

-- the order is that of what is left of the two
abbrev pub invariant-loop-k : goal.invariant-loop-k
invariant-loop-k l = (m : Memory) (xs ys : List ℕ) → Keeps l.ram m → IsEntry m l.x.thing (text_entry xs) → IsEntry m l.y.thing (text_entry ys) → l.x.count ≡ length xs → l.y.count ≡ length ys → compared_texts (drop l.k xs) (drop l.k ys) ≡ compared_texts xs ys
