-- An element lies inside its array, and an index names a part.
use Rattle.std.proofs.Common.{◌≡◌, ℕ, ◌+◌, ◌*◌, ◌/◌, ◌<◌, ◌≤◌, Bool, true, false, ◌==◌, refl, arith}
use Rattle.std.specs.Prelude.{nat_lt, if◌then◌else◌}
use Rattle.std.proofs.lemmas.Bool.{ltb-true}
use Rattle.cil_opcodes.specs.declared.shape.IntegerType.TheVariants.{I1, U1, I2, U2, I4, U4, I8, U8}
use Rattle.machine.specs.Data.{Cell, Bits, Refers, cell_bytes}
use Rattle.ram_words.specs.Elements.{element_end}
use Rattle.tiny_ram.specs.declared.parts.Part.TheVariants.{Slot, CodePlace, Depth, Initialiser, Past}
use Rattle.tiny_ram.specs.Memory.{part_of}

pub element_room : (k : Cell) (n i : ℕ) → i < n → element_end k i ≤ 3 * ((n * cell_bytes k + 11) / 12)
element_room (Bits I1) n i l = omega arith
element_room (Bits U1) n i l = omega arith
element_room (Bits I2) n i l = omega arith
element_room (Bits U2) n i l = omega arith
element_room (Bits I4) n i l = omega arith
element_room (Bits U4) n i l = omega arith
element_room (Bits I8) n i l = omega arith
element_room (Bits U8) n i l = omega arith
element_room Refers n i l = omega arith

pub slot_inside : (n i : ℕ) → part_of n i ≡ Slot → i < n
slot_inside n i e = at (nat_lt i n) refl (i == n) (i == n + 1) (i == n + 2) e
  where
    at : (a : Bool) → nat_lt i n ≡ a → (b d k : Bool) → (if a then Slot else (if b then CodePlace else (if d then Depth else (if k then Initialiser else Past)))) ≡ Slot → i < n
    at true q b d k h = ltb-true i n q
    at false q true d k h = absurd (cc h)
    at false q false true k h = absurd (cc h)
    at false q false false true h = absurd (cc h)
    at false q false false false h = absurd (cc h)
