-- Arrays that are filled with numbers, and what the machine makes of it.
use Rattle.std.proofs.Common.{◌≡◌, ℕ, ◌+◌, ◌-◌, ◌*◌, ◌/◌, ◌^◌, ◌≤◌, List, ◌∷◌, length, Option, Some, None, sym, ap, ◌∙◌, arith}
use Rattle.std.proofs.lemmas.List.{length-map}
use Rattle.cil_opcodes.specs.declared.shape.IntegerType.{IntegerType}
use Rattle.cil_opcodes.specs.declared.shape.IntegerType.TheVariants.{I1, U1, I2, U2, I4, U4, I8, U8}
use Rattle.board_types.specs.declared.value.Shape.{Shape}
use Rattle.machine.specs.Data.{Id, CliType, Bits, bytes_of, cell_of, Value, Handle, Thing, Frame, State}
use Rattle.machine.specs.Program.{Program}
use Rattle.machine.specs.Numbers.{as_handle}
use Rattle.machine.specs.Throw.{on_some}
use Rattle.machine.specs.Rows.{on_thing, on_elements}
use Rattle.machine.specs.Natives.{initialise, initialize_array}
use Rattle.tiny_ram.specs.declared.memory.Ram.{Ram}
use Rattle.tiny_ram.specs.Things.{Entry, Layout, Packed, layout_of, cells_in, entry_cells}
use Rattle.tiny_ram.specs.Memory.{Memory, IsEntry, frames_cells}
use Rattle.tiny_ram.specs.Region.{Keeps}
use Rattle.tiny_ram.proofs.Puts.{Here, here}
use Rattle.tiny_ram.proofs.Stacks.{stacked-end}
use Rattle.tiny_native.specs.Seen.{Scene, seen}
use Rattle.tiny_native.specs.Copies.{IsElements, elements_of}
use Rattle.tiny_native.specs.declared.arrays.ArrayAt.{ArrayAt}
use Rattle.tiny_native.proofs.Held.{entry_count}

-- an array's count is that of its elements
pub counted : (s : Scene) (u : Ram) (x : ArrayAt) (e : Entry) → Keeps u s.memory → IsElements s x e → length (elements_of s e) ≡ x.shape.count
counted s u x e k h = length-map e.places (seen s.leads) ∙ entry_count u s.memory x.thing e k h.is ∙ sym (ap (λ (t : Shape). t.count) h.same)

some_bytes : (integer : IntegerType) (n : ℕ) → n ≤ n * bytes_of integer
some_bytes I1 n = omega arith
some_bytes U1 n = omega arith
some_bytes I2 n = omega arith
some_bytes U2 n = omega arith
some_bytes I4 n = omega arith
some_bytes U4 n = omega arith
some_bytes I8 n = omega arith
some_bytes U8 n = omega arith

fits : (n bytes cells first end low behind room : ℕ) → n ≤ bytes → cells ≡ 1 + (bytes + 11) / 12 → 3 * first + 3 * cells ≤ end → end ≤ low → low + 3 * behind ≡ 3 * room → room ≤ 2 ^ 22 → n ≤ 12 * 2 ^ 22
fits n bytes cells first end low behind room a b c d e f = omega (arith, a, b, c, d, e, f)

-- an array has no more numbers than bytes lie in a memory's cells
pub few_elements : (u : Ram) (m : Memory) (thing : ℕ) (e : Entry) (integer : IntegerType) → Keeps u m → IsEntry m thing e → layout_of e.shape ≡ Packed (Bits integer) → e.shape.count ≤ 12 * 2 ^ 22
few_elements u m thing e integer k h p =
    let t : Here u.words.items u.heap thing e = here u.words.items u.heap u.hot m thing e k h in
    fits e.shape.count (e.shape.count * bytes_of integer) (entry_cells e) (thing - 1) u.heap k.low (frames_cells m.frames) m.room
    (some_bytes integer e.shape.count) (ap (λ (x : Layout). cells_in x e.shape.count) p) t.inside k.order
    (stacked-end u.words.items (3 * m.room) k.low u.hot m.frames k.stacked) k.most

module _ (p : Program) (s : State) (f : Frame) (fs : List Frame) (next : ℕ) (rest more : List Value) where
  abbrev pub set_in : List ℕ → ℕ → CliType → List Value → Option State
  set_in bytes object element values = on_some (cell_of element) (λ cell. initialise p s f fs next rest object element values bytes cell)

  abbrev pub set_on : List ℕ → ℕ → Thing → Option State
  set_on bytes object x = on_elements x (set_in bytes object)

  pub set_no_handle : (v w : Value) → as_handle w ≡ None → initialize_array p s f fs next rest (v ∷ w ∷ more) ≡ None
  unfolding initialize_array
  set_no_handle v w e = ap (λ (o : Option Id). on_some o (λ field. on_some (p.bytes field) (λ bytes. on_thing p s v (set_on bytes)))) e

  pub set_from : (v : Value) (field : Id) (bytes : List ℕ) → p.bytes field ≡ Some bytes → initialize_array p s f fs next rest (v ∷ Handle field ∷ more) ≡ on_thing p s v (set_on bytes)
  unfolding initialize_array
  set_from v field bytes e = ap (λ (o : Option (List ℕ)). on_some o (λ bs. on_thing p s v (set_on bs))) e
