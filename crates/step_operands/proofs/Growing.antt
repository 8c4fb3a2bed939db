-- States with a thing more, and their cells.
use Rattle.std.proofs.Common.{◌≡◌, ℕ, suc, ◌+◌, ◌<◌, ◌≤◌, Bool, List, [], ◌∷◌, ◌++◌, length, Option, Some, None, refl, sym, ap, ◌∙◌, subst, arith}
use Rattle.std.specs.Prelude.{nat_le, if◌then◌else◌, slice_index}
use Rattle.std.proofs.lemmas.Bool.{le-leb}
use Rattle.machine.specs.Data.{Id, end_of, thing_size, Value, Object, Thing, Frame, State}
use Rattle.machine.specs.Program.{Program, Method}
use Rattle.machine.specs.Throw.{on_some, goes}
use Rattle.machine.specs.Rows.{frames_cells}
use Rattle.machine.specs.Trace.{cells}
use Rattle.tiny_ram.specs.Things.{Entry, entry_cells}
use Rattle.tiny_ram.specs.Memory.{RamFrame, Memory, heap_cells, used, with_frames}
use Rattle.tiny_ram.specs.declared.memory.Ram.{Ram}
use Rattle.memory_states.specs.Values.{IsThing}
use Rattle.memory_states.proofs.Frames.{stack_size}
use Rattle.memory_states.proofs.Heaps.{size_is, used_is}
use Rattle.step_ends.specs.Ends.{LacksCells}
use Rattle.step_operands.specs.Below.{Below, stacked}
use Rattle.step_operands.specs.Changed.{with_thing}

end_more : (xs : List Thing) (x : Thing) → end_of (xs ++ x ∷ []) ≡ end_of xs + thing_size x
end_more [] x = omega arith
end_more (y ∷ xs) x = let rest = end_more xs x in omega (arith, rest)

module _ (p : Program) (outer : Id → ℕ → ℕ → Bool) where
  goes_to : (s : State) (g : Frame) (gs : List Frame) (of : Method) (place : ℕ) (stack : List Value) → p.method g.method ≡ Some of → length stack ≤ of.max_stack → goes p s g gs place stack ≡ Some (record s { frames = record g { place = place; stack = stack } ∷ gs })
  unfolding goes
  goes_to s g gs of place stack is fits =
      ap (λ (o : Option Method). on_some o (λ m. if nat_le (length stack) m.max_stack then Some (let t : State = record s { frames = record g { place = place; stack = stack } ∷ gs } in t) else None)) is
      ∙ ap (λ (b : Bool). if b then Some (let t : State = record s { frames = record g { place = place; stack = stack } ∷ gs } in t) else None) (le-leb (length stack) of.max_stack fits)

  -- the cells of the state before it; the frame's stack and place don't count
  cells_below : (u : Ram) (m : Memory) (s : State) (fs : List RamFrame) (gs : List Frame) (h : RamFrame) (g : Frame) (rest : List Value) → Below p outer u m s fs gs h (stacked g rest) → used (with_frames m (h ∷ fs)) ≡ end_of s.heap + frames_cells p (stacked g rest ∷ gs)
  cells_below u m s fs gs h g rest b = used_is p outer (with_frames m (h ∷ fs)) (let t : State = record s { frames = stacked g rest ∷ gs } in t) (record { heap = b.things; frames = (b.frame, b.callers) })

  -- a thing for which the cells don't do
  pub lacks : (u : Ram) (m : Memory) (s : State) (fs : List RamFrame) (gs : List Frame) (h : RamFrame) (g : Frame) (rest : List Value) (x : Thing) (e : Entry) → Below p outer u m s fs gs h (stacked g rest) → h.depth < slice_index h.sizes 2 → IsThing p m.room e x → m.room < used (with_frames m (h ∷ fs)) + entry_cells e
      → (next : ℕ) (v : Value) → LacksCells p outer m.room (goes p (with_thing s x) g gs next (v ∷ rest))
  lacks u m s fs gs h g rest x e b room is over next v =
      let k = b.frame in
      let size : slice_index h.sizes 2 ≡ k.of.max_stack = stack_size p outer s.heap m.room h fs (stacked g rest) gs k in
      let depth : h.depth ≡ length rest = k.depth in
      let all = cells_below u m s fs gs h g rest b in
      let one = size_is p m.room e x is in
      let more = end_more s.heap x in
      let t : State = record (with_thing s x) { frames = record g { place = next; stack = v ∷ rest } ∷ gs } in
      let count : cells p t ≡ end_of s.heap + thing_size x + frames_cells p (stacked g rest ∷ gs) = ap (λ n. n + frames_cells p (stacked g rest ∷ gs)) more in
      record {
        state = t;
        is = goes_to (with_thing s x) g gs k.of next (v ∷ rest) k.is (omega (arith, room, size, depth));
        more = omega (arith, over, all, one, count);
      }
