-- Values taken off the stack, beside the machine's, and put back.
use Rattle.std.proofs.Common.{◌≡◌, ℕ, zero, suc, ◌+◌, ◌-◌, ◌<◌, ◌≤◌, Bool, true, false, ◌==◌, List, [], ◌∷◌, length, Option, Some, None, refl, sym, ap, ◌∙◌, arith}
use Rattle.std.specs.Prelude.{if◌then◌else◌, slice_get, slice_set, slice_index, unwrap_or}
use Rattle.board_types.specs.declared.value.Value.{Value as RamValue}
use Rattle.machine.specs.Data.{Id, Value, Frame, State}
use Rattle.machine.specs.Program.{Program}
use Rattle.tiny_ram.specs.Memory.{RamFrame, Memory, with_frames, variables, top_value, popped, pushed}
use Rattle.tiny_ram.specs.Region.{Keeps}
use Rattle.tiny_ram.specs.declared.memory.Ram.{Ram}
use Rattle.memory_states.proofs.Frames.{stack_size}
use Rattle.step_ends.specs.Ends.{Before}
use Rattle.step_ends.proofs.Going.{top_of}
use Rattle.step_ends.proofs.Popping.{topmost, no_top, popped_is}
use Rattle.step_numbers.specs.Taken.{Took, Takes, TookTwo, stacked, with_top}
use Rattle.step_numbers.proofs.Sights.{value_seen}

-- what an optional item holds
item_of : {A : Type 0} (o : Option (Option A)) (x : A) → unwrap_or o None ≡ Some x → o ≡ Some (Some x)
item_of None x e = absurd (cc e)
item_of (Some o) x e = ap Some e

-- an item that is written where it is
set_again : {A : Type 0} (xs : List A) (i : ℕ) (x : A) → slice_get xs i ≡ Some x → slice_set xs i x ≡ xs
set_again [] i x e = refl
set_again (y ∷ xs) zero x e = let same : y ≡ x = cc e in ap (λ z. z ∷ xs) (sym same)
set_again (y ∷ xs) (suc i) x e = ap (λ zs. y ∷ zs) (set_again xs i x e)

if_some : {A : Type 0} (b : Bool) (o : Option A) (x : A) → (if b then None else o) ≡ Some x → o ≡ Some x
if_some true o x e = absurd (cc e)
if_some false o x e = e

-- a value that is pushed where it was popped
pushed_again : (f : RamFrame) (x : RamValue) (n : ℕ) → f.depth ≡ suc n → top_value f ≡ Some x → pushed (popped f) x ≡ f
pushed_again f x n d e =
    let at : ℕ = variables f + (f.depth - 1) in
    let held : unwrap_or (slice_get f.places at) None ≡ Some x = if_some (f.depth == 0) (unwrap_or (slice_get f.places at) None) x e in
    let deep : f.depth - 1 + 1 ≡ f.depth = omega (arith, d) in
    ap (λ (ps : List (Option RamValue)). let z : RamFrame = record f { places = ps; depth = f.depth - 1 + 1 } in z) (set_again f.places at (Some x) (item_of (slice_get f.places at) x held))
    ∙ ap (λ (k : ℕ). let z : RamFrame = record f { depth = k } in z) deep

-- fewer than two values
pub short_none : (stack : List Value) → stack ≡ [] → length stack < 2
short_none stack e = let none : length stack ≡ 0 = ap length e in omega (arith, none)

module _ (p : Program) (outer : Id → ℕ → ℕ → Bool) where
  -- a pop beside the machine's stack; v is the region before it
  pub takes : (u v : Ram) (m : Memory) (s : State) (f : RamFrame) (fs : List RamFrame) (g : Frame) (gs : List Frame) → Before p outer v m s f fs g gs → Keeps u (with_frames m (popped f ∷ fs))
      → (o : Option RamValue) → o ≡ top_value f → Takes p outer u m s f fs g gs o
  takes u v m s f fs g gs b kept None e =
      let top = top_of p outer m s f fs g gs b.ram_frames b.frames b.alike in no_top p outer s.heap m.room f fs g gs top.frame (sym e)
  takes u v m s f fs g gs b kept (Some x) e =
      let top = top_of p outer m s f fs g gs b.ram_frames b.frames b.alike in
      let k = top.frame in
      let t = topmost p outer s.heap m.room f fs g gs k x (sym e) in
      let long : length g.stack ≡ suc (length t.rest) = ap length t.stack in
      let deep : f.depth ≡ suc (length t.rest) = k.depth ∙ long in
      let most : length g.stack ≤ k.of.max_stack = k.most in
      let size : slice_index f.sizes 2 ≡ k.of.max_stack = stack_size p outer s.heap m.room f fs g gs k in
      record {
        value = t.value;
        rest = t.rest;
        stack = t.stack;
        seen = value_seen m.room (f ∷ fs) x t.value t.is;
        below = record {
          keeps = kept;
          ram_frames = refl;
          frames = refl;
          alike = record { heap = b.alike.heap; frames = (popped_is p outer s.heap m.room f fs g gs k t.value t.rest t.stack, top.callers) };
        };
        room = omega (arith, deep, most, long, size);
        back = pushed_again f x (length t.rest) deep (sym e);
      }

  module _ (u v : Ram) (m : Memory) (s : State) (f : RamFrame) (fs : List RamFrame) (g : Frame) (gs : List Frame) where
    -- the second pop, after the first
    pub took_two : (x y : RamValue) (one : Took p outer v m s f fs g gs y) → Took p outer u (with_frames m (popped f ∷ fs)) (with_top s (stacked g one.rest) gs) (popped f) fs (stacked g one.rest) gs x → TookTwo p outer u m s f fs g gs (record { first = x; second = y })
    took_two x y one two = record {
      first = two.value;
      second = one.value;
      rest = two.rest;
      stack = one.stack ∙ ap (λ st. one.value ∷ st) two.stack;
      seen = two.seen;
      seen_second = one.seen;
      below = two.below;
      room = one.room;
      back = two.back;
      back_second = one.back;
    }

    pub short_one : (y : RamValue) (one : Took p outer v m s f fs g gs y) → one.rest ≡ [] → length g.stack < 2
    short_one y one e = let long : length g.stack ≡ 1 = ap length (one.stack ∙ ap (λ st. one.value ∷ st) e) in omega (arith, long)
