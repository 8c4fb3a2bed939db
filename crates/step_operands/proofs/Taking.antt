-- Values taken off the stack, beside the machine's, and put back.
use Rattle.std.proofs.Common.{◌≡◌, ℕ, zero, suc, ◌+◌, ◌-◌, ◌<◌, ◌≤◌, Bool, true, false, ◌==◌, List, [], ◌∷◌, length, Option, Some, None, refl, sym, ap, ◌∙◌, subst, arith}
use Rattle.std.specs.Prelude.{if◌then◌else◌, slice_get, slice_set, slice_index, unwrap_or}
use Rattle.board_types.specs.declared.value.Value.{Value as RamValue}
use Rattle.machine.specs.Data.{Id, Value, Frame, State}
use Rattle.machine.specs.Program.{Program}
use Rattle.machine.specs.Rows.{on_top, on_two, on_three}
use Rattle.tiny_ram.specs.Memory.{RamFrame, Memory, with_frames, variables, top_value, popped, pushed}
use Rattle.tiny_ram.specs.Region.{Keeps}
use Rattle.tiny_ram.specs.declared.memory.Ram.{Ram}
use Rattle.memory_states.specs.Values.{IsValue}
use Rattle.memory_states.proofs.Frames.{stack_size, value_over}
use Rattle.step_ends.specs.Ends.{Before}
use Rattle.step_ends.proofs.Going.{top_of}
use Rattle.step_ends.proofs.Popping.{topmost, no_top, popped_is}
use Rattle.step_operands.specs.declared.stack.Pair.{Pair}
use Rattle.step_operands.specs.declared.stack.Triple.{Triple}
use Rattle.step_operands.specs.Below.{stacked, IsTop, Below, Took, Takes, TookTwo, TookThree}

-- ---- a value that is pushed where it was popped

item_of : {A : Type 0} (o : Option (Option A)) (x : A) → unwrap_or o None ≡ Some x → o ≡ Some (Some x)
item_of None x e = absurd (cc e)
item_of (Some o) x e = ap Some e

set_again : {A : Type 0} (xs : List A) (i : ℕ) (x : A) → slice_get xs i ≡ Some x → slice_set xs i x ≡ xs
set_again [] i x e = refl
set_again (y ∷ xs) zero x e = let same : y ≡ x = cc e in ap (λ z. z ∷ xs) (sym same)
set_again (y ∷ xs) (suc i) x e = ap (λ zs. y ∷ zs) (set_again xs i x e)

if_some : {A : Type 0} (b : Bool) (o : Option A) (x : A) → (if b then None else o) ≡ Some x → o ≡ Some x
if_some true o x e = absurd (cc e)
if_some false o x e = e

pub pushed_again : (h : RamFrame) (x : RamValue) → IsTop h x → pushed (popped h) x ≡ h
pushed_again h x t =
    let at : ℕ = variables h + (h.depth - 1) in
    let held : unwrap_or (slice_get h.places at) None ≡ Some x = if_some (h.depth == 0) (unwrap_or (slice_get h.places at) None) x t.top in
    let some = t.some in
    let deep : h.depth - 1 + 1 ≡ h.depth = omega (arith, some) in
    ap (λ (ps : List (Option RamValue)). let z : RamFrame = record h { places = ps; depth = h.depth - 1 + 1 } in z) (set_again h.places at (Some x) (item_of (slice_get h.places at) x held))
    ∙ ap (λ (k : ℕ). let z : RamFrame = record h { depth = k } in z) deep

module _ (p : Program) (outer : Id → ℕ → ℕ → Bool) where
  -- before the first pop
  pub below_of : (r : Ram) (m : Memory) (s : State) (f : RamFrame) (fs : List RamFrame) (g : Frame) (gs : List Frame) → Before p outer r m s f fs g gs → Below p outer r m s fs gs f g
  below_of r m s f fs g gs b =
      let top = top_of p outer m s f fs g gs b.ram_frames b.frames b.alike in
      record {
        keeps = subst (λ (z : List RamFrame). Keeps r (with_frames m z)) b.ram_frames b.keeps;
        things = b.alike.heap;
        frame = top.frame;
        callers = top.callers;
      }

  module _ (u v : Ram) (m : Memory) (s : State) (fs : List RamFrame) (gs : List Frame) where
    -- a pop beside the machine's stack; v is the region before it
    pub takes : (h : RamFrame) (k : Frame) → Below p outer v m s fs gs h k → Keeps u (with_frames m (popped h ∷ fs)) → (o : Option RamValue) → o ≡ top_value h → Takes p outer u m s fs gs h k o
    takes h k b kept None e = λ go. ap (λ st. on_top st go) (no_top p outer s.heap m.room h fs k gs b.frame (sym e))
    takes h k b kept (Some x) e =
        let q = b.frame in
        let t = topmost p outer s.heap m.room h fs k gs q x (sym e) in
        let long : length k.stack ≡ suc (length t.rest) = ap length t.stack in
        let deep : h.depth ≡ suc (length t.rest) = q.depth ∙ long in
        let most : length k.stack ≤ q.of.max_stack = q.most in
        let size : slice_index h.sizes 2 ≡ q.of.max_stack = stack_size p outer s.heap m.room h fs k gs q in
        record {
          value = t.value;
          rest = t.rest;
          on = λ go. ap (λ st. on_top st go) t.stack;
          at = ap (λ (st : List Value). slice_get st 0) t.stack;
          later = λ i. ap (λ (st : List Value). slice_get st (suc i)) t.stack;
          is = value_over m.room h fs h.places h.place (h.depth - 1) x t.value t.is;
          top = record { top = sym e; some = omega (arith, deep); fits = omega (arith, deep, most, long, size) };
          below = record {
            keeps = kept;
            things = b.things;
            frame = popped_is p outer s.heap m.room h fs k gs q t.value t.rest t.stack;
            callers = b.callers;
          };
        }

    -- the second pop, after the first; v is the region between them
    pub took_two : (h : RamFrame) (k : Frame) (x y : RamValue) (one : Took p outer v m s fs gs h k y) → Took p outer u m s fs gs (popped h) (stacked k one.rest) x → TookTwo p outer u m s fs gs h k (record { first = x; second = y })
    took_two h k x y one two = record {
      first = two.value;
      second = one.value;
      rest = two.rest;
      on = λ go. one.on (λ b below. on_top below (λ a rest. go a b rest)) ∙ two.on (λ a rest. go a one.value rest);
      first_at = one.later 0 ∙ two.at;
      is_first = two.is;
      is_second = value_over m.room (popped h) fs h.places h.place (h.depth - 1 - 1) y one.value one.is;
      top_second = one.top;
      top_first = two.top;
      below = two.below;
    }

    pub no_two : (h : RamFrame) (k : Frame) (y : RamValue) (one : Took p outer v m s fs gs h k y) → ((go : Value → List Value → Option State) → on_top one.rest go ≡ None) → (go : Value → Value → List Value → Option State) → on_two k.stack go ≡ None
    no_two h k y one none go = one.on (λ b below. on_top below (λ a rest. go a b rest)) ∙ none (λ a rest. go a one.value rest)

    -- two pops, after the first
    pub took_three : (h : RamFrame) (k : Frame) (taken : Pair) (z : RamValue) (one : Took p outer v m s fs gs h k z) → TookTwo p outer u m s fs gs (popped h) (stacked k one.rest) taken → TookThree p outer u m s fs gs h k (record { first = taken.first; second = taken.second; third = z })
    took_three h k taken z one two = record {
      first = two.first;
      second = two.second;
      third = one.value;
      rest = two.rest;
      on = λ go. one.on (λ c below. on_two below (λ a b rest. go a b c rest)) ∙ two.on (λ a b rest. go a b one.value rest);
      first_at = one.later 1 ∙ two.first_at;
      third_at = one.at;
      is_first = two.is_first;
      is_second = two.is_second;
      is_third = value_over m.room (popped (popped h)) fs h.places h.place (h.depth - 1 - 1 - 1) z one.value (value_over m.room (popped h) fs h.places h.place (h.depth - 1 - 1) z one.value one.is);
      top_third = one.top;
      top_second = two.top_second;
      top_first = two.top_first;
      below = two.below;
    }

    pub no_three : (h : RamFrame) (k : Frame) (z : RamValue) (one : Took p outer v m s fs gs h k z) → ((go : Value → Value → List Value → Option State) → on_two one.rest go ≡ None) → (go : Value → Value → Value → List Value → Option State) → on_three k.stack go ≡ None
    no_three h k z one none go = one.on (λ c below. on_two below (λ a b rest. go a b c rest)) ∙ none (λ a b rest. go a b one.value rest)
