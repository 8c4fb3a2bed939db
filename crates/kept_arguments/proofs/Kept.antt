-- Arguments that are kept in place, beside the machine's.
use Rattle.std.proofs.Common.{◌≡◌, ℕ, ◌+◌, ◌-◌, ◌<◌, ◌≤◌, Bool, true, false, List, [], ◌∷◌, length, Option, Some, None, refl, sym, ap, ◌∙◌, subst, arith}
use Rattle.std.specs.Prelude.{sum, slice_get, unwrap_or}
use Rattle.std.proofs.lemmas.Option.{slice_get_within}
use Rattle.board_types.specs.declared.value.Value.{Value as RamValue}
use Rattle.board_types.specs.declared.value.Value.TheVariants.{Ref}
use Rattle.machine.specs.Data.{Id, Value, Thing, Frame, State}
use Rattle.machine.specs.Program.{Program, Method}
use Rattle.machine.specs.Throw.{on_some}
use Rattle.machine.specs.Rows.{Taken, take_arguments, keep_all}
use Rattle.kept_values.specs.declared.keeping.PlaceKind.{PlaceKind}
use Rattle.kept_values.specs.Keeping.{kept_as}
use Rattle.tiny_ram.specs.Memory.{RamFrame, Memory, variables}
use Rattle.tiny_ram.specs.declared.memory.Ram.{Ram}
use Rattle.memory_states.specs.Values.{IsValue}
use Rattle.memory_states.specs.States.{place_held, slot_index, IsSlot, IsMachineFrame}
use Rattle.memory_states.proofs.Frames.{value_over, arguments_kept, locals_kept, stack_size}
use Rattle.step_calls.specs.declared.arguments.Given.{Given}
use Rattle.step_calls.specs.Callees.{HasPlaces}
use Rattle.step_calls.specs.Arguments.{held_at, value_in, value_of, LacksKind, AllKept, IsGiven}
use Rattle.step_calls.proofs.Taking.{Taking, taking}
use Rattle.step_calls.proofs.Calling.{off_stack, lacking, keeping}
use Rattle.kept_arguments.specs.Kept.{IsOf, KeptInPlace, LacksPlace, KeepsInPlace, KeptArguments, KeepsArguments}

-- a frame without the topmost values of its stack, whatever their places hold
module _ (p : Program) (outer : Id → ℕ → ℕ → Bool) (heap : List Thing) (room : ℕ) (f : RamFrame) (fs : List RamFrame) (g : Frame) (gs : List Frame) (k : IsMachineFrame p outer heap room f fs g gs) (n d : ℕ) (rest : List Value) (at : (i : ℕ) → slice_get rest i ≡ slice_get g.stack (n + i)) (many : n + length rest ≡ length g.stack) (below : d ≡ f.depth - n)
    (ps : List (Option RamValue)) (count : length ps ≡ length f.places) (lower : (j : ℕ) → j < variables f + d → slice_get ps j ≡ slice_get f.places j) (upper : (j : ℕ) → variables f + d + n ≤ j → slice_get ps j ≡ slice_get f.places j) where
  pub rest_is : IsMachineFrame p outer heap room (record f { places = ps; depth = d }) fs (record g { stack = rest }) gs
  rest_is = record {
    of = k.of;
    is = k.is;
    method = k.method;
    initialiser = k.initialiser;
    place = k.place;
    place_fits = k.place_fits;
    sizes = k.sizes;
    count = count ∙ k.count;
    argument_count = k.argument_count;
    local_count = k.local_count;
    slot_count = k.slot_count;
    depth = let deep = k.depth in omega (arith, deep, many, below);
    most = let most = k.most in omega (arith, most, many);
    arguments = arguments_kept p outer heap room f fs g gs k ps f.place d (λ i l. lower i (omega (arith, l)));
    locals = locals_kept p outer heap room f fs g gs k ps f.place d (λ i l. lower i (omega (arith, l)));
    stack = λ i w q.
        let old = k.stack (n + i) w (sym (at i) ∙ q) in
        let within : i < length rest = slice_get_within rest i w q in
        let deep = k.depth in
        let same : variables f + (d - (i + 1)) ≡ variables f + (f.depth - (n + i + 1)) = omega (arith, below) in
        let low : variables f + (d - (i + 1)) < variables f + d = omega (arith, within, many, below, deep) in (
          old.0,
          ap (λ o. unwrap_or o None) (lower (variables f + (d - (i + 1))) low) ∙ ap (place_held f) same ∙ old.1,
          value_over room f fs ps f.place d old.0 w old.2,
        );
    slots = λ j slot q.
        let deep = k.depth in
        let most = k.most in
        let size = stack_size p outer heap room f fs g gs k in
        let high : variables f + d + n ≤ slot_index f j = omega (arith, deep, most, size, many, below) in
        subst (λ (o : Option RamValue). IsSlot p outer heap k.of g.method g.initialiser gs j o slot) (sym (ap (λ o. unwrap_or o None) (upper (slot_index f j) high))) (k.slots j slot q);
  }

module _ (p : Program) (outer : Id → ℕ → ℕ → Bool) (u : Ram) (m : Memory) (s : State) (f : RamFrame) (fs : List RamFrame) (g : Frame) (gs : List Frame) (k : IsMachineFrame p outer s.heap m.room f fs g gs)
    (id : Id) (of : Method) (n : ℕ) (own : IsOf p id of n) (kinds : ℕ → PlaceKind) (places : HasPlaces p id kinds) (x : Given) (given : IsGiven m f n x) where
  off : Taking (length of.arguments) g.stack []
  off = let one = given.enough in let two = own.count in let three = k.depth in taking (length of.arguments) g.stack [] (omega (arith, one, two, three))

  held_is : (i : ℕ) → value_of f x i ≡ held_at f (x.first + i)
  held_is i = ap (λ (o : Option RamValue). value_in f x.first o i) given.whole

  value_at : (i : ℕ) (v : Value) → i < length of.arguments → slice_get off.arguments i ≡ Some v → IsValue m.room (f ∷ fs) (value_of f x i) v
  value_at i v l q = subst (λ (r : RamValue). IsValue m.room (f ∷ fs) r v) (sym (held_is i)) (off_stack p outer s.heap m.room f fs g gs k (length of.arguments) n x.first off given.first given.enough own.count i v l q)

  count : length off.arguments ≡ length of.arguments
  count = let all = off.count in omega (arith, all)

  lacks : LacksPlace u m f fs kinds x.first n → on_some (take_arguments (length of.arguments) g.stack []) (λ t. keep_all of.arguments t.arguments) ≡ None
  lacks h =
      let kind : LacksKind f kinds x n = record { index = h.index; within = h.within; none = ap (kept_as (kinds h.index)) (held_is h.index) ∙ h.none } in
      ap (λ o. on_some o (λ (t : Taken Value). keep_all of.arguments t.arguments)) off.is
      ∙ lacking p m.room f fs id of own.is kinds places x n own.count off.arguments count value_at kind

  keeps : KeptInPlace u m f fs kinds x.first n → KeptArguments p outer u m s f fs g gs of x
  keeps h =
      let all : AllKept f kinds x n = (λ i l. let one = h.each i l in record { value = one.kept.value; is = ap (kept_as (kinds i)) (held_is i) ∙ one.kept.is }) in
      let r = keeping p m.room f fs id of own.is kinds places x n own.count off.arguments count value_at all in
      let first = given.first in
      let less = given.below in
      let deep = given.enough in
      let many = own.count in
      record {
        frame = record f { places = h.places };
        sizes = refl;
        deep = refl;
        keeps = h.keeps;
        taken = record { arguments = off.arguments; rest = off.rest };
        took = off.is;
        values = r.values;
        kept = r.is;
        lie = λ i v q.
            let within : i < length r.values = slice_get_within r.values i v q in
            let size = r.count in
            let l : i < n = omega (arith, within, size, many) in
            let one = h.each i l in
            subst (λ (z : RamValue). IsValue m.room (record f { places = h.places } ∷ fs) z v) (sym (ap (λ o. unwrap_or (unwrap_or o None) (Ref 0)) one.here))
            (value_over m.room f fs h.places f.place f.depth one.kept.value v (r.each i v q l));
        rest = rest_is p outer s.heap m.room f fs g gs k (length of.arguments) x.below off.rest off.rest_at off.rest_count (omega (arith, less, many)) h.places h.count
            (λ j l. h.lower j (omega (arith, l, first, less)))
            (λ j l. h.upper j (omega (arith, l, first, less, many)));
      }

  pub by_result : (b : Bool) → KeepsInPlace u m f fs kinds x.first n b → KeepsArguments p outer u m s f fs g gs of x b
  by_result true h = keeps h
  by_result false h = lacks h

pub places_are : (p : Program) (outer : Id → ℕ → ℕ → Bool) (heap : List Thing) (room : ℕ) (f : RamFrame) (fs : List RamFrame) (g : Frame) (gs : List Frame) → IsMachineFrame p outer heap room f fs g gs → length f.places ≡ sum f.sizes
places_are p outer heap room f fs g gs k = let sizes = ap sum k.sizes in let count = k.count in omega (arith, sizes, count)
