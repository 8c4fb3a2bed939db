-- A frame that changes, beside the machine's.
use Rattle.std.specs.Int.{w32, cast_signed}
use Rattle.std.proofs.Common.{◌≡◌, ◌≢◌, inl, inr, ℕ, ℤ, zero, suc, ◌+◌, ◌-◌, ◌^◌, ◌<◌, Bool, true, false, ◌==◌, List, [], ◌∷◌, length, Option, Some, None, refl, sym, ap, ◌∙◌, subst, arith}
use Rattle.std.specs.Prelude.{◌⊎◌, nat_eq, if◌then◌else◌, slice_get, slice_set, slice_index, unwrap_or}
use Rattle.std.proofs.lemmas.Bool.Decides.{eqb_tells}
use Rattle.std.proofs.lemmas.List.{length-set}
use Rattle.std.proofs.lemmas.Option.{slice_get_within}
use Rattle.board_types.specs.declared.value.RamPlace.{RamPlace}
use Rattle.board_types.specs.declared.value.Value.{Value as RamValue}
use Rattle.board_types.specs.declared.value.Value.TheVariants as ram
use Rattle.machine.specs.Data.{Id, Spot, InArgument, InLocal, InObject, Value, Int, Long, Null, Object, Handle, Pointer, Thing, Slot, Frame}
use Rattle.machine.specs.Program.{Program}
use Rattle.machine.specs.Numbers.{zero_place}
use Rattle.tiny_ram.specs.Memory.{RamFrame, innermost, frame_at, variables, pushed}
use Rattle.memory_states.specs.Values.{IsLocal, IsSpot, IsValue, IsHeld}
use Rattle.memory_states.specs.States.{place_held, argument_held, local_held, stack_held, slot_held, PlacesAre, IsSlot, IsMachineFrame}
use Rattle.memory_states.proofs.Lists.{set_here, set_elsewhere}

some_same : {A : Type 0} (x y : A) → Some x ≡ Some y → x ≡ y
some_same x y e = cc e

-- the frame with other things in its places, at another place in the code and with another depth
abbrev pub changed : RamFrame → List (Option RamValue) → ℤ → ℕ → RamFrame
changed f places place depth = record f { places = places; place = place; depth = depth }

-- what a frame's values lead to is there after it has changed
module _ (room : ℕ) (f : RamFrame) (fs : List RamFrame) (ps : List (Option RamValue)) (place : ℤ) (d : ℕ) where
  local_over : (at : RamPlace) (n : ℕ) → IsLocal room (f ∷ fs) at n → IsLocal room (changed f ps place d ∷ fs) at n
  local_over at n k = by (innermost room (f ∷ fs) == at.thing) refl k.there
    where
      by : (b : Bool) → (innermost room (f ∷ fs) == at.thing) ≡ b → (if b then Some f else frame_at room fs at.thing) ≡ Some k.frame → IsLocal room (changed f ps place d ∷ fs) at n
      by true q e =
          let same : f ≡ k.frame = cc e in
          record {
            frame = changed f ps place d;
            there = ap (λ (b : Bool). if b then Some (changed f ps place d) else frame_at room fs at.thing) q;
            index = k.index ∙ ap (λ (z : RamFrame). slice_index z.sizes 0 + n) (sym same);
          }
      by false q e = record {
        frame = k.frame;
        there = ap (λ (b : Bool). if b then Some (changed f ps place d) else frame_at room fs at.thing) q ∙ e;
        index = k.index;
      }

  spot_over : (at : RamPlace) (x : Spot) → IsSpot room (f ∷ fs) at x → IsSpot room (changed f ps place d ∷ fs) at x
  spot_over at (InArgument depth n) h = h
  spot_over at (InLocal depth n) h = (h.0, local_over at n h.1)
  spot_over at (InObject object n) h = h

  pub value_over : (r : RamValue) (v : Value) → IsValue room (f ∷ fs) r v → IsValue room (changed f ps place d ∷ fs) r v
  value_over (ram.Pointer at) (Pointer cell spot) h = (h.0, spot_over at spot h.1)
  value_over (ram.Int n) (Int k) h = h
  value_over (ram.Long n) (Long k) h = h
  value_over (ram.Ref n) Null h = h
  value_over (ram.Ref n) (Object k) h = h
  value_over (ram.Handle field) (Handle k) h = h
  value_over _ _ h = absurd h

  pub held_over : (unput : Value) (r : Option RamValue) (v : Value) → IsHeld room (f ∷ fs) unput r v → IsHeld room (changed f ps place d ∷ fs) unput r v
  held_over unput None v h = h
  held_over unput (Some r) v h = value_over r v h

-- ---- the places of a frame that is the machine's

module _ (p : Program) (outer : Id → ℕ → ℕ → Bool) (heap : List Thing) (room : ℕ) (f : RamFrame) (fs : List RamFrame) (g : Frame) (gs : List Frame) (k : IsMachineFrame p outer heap room f fs g gs) where
  first_sizes : slice_index f.sizes 0 ≡ length k.of.arguments
  first_sizes = ap (λ (z : List ℕ). slice_index z 0) k.sizes

  pub variables_are : variables f ≡ length k.of.arguments + length k.of.locals
  variables_are = ap (λ (z : List ℕ). slice_index z 0 + slice_index z 1) k.sizes

  pub stack_size : slice_index f.sizes 2 ≡ k.of.max_stack
  stack_size = ap (λ (z : List ℕ). slice_index z 2) k.sizes

  pub slot_size : slice_index f.sizes 3 ≡ length k.of.clauses
  slot_size = ap (λ (z : List ℕ). slice_index z 3) k.sizes

  -- arguments and locals keep their values where what changes lies behind them
  module _ (ps : List (Option RamValue)) (place : ℤ) (d : ℕ) (same : (i : ℕ) → i < variables f → slice_get ps i ≡ slice_get f.places i) where
    pub arguments_kept : PlacesAre room (changed f ps place d ∷ fs) (argument_held (changed f ps place d)) k.of.arguments g.arguments
    arguments_kept i type v a b =
        let within : i < length k.of.arguments = slice_get_within k.of.arguments i type a in
        let below : i < variables f = omega (arith, within, variables_are) in
        held_over room f fs ps place d (zero_place type) (argument_held (changed f ps place d) i) v
        (subst (λ (r : Option RamValue). IsHeld room (f ∷ fs) (zero_place type) r v) (sym (ap (λ o. unwrap_or o None) (same i below))) (k.arguments i type v a b))

    pub locals_kept : PlacesAre room (changed f ps place d ∷ fs) (local_held (changed f ps place d)) k.of.locals g.locals
    locals_kept i type v a b =
        let within : i < length k.of.locals = slice_get_within k.of.locals i type a in
        let below : slice_index f.sizes 0 + i < variables f = omega (arith, within, variables_are, first_sizes) in
        held_over room f fs ps place d (zero_place type) (local_held (changed f ps place d) i) v
        (subst (λ (r : Option RamValue). IsHeld room (f ∷ fs) (zero_place type) r v) (sym (ap (λ o. unwrap_or o None) (same (slice_index f.sizes 0 + i) below))) (k.locals i type v a b))

  -- a value is pushed
  pub pushed_is : (r : RamValue) (v : Value) → IsValue room (f ∷ fs) r v → length g.stack < k.of.max_stack → IsMachineFrame p outer heap room (pushed f r) fs (record g { stack = v ∷ g.stack }) gs
  pushed_is r v h l = record {
    of = k.of;
    is = k.is;
    method = k.method;
    initialiser = k.initialiser;
    place = k.place;
    place_fits = k.place_fits;
    sizes = k.sizes;
    count = length-set f.places (variables f + f.depth) (Some r) ∙ k.count;
    argument_count = k.argument_count;
    local_count = k.local_count;
    slot_count = k.slot_count;
    depth = let deep = k.depth in omega (arith, deep);
    most = omega (arith, l);
    arguments = arguments_kept (slice_set f.places (variables f + f.depth) (Some r)) f.place (f.depth + 1) below;
    locals = locals_kept (slice_set f.places (variables f + f.depth) (Some r)) f.place (f.depth + 1) below;
    stack = stacked;
    slots = slotted;
  }
    where
      below : (i : ℕ) → i < variables f → slice_get (slice_set f.places (variables f + f.depth) (Some r)) i ≡ slice_get f.places i
      below i b = set_elsewhere f.places (variables f + f.depth) i (Some r) (λ e. omega (arith, b, e))

      inside : variables f + f.depth < length f.places
      inside = omega (arith, l, k.depth, k.count, variables_are)

      top : (i : ℕ) → variables f + (f.depth + 1 - (zero + 1)) ≡ variables f + f.depth
      top i = omega arith

      stacked : (i : ℕ) (w : Value) → slice_get (v ∷ g.stack) i ≡ Some w → (q : RamValue) × (stack_held (pushed f r) i ≡ Some q) × IsValue room (pushed f r ∷ fs) q w
      stacked zero w e =
          let is : v ≡ w = cc e in (
            r,
            ap (place_held (pushed f r)) (top zero) ∙ ap (λ o. unwrap_or o None) (set_here f.places (variables f + f.depth) (Some r) inside),
            subst (λ (z : Value). IsValue room (pushed f r ∷ fs) r z) is (value_over room f fs (slice_set f.places (variables f + f.depth) (Some r)) f.place (f.depth + 1) r v h),
          )
      stacked (suc i) w e =
          let old = k.stack i w e in
          let lower : i < length g.stack = slice_get_within g.stack i w e in
          let at : variables f + (f.depth + 1 - (suc i + 1)) ≡ variables f + (f.depth - (i + 1)) = omega arith in
          let other : variables f + (f.depth - (i + 1)) ≢ variables f + f.depth = (λ q. omega (arith, q, lower, k.depth)) in (
            old.0,
            ap (place_held (pushed f r)) at ∙ ap (λ o. unwrap_or o None) (set_elsewhere f.places (variables f + f.depth) (variables f + (f.depth - (i + 1))) (Some r) other) ∙ old.1,
            value_over room f fs (slice_set f.places (variables f + f.depth) (Some r)) f.place (f.depth + 1) old.0 w old.2,
          )

      slotted : (j : ℕ) (slot : Slot) → slice_get g.slots j ≡ Some slot → IsSlot p outer heap k.of g.method g.initialiser gs j (slot_held (pushed f r) j) slot
      slotted j slot e =
          let apart : variables f + slice_index f.sizes 2 + j ≢ variables f + f.depth = (λ q. omega (arith, q, l, k.depth, stack_size)) in
          subst (λ (o : Option RamValue). IsSlot p outer heap k.of g.method g.initialiser gs j o slot) (sym (ap (λ o. unwrap_or o None) (set_elsewhere f.places (variables f + f.depth) (variables f + slice_index f.sizes 2 + j) (Some r) apart))) (k.slots j slot e)

  -- a handler starts, or the frame goes on elsewhere, with an empty stack
  module _ (place : ℕ) (fits : place < 2 ^ 32) where
    pub gone_is : IsMachineFrame p outer heap room (changed f f.places (cast_signed w32 place) 0) fs (record g { place = place; stack = [] }) gs
    gone_is = record {
      of = k.of;
      is = k.is;
      method = k.method;
      initialiser = k.initialiser;
      place = refl;
      place_fits = fits;
      sizes = k.sizes;
      count = k.count;
      argument_count = k.argument_count;
      local_count = k.local_count;
      slot_count = k.slot_count;
      depth = refl;
      most = omega arith;
      arguments = arguments_kept f.places (cast_signed w32 place) 0 (λ i l. refl);
      locals = locals_kept f.places (cast_signed w32 place) 0 (λ i l. refl);
      stack = λ i v e. absurd (cc e);
      slots = k.slots;
    }

  module _ (n : ℕ) (there : n < length k.of.clauses) (r : RamValue) (slot : Slot) (is : IsSlot p outer heap k.of g.method g.initialiser gs n (Some r) slot) where
    pub put_slot_is : IsMachineFrame p outer heap room (changed f (slice_set f.places (variables f + slice_index f.sizes 2 + n) (Some r)) f.place 0) fs (record g { slots = slice_set g.slots n slot; stack = [] }) gs
    put_slot_is = record {
      of = k.of;
      is = k.is;
      method = k.method;
      initialiser = k.initialiser;
      place = k.place;
      place_fits = k.place_fits;
      sizes = k.sizes;
      count = length-set f.places (variables f + slice_index f.sizes 2 + n) (Some r) ∙ k.count;
      argument_count = k.argument_count;
      local_count = k.local_count;
      slot_count = length-set g.slots n slot ∙ k.slot_count;
      depth = refl;
      most = omega arith;
      arguments = arguments_kept (slice_set f.places (variables f + slice_index f.sizes 2 + n) (Some r)) f.place 0 below;
      locals = locals_kept (slice_set f.places (variables f + slice_index f.sizes 2 + n) (Some r)) f.place 0 below;
      stack = λ i v e. absurd (cc e);
      slots = slotted;
    }
      where
        below : (i : ℕ) → i < variables f → slice_get (slice_set f.places (variables f + slice_index f.sizes 2 + n) (Some r)) i ≡ slice_get f.places i
        below i b = set_elsewhere f.places (variables f + slice_index f.sizes 2 + n) i (Some r) (λ e. omega (arith, b, e))

        inside : variables f + slice_index f.sizes 2 + n < length f.places
        inside = omega (arith, there, k.count, variables_are, stack_size)

        slotted : (j : ℕ) (x : Slot) → slice_get (slice_set g.slots n slot) j ≡ Some x → IsSlot p outer heap k.of g.method g.initialiser gs j (slot_held (changed f (slice_set f.places (variables f + slice_index f.sizes 2 + n) (Some r)) f.place 0) j) x
        slotted j x e = by (eqb_tells j n)
          where
            here : (y : Slot) → slice_get (slice_set g.slots n slot) n ≡ Some y → IsSlot p outer heap k.of g.method g.initialiser gs n (slot_held (changed f (slice_set f.places (variables f + slice_index f.sizes 2 + n) (Some r)) f.place 0) n) y
            here y q =
                let within : n < length g.slots = omega (arith, there, k.slot_count) in
                let same : slot ≡ y = some_same slot y (sym (set_here g.slots n slot within) ∙ q) in
                subst (λ (z : Slot). IsSlot p outer heap k.of g.method g.initialiser gs n (slot_held (changed f (slice_set f.places (variables f + slice_index f.sizes 2 + n) (Some r)) f.place 0) n) z) same
                (subst (λ (o : Option RamValue). IsSlot p outer heap k.of g.method g.initialiser gs n o slot) (sym (ap (λ o. unwrap_or o None) (set_here f.places (variables f + slice_index f.sizes 2 + n) (Some r) inside))) is)

            by : ((nat_eq j n ≡ true) × (j ≡ n)) ⊎ ((nat_eq j n ≡ false) × (j ≢ n)) → IsSlot p outer heap k.of g.method g.initialiser gs j (slot_held (changed f (slice_set f.places (variables f + slice_index f.sizes 2 + n) (Some r)) f.place 0) j) x
            by (inl q) = subst (λ z. slice_get (slice_set g.slots n slot) z ≡ Some x → IsSlot p outer heap k.of g.method g.initialiser gs z (slot_held (changed f (slice_set f.places (variables f + slice_index f.sizes 2 + n) (Some r)) f.place 0) z) x) (sym q.1) (here x) e
            by (inr q) =
                let differ : j ≢ n = q.1 in
                let apart : variables f + slice_index f.sizes 2 + j ≢ variables f + slice_index f.sizes 2 + n = (λ z. differ (omega (arith, z))) in
                subst (λ (o : Option RamValue). IsSlot p outer heap k.of g.method g.initialiser gs j o x) (sym (ap (λ o. unwrap_or o None) (set_elsewhere f.places (variables f + slice_index f.sizes 2 + n) (variables f + slice_index f.sizes 2 + j) (Some r) apart)))
                (k.slots j x (sym (set_elsewhere g.slots n j slot differ) ∙ e))
