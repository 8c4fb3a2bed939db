-- A value is put into an argument or a local of a frame, beside the machine's.
use Rattle.std.proofs.Common.{◌≡◌, ◌≢◌, inl, inr, ℕ, ◌+◌, ◌-◌, ◌<◌, Bool, true, false, List, ◌∷◌, length, Option, Some, None, refl, sym, ap, ◌∙◌, subst, arith}
use Rattle.std.specs.Prelude.{◌⊎◌, nat_eq, slice_get, slice_set, slice_index, unwrap_or}
use Rattle.std.proofs.lemmas.Bool.Decides.{eqb_tells}
use Rattle.std.proofs.lemmas.List.{length-set}
use Rattle.std.proofs.lemmas.Option.{slice_get_within}
use Rattle.board_types.specs.declared.value.Value.{Value as RamValue}
use Rattle.machine.specs.Data.{Id, PlaceType, Value, Thing, Slot, Frame}
use Rattle.machine.specs.Program.{Program}
use Rattle.machine.specs.Numbers.{zero_place}
use Rattle.tiny_ram.specs.Memory.{RamFrame, variables}
use Rattle.memory_states.specs.Values.{IsValue, IsHeld}
use Rattle.memory_states.specs.States.{place_held, stack_held, slot_held, PlacesAre, IsSlot, IsMachineFrame}
use Rattle.memory_states.proofs.Frames.{changed, value_over, held_over, variables_are}
use Rattle.memory_states.proofs.Lists.{set_here, set_elsewhere}

some_same : {A : Type 0} (x y : A) → Some x ≡ Some y → x ≡ y
some_same x y e = cc e

-- the frame with a value in a place
abbrev pub put : RamFrame → ℕ → RamValue → RamFrame
put f j r = changed f (slice_set f.places j (Some r)) f.place f.depth

module _ (room : ℕ) (f : RamFrame) (fs : List RamFrame) (j : ℕ) (r : RamValue) where
  elsewhere : (i : ℕ) → i ≢ j → place_held (put f j r) i ≡ place_held f i
  elsewhere i n = ap (λ o. unwrap_or o None) (set_elsewhere f.places j i (Some r) n)

  here : j < length f.places → place_held (put f j r) j ≡ Some r
  here l = ap (λ o. unwrap_or o None) (set_here f.places j (Some r) l)

  module _ (at : ℕ → ℕ) (types : List PlaceType) (vs : List Value) (old : PlacesAre room (f ∷ fs) (λ i. place_held f (at i)) types vs) where
    -- places that lie elsewhere keep their values
    pub others_are : ((i : ℕ) → i < length types → at i ≢ j) → PlacesAre room (put f j r ∷ fs) (λ i. place_held (put f j r) (at i)) types vs
    others_are apart i type v a b =
        held_over room f fs (slice_set f.places j (Some r)) f.place f.depth (zero_place type) (place_held (put f j r) (at i)) v
        (subst (λ (o : Option RamValue). IsHeld room (f ∷ fs) (zero_place type) o v) (sym (elsewhere (at i) (apart i (slice_get_within types i type a)))) (old i type v a b))

    -- and the n-th has the new one
    pub put_are : (n : ℕ) (w : Value) → at n ≡ j → ((i : ℕ) → i ≢ n → at i ≢ j) → j < length f.places → n < length vs → IsValue room (f ∷ fs) r w → PlacesAre room (put f j r ∷ fs) (λ i. place_held (put f j r) (at i)) types (slice_set vs n w)
    put_are n w is apart inside within value i type v a b = by (eqb_tells i n)
      where
        by : ((nat_eq i n ≡ true) × (i ≡ n)) ⊎ ((nat_eq i n ≡ false) × (i ≢ n)) → IsHeld room (put f j r ∷ fs) (zero_place type) (place_held (put f j r) (at i)) v
        by (inl q) =
            let held : place_held (put f j r) (at i) ≡ Some r = ap (place_held (put f j r)) (ap at q.1 ∙ is) ∙ here inside in
            let same : w ≡ v = some_same w v (sym (set_here vs n w within) ∙ sym (ap (slice_get (slice_set vs n w)) q.1) ∙ b) in
            subst (λ (o : Option RamValue). IsHeld room (put f j r ∷ fs) (zero_place type) o v) (sym held)
            (subst (λ (x : Value). IsValue room (put f j r ∷ fs) r x) same (value_over room f fs (slice_set f.places j (Some r)) f.place f.depth r w value))
        by (inr q) =
            held_over room f fs (slice_set f.places j (Some r)) f.place f.depth (zero_place type) (place_held (put f j r) (at i)) v
            (subst (λ (o : Option RamValue). IsHeld room (f ∷ fs) (zero_place type) o v) (sym (elsewhere (at i) (apart i q.1))) (old i type v a (sym (set_elsewhere vs n i w q.1) ∙ b)))

module _ (p : Program) (outer : Id → ℕ → ℕ → Bool) (heap : List Thing) (room : ℕ) (f : RamFrame) (fs : List RamFrame) (g : Frame) (gs : List Frame) (k : IsMachineFrame p outer heap room f fs g gs) (n : ℕ) (r : RamValue) (w : Value) (value : IsValue room (f ∷ fs) r w) where
  module _ (j : ℕ) (below : j < variables f) where
    pub inside : j < length f.places
    inside = let all = variables_are p outer heap room f fs g gs k in let count = k.count in omega (arith, below, all, count)

    stack_stays : (i : ℕ) (v : Value) → slice_get g.stack i ≡ Some v → (q : RamValue) × (stack_held (put f j r) i ≡ Some q) × IsValue room (put f j r ∷ fs) q v
    stack_stays i v e =
        let old = k.stack i v e in
        let apart : variables f + (f.depth - (i + 1)) ≢ j = (λ z. omega (arith, z, below)) in (
          old.0,
          elsewhere room f fs j r (variables f + (f.depth - (i + 1))) apart ∙ old.1,
          value_over room f fs (slice_set f.places j (Some r)) f.place f.depth old.0 v old.2,
        )

    slots_stay : (i : ℕ) (slot : Slot) → slice_get g.slots i ≡ Some slot → IsSlot p outer heap k.of g.method g.initialiser gs i (slot_held (put f j r) i) slot
    slots_stay i slot e =
        let apart : variables f + slice_index f.sizes 2 + i ≢ j = (λ z. omega (arith, z, below)) in
        subst (λ (o : Option RamValue). IsSlot p outer heap k.of g.method g.initialiser gs i o slot) (sym (elsewhere room f fs j r (variables f + slice_index f.sizes 2 + i) apart)) (k.slots i slot e)

  first_size : slice_index f.sizes 0 ≡ length k.of.arguments
  first_size = ap (λ (z : List ℕ). slice_index z 0) k.sizes

  -- a value is put into an argument
  pub argument_put : n < length k.of.arguments → IsMachineFrame p outer heap room (put f n r) fs (record g { arguments = slice_set g.arguments n w }) gs
  argument_put within =
      let all = variables_are p outer heap room f fs g gs k in
      let below : n < variables f = omega (arith, within, all) in
      record {
        of = k.of;
        is = k.is;
        method = k.method;
        initialiser = k.initialiser;
        place = k.place;
        place_fits = k.place_fits;
        sizes = k.sizes;
        count = length-set f.places n (Some r) ∙ k.count;
        argument_count = length-set g.arguments n w ∙ k.argument_count;
        local_count = k.local_count;
        slot_count = k.slot_count;
        depth = k.depth;
        most = k.most;
        arguments = put_are room f fs n r (λ i. i) k.of.arguments g.arguments k.arguments n w refl (λ i z. z) (inside n below) (let count = k.argument_count in omega (arith, within, count)) value;
        locals = others_are room f fs n r (λ i. slice_index f.sizes 0 + i) k.of.locals g.locals k.locals (λ i l z. omega (arith, z, within, first_size));
        stack = stack_stays n below;
        slots = slots_stay n below;
      }

  -- a value is put into a local
  pub local_put : n < length k.of.locals → IsMachineFrame p outer heap room (put f (slice_index f.sizes 0 + n) r) fs (record g { locals = slice_set g.locals n w }) gs
  local_put within =
      let all = variables_are p outer heap room f fs g gs k in
      let below : slice_index f.sizes 0 + n < variables f = omega (arith, within, all, first_size) in
      record {
        of = k.of;
        is = k.is;
        method = k.method;
        initialiser = k.initialiser;
        place = k.place;
        place_fits = k.place_fits;
        sizes = k.sizes;
        count = length-set f.places (slice_index f.sizes 0 + n) (Some r) ∙ k.count;
        argument_count = k.argument_count;
        local_count = length-set g.locals n w ∙ k.local_count;
        slot_count = k.slot_count;
        depth = k.depth;
        most = k.most;
        arguments = others_are room f fs (slice_index f.sizes 0 + n) r (λ i. i) k.of.arguments g.arguments k.arguments (λ i l z. omega (arith, z, l, first_size));
        locals = put_are room f fs (slice_index f.sizes 0 + n) r (λ i. slice_index f.sizes 0 + i) k.of.locals g.locals k.locals n w refl (λ i d z. d (omega (arith, z))) (inside (slice_index f.sizes 0 + n) below) (let count = k.local_count in omega (arith, within, count)) value;
        stack = stack_stays (slice_index f.sizes 0 + n) below;
        slots = slots_stay (slice_index f.sizes 0 + n) below;
      }
