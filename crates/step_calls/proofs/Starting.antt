-- The frame that starts and the frame that calls, beside the machine's.
use Rattle.std.proofs.Common.{◌≡◌, ◌≢◌, inl, inr, ℕ, zero, suc, ◌+◌, ◌-◌, ◌≤◌, Bool, true, false, ◌==◌, List, ◌∷◌, length, replicate, Option, Some, None, refl, sym, ap, ◌∙◌, subst, arith, eq-eqb}
use Rattle.std.specs.Prelude.{◌⊎◌, nat_eq, if◌then◌else◌, sum, slice_get, unwrap_or}
use Rattle.std.specs.Option.{option_map}
use Rattle.std.proofs.lemmas.Bool.Decides.{eqb_tells}
use Rattle.std.proofs.lemmas.List.{length-replicate}
use Rattle.std.proofs.lemmas.Option.{slice_get-map}
use Rattle.machine_rename.proofs.Base.{length-map_lem}
use Rattle.board_types.specs.declared.board.TypeAt.{TypeAt}
use Rattle.board_types.specs.declared.value.RamPlace.{RamPlace}
use Rattle.board_types.specs.declared.value.Value.{Value as RamValue}
use Rattle.board_types.specs.declared.value.Value.TheVariants as ram
use Rattle.machine.specs.Data.{Id, Spot, InArgument, InLocal, InObject, Value, Int, Long, Null, Object, Handle, Pointer, Thing, Slot, Nothing, Frame}
use Rattle.machine.specs.Program.{Program, Method}
use Rattle.machine.specs.Numbers.{zero_place}
use Rattle.machine.specs.Calls.{start_frame}
use Rattle.tiny_ram.specs.Memory.{RamFrame, Memory, innermost, frame_cells, frames_cells, put_frame, put_in_frame, with_frames, variables, fresh_frame}
use Rattle.tiny_ram.specs.Region.{Keeps}
use Rattle.tiny_ram.specs.declared.memory.Ram.{Ram}
use Rattle.tiny_ram.proofs.Kept.{frame_stays}
use Rattle.memory_states.specs.Values.{id_of, IsSpot, IsValue, IsHeld}
use Rattle.memory_states.specs.States.{place_held, IsSlot, IsMachineFrame}
use Rattle.memory_states.proofs.Frames.{value_over, arguments_kept, locals_kept}
use Rattle.memory_states.proofs.Starts.{sizes_of}
use Rattle.step_calls.proofs.Taking.{some_same}

ne_false : (i n : ℕ) → i ≢ n → (i == n) ≡ false
ne_false i n l = by (eqb_tells i n)
  where
    by : ((nat_eq i n ≡ true) × (i ≡ n)) ⊎ ((nat_eq i n ≡ false) × (i ≢ n)) → (i == n) ≡ false
    by (inl q) = absurd (l q.1)
    by (inr q) = q.0

-- the frame that calls gives way to another
put_second : (room : ℕ) (x f g : RamFrame) (fs : List RamFrame) (n : ℕ) → n ≡ innermost room (f ∷ fs) → frames_cells (x ∷ f ∷ fs) ≤ room → put_frame room (x ∷ f ∷ fs) n g ≡ x ∷ g ∷ fs
put_second room x f g fs n e l =
    ap (λ n. put_frame room (x ∷ f ∷ fs) n g) e
    ∙ ap (λ (b : Bool). if b then g ∷ f ∷ fs else x ∷ put_frame room (f ∷ fs) (innermost room (f ∷ fs)) g) (ne_false (innermost room (x ∷ f ∷ fs)) (innermost room (f ∷ fs)) (λ q. omega (arith, q, l)))
    ∙ ap (λ (b : Bool). x ∷ (if b then g ∷ fs else f ∷ put_frame room fs (innermost room (f ∷ fs)) g)) (eq-eqb (innermost room (f ∷ fs)) (innermost room (f ∷ fs)) refl)

pub put_caller : (u : Ram) (m : Memory) (x f g : RamFrame) (fs : List RamFrame) (n : ℕ) → n ≡ innermost m.room (f ∷ fs) → frames_cells (x ∷ f ∷ fs) ≤ m.room → Keeps u (put_in_frame (with_frames m (x ∷ f ∷ fs)) n g) → Keeps u (with_frames m (x ∷ g ∷ fs))
put_caller u m x f g fs n e l k = subst (λ (z : List RamFrame). Keeps u (with_frames m z)) (put_second m.room x f g fs n e l) k

-- what values lead to is there when a frame has started
module _ (room : ℕ) (x : RamFrame) (fs : List RamFrame) (fits : frame_cells x + frames_cells fs ≤ room) where
  spot_under : (at : RamPlace) (s : Spot) → IsSpot room fs at s → IsSpot room (x ∷ fs) at s
  spot_under at (InArgument depth n) h = h
  spot_under at (InLocal depth n) h = (h.0, record { frame = h.1.frame; there = frame_stays room x fs at.thing h.1.frame fits h.1.there; index = h.1.index })
  spot_under at (InObject object n) h = h

  pub value_under : (r : RamValue) (v : Value) → IsValue room fs r v → IsValue room (x ∷ fs) r v
  value_under (ram.Pointer at) (Pointer cell spot) h = (h.0, spot_under at spot h.1)
  value_under (ram.Int n) (Int k) h = h
  value_under (ram.Long n) (Long k) h = h
  value_under (ram.Ref n) Null h = h
  value_under (ram.Ref n) (Object k) h = h
  value_under (ram.Handle field) (Handle k) h = h
  value_under _ _ h = absurd h

nothing_put : (n i : ℕ) → unwrap_or (slice_get (replicate n (let r : Option RamValue = None in r)) i) None ≡ None
nothing_put zero i = refl
nothing_put (suc n) zero = refl
nothing_put (suc n) (suc i) = nothing_put n i

nothing_left : (n k : ℕ) (slot : Slot) → slice_get (replicate n Nothing) k ≡ Some slot → slot ≡ Nothing
nothing_left zero k slot e = absurd (cc e)
nothing_left (suc n) zero slot e = some_same slot Nothing (sym e)
nothing_left (suc n) (suc k) slot e = nothing_left n k slot e

-- a value that was put into a place
pub record PutAs (room : ℕ) (fs : List RamFrame) (places : List (Option RamValue)) (i : ℕ) (w : Value) : Type 0 where
  pub value : RamValue
  pub here : slice_get places i ≡ Some (Some value)
  pub is : IsValue room fs value w

module _ (p : Program) (outer : Id → ℕ → ℕ → Bool) (heap : List Thing) (room : ℕ) where
  module _ (method : TypeAt) (m : Method) (fs : List RamFrame) (gs : List Frame) (is : p.method (id_of method) ≡ Some m) (ws : List Value) (places : List (Option RamValue)) (count : length places ≡ sum (sizes_of m)) (some : length ws ≡ length m.arguments)
      (others : (i : ℕ) → length m.arguments ≤ i → slice_get places i ≡ slice_get (replicate (sum (sizes_of m)) (let r : Option RamValue = None in r)) i) where
    now : RamFrame
    now = record (fresh_frame method (sizes_of m)) { places = places }

    empty : (i : ℕ) → length m.arguments ≤ i → place_held (record (fresh_frame method (sizes_of m)) { places = places }) i ≡ None
    empty i l = ap (λ o. unwrap_or o None) (others i l) ∙ nothing_put (sum (sizes_of m)) i

    pub started_is : ((i : ℕ) (w : Value) → slice_get ws i ≡ Some w → PutAs room (record (fresh_frame method (sizes_of m)) { places = places } ∷ fs) places i w) → IsMachineFrame p outer heap room (record (fresh_frame method (sizes_of m)) { places = places }) fs (start_frame false (id_of method) m ws) gs
    started_is each = record {
      of = m;
      is = is;
      method = refl;
      initialiser = refl;
      place = refl;
      place_fits = omega arith;
      sizes = refl;
      count = count ∙ (omega arith);
      argument_count = some;
      local_count = length-map_lem zero_place m.locals;
      slot_count = length-replicate (length m.clauses) Nothing;
      depth = refl;
      most = omega arith;
      arguments = λ i type v a b.
          let q = each i v b in
          subst (λ (r : Option RamValue). IsHeld room (record (fresh_frame method (sizes_of m)) { places = places } ∷ fs) (zero_place type) r v) (sym (ap (λ o. unwrap_or o None) q.here)) q.is;
      locals = λ i type v a b.
          let same : v ≡ zero_place type = some_same v (zero_place type) (sym b ∙ slice_get-map zero_place m.locals i ∙ ap (option_map zero_place) a) in
          subst (λ (r : Option RamValue). IsHeld room (record (fresh_frame method (sizes_of m)) { places = places } ∷ fs) (zero_place type) r v) (sym (empty (length m.arguments + i) (omega arith))) same;
      stack = λ i v e. absurd (cc e);
      slots = λ k slot e.
          subst (λ (z : Slot). IsSlot p outer heap m (id_of method) false gs k (place_held (record (fresh_frame method (sizes_of m)) { places = places }) (length m.arguments + length m.locals + m.max_stack + k)) z) (sym (nothing_left (length m.clauses) k slot e))
          (empty (length m.arguments + length m.locals + m.max_stack + k) (omega arith));
    }

  -- a frame without the topmost values of its stack
  module _ (f : RamFrame) (fs : List RamFrame) (g : Frame) (gs : List Frame) (k : IsMachineFrame p outer heap room f fs g gs) (n d : ℕ) (rest : List Value) (at : (i : ℕ) → slice_get rest i ≡ slice_get g.stack (n + i)) (count : n + length rest ≡ length g.stack) (below : d ≡ f.depth - n) where
    pub rest_is : IsMachineFrame p outer heap room (record f { depth = d }) fs (record g { stack = rest }) gs
    rest_is = record {
      of = k.of;
      is = k.is;
      method = k.method;
      initialiser = k.initialiser;
      place = k.place;
      place_fits = k.place_fits;
      sizes = k.sizes;
      count = k.count;
      argument_count = k.argument_count;
      local_count = k.local_count;
      slot_count = k.slot_count;
      depth = let deep = k.depth in omega (arith, deep, count, below);
      most = let most = k.most in omega (arith, most, count);
      arguments = arguments_kept p outer heap room f fs g gs k f.places f.place d (λ i l. refl);
      locals = locals_kept p outer heap room f fs g gs k f.places f.place d (λ i l. refl);
      stack = λ i w q.
          let old = k.stack (n + i) w (sym (at i) ∙ q) in
          let same : variables f + (d - (i + 1)) ≡ variables f + (f.depth - (n + i + 1)) = omega (arith, below) in (
            old.0,
            ap (place_held f) same ∙ old.1,
            value_over room f fs f.places f.place d old.0 w old.2,
          );
      slots = k.slots;
    }
