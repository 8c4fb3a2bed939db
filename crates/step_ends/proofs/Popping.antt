-- The topmost value, taken off a frame's stack.
use Rattle.std.proofs.Common.{◌≡◌, ◌≢◌, inl, inr, ℕ, suc, ◌+◌, ◌-◌, Bool, true, false, ◌==◌, List, [], ◌∷◌, length, Option, Some, None, refl, sym, ap, ◌∙◌, subst, arith}
use Rattle.std.specs.Prelude.{◌⊎◌, nat_eq, if◌then◌else◌, slice_get}
use Rattle.std.proofs.lemmas.Bool.Decides.{eqb_tells}
use Rattle.board_types.specs.declared.value.Value.{Value as RamValue}
use Rattle.machine.specs.Data.{Id, Value, Thing, Frame}
use Rattle.machine.specs.Program.{Program}
use Rattle.tiny_ram.specs.Memory.{RamFrame, variables, top_value, popped}
use Rattle.memory_states.specs.Values.{IsValue}
use Rattle.memory_states.specs.States.{place_held, IsMachineFrame}
use Rattle.memory_states.proofs.Frames.{value_over, arguments_kept, locals_kept}

some_same : {A : Type 0} (x y : A) → Some x ≡ Some y → x ≡ y
some_same x y e = cc e

not_zero : (n : ℕ) → (suc n == 0) ≡ false
not_zero n = by (eqb_tells (suc n) 0)
  where
    by : ((nat_eq (suc n) 0 ≡ true) × (suc n ≡ 0)) ⊎ ((nat_eq (suc n) 0 ≡ false) × (suc n ≢ 0)) → (suc n == 0) ≡ false
    by (inl q) = absurd (omega (arith, q.1))
    by (inr q) = q.0

-- the stack's topmost value and the value in its place
pub record Topmost (room : ℕ) (f : RamFrame) (fs : List RamFrame) (g : Frame) (r : RamValue) : Type 0 where
  pub value : Value
  pub rest : List Value
  pub stack : g.stack ≡ value ∷ rest
  pub is : IsValue room (f ∷ fs) r value

module _ (p : Program) (outer : Id → ℕ → ℕ → Bool) (heap : List Thing) (room : ℕ) (f : RamFrame) (fs : List RamFrame) (g : Frame) (gs : List Frame) (k : IsMachineFrame p outer heap room f fs g gs) where
  top_at : ℕ → Option RamValue
  top_at depth = if depth == 0 then None else place_held f (variables f + (depth - 1))

  empty_top : g.stack ≡ [] → top_value f ≡ None
  unfolding top_at
  empty_top e = ap top_at (k.depth ∙ ap length e)

  held_top : (v : Value) (rest : List Value) → g.stack ≡ v ∷ rest → (r : RamValue) × (top_value f ≡ Some r) × IsValue room (f ∷ fs) r v
  unfolding top_at
  held_top v rest e =
      let first : slice_get g.stack 0 ≡ Some v = ap (λ (xs : List Value). slice_get xs 0) e in
      let old = k.stack 0 v first in
      let deep : f.depth ≡ suc (length rest) = k.depth ∙ ap length e in
      let some : top_at f.depth ≡ place_held f (variables f + (f.depth - 1)) = ap (λ (d : ℕ). if d == 0 then None else place_held f (variables f + (f.depth - 1))) deep ∙ ap (λ (b : Bool). if b then None else place_held f (variables f + (f.depth - 1))) (not_zero (length rest)) in
      let at : variables f + (f.depth - 1) ≡ variables f + (f.depth - (0 + 1)) = omega arith in (
        old.0,
        some ∙ ap (place_held f) at ∙ old.1,
        old.2,
      )

  -- what lies on top is the machine's
  pub topmost : (r : RamValue) → top_value f ≡ Some r → Topmost room f fs g r
  topmost r t = by g.stack refl
    where
      by : (xs : List Value) → g.stack ≡ xs → Topmost room f fs g r
      by [] e = absurd (cc (t, empty_top e))
      by (v ∷ rest) e =
          let held = held_top v rest e in
          let same : held.0 ≡ r = some_same held.0 r (sym held.1 ∙ t) in
          record { value = v; rest = rest; stack = e; is = subst (λ (q : RamValue). IsValue room (f ∷ fs) q v) same held.2 }

  -- nothing lies on top of an empty stack
  pub no_top : top_value f ≡ None → g.stack ≡ []
  no_top t = by g.stack refl
    where
      by : (xs : List Value) → g.stack ≡ xs → g.stack ≡ []
      by [] e = e
      by (v ∷ rest) e = let held = held_top v rest e in absurd (cc (t, held.1))

  -- a frame without its topmost value
  pub popped_is : (v : Value) (rest : List Value) → g.stack ≡ v ∷ rest → IsMachineFrame p outer heap room (popped f) fs (record g { stack = rest }) gs
  popped_is v rest e =
      let size : length g.stack ≡ suc (length rest) = ap length e in
      record {
        of = k.of;
        is = k.is;
        method = k.method;
        initialiser = k.initialiser;
        place = k.place;
        place_fits = k.place_fits;
        sizes = k.sizes;
        count = k.count;
        argument_count = k.argument_count;
        local_count = k.local_count;
        slot_count = k.slot_count;
        depth = let deep = k.depth in omega (arith, deep, size);
        most = let most = k.most in omega (arith, most, size);
        arguments = arguments_kept p outer heap room f fs g gs k f.places f.place (f.depth - 1) (λ i l. refl);
        locals = locals_kept p outer heap room f fs g gs k f.places f.place (f.depth - 1) (λ i l. refl);
        stack = λ i w q.
            let old = k.stack (suc i) w (ap (λ (xs : List Value). slice_get xs (suc i)) e ∙ q) in
            let at : variables f + (f.depth - 1 - (i + 1)) ≡ variables f + (f.depth - (suc i + 1)) = omega arith in (
              old.0,
              ap (place_held f) at ∙ old.1,
              value_over room f fs f.places f.place (f.depth - 1) old.0 w old.2,
            );
        slots = k.slots;
      }
