-- What a method hands back.
use Rattle.std.proofs.Common.{◌≡◌, ℕ, Bool, List, ◌∷◌, Option, Some, None, refl, sym, subst}
use Rattle.std.specs.Option.{option_map}
use Rattle.board_types.specs.declared.value.Value.{Value as RamValue}
use Rattle.board_types.specs.declared.value.Value.TheVariants as ram
use Rattle.machine.specs.Data.{Id, CliType, Basic, EnumOf, ClassOf, ValueOf, ArrayOf, PlaceType, Plain, To, Cell, Bits, Refers, elem_cell, Spot, Value, Int, Long, Null, Object, Handle, Pointer, Thing, Frame}
use Rattle.machine.specs.Program.{Program}
use Rattle.machine.specs.Numbers.{Holds, kept_in, kept_by, kept}
use Rattle.machine.specs.Throw.{on_some}
use Rattle.machine.specs.Calls.{result_of}
use Rattle.tiny_ram.specs.Memory.{RamFrame, top_value}
use Rattle.memory_states.specs.Values.{IsValue}
use Rattle.memory_states.specs.States.{IsMachineFrame}
use Rattle.kept_values.specs.declared.keeping.PlaceKind.{PlaceKind}
use Rattle.kept_values.specs.Keeping.{kept_as, KeptAlike}
use Rattle.kept_values.proofs.Keeps.{keeps_alike}
use Rattle.step_ends.proofs.Popping.{topmost, no_top}
use Rattle.step_return.specs.Returns.{IsResultKind, IsResult, result_held}

no_pointer : (o : Option Cell) (c : Cell) (x : Spot) → kept_by (option_map Holds o) (Pointer c x) ≡ None
unfolding kept_in
no_pointer None c x = refl
no_pointer (Some (Bits integer)) c x = refl
no_pointer (Some Refers) c x = refl

-- a place of a type without pointers keeps none
not_kept : (type : CliType) (c : Cell) (x : Spot) → kept (Plain type) (Pointer c x) ≡ None
unfolding kept kept_in
not_kept (Basic e) c x = no_pointer (elem_cell e) c x
not_kept (EnumOf e class) c x = no_pointer (elem_cell e) c x
not_kept (ClassOf class) c x = refl
not_kept (ValueOf class) c x = refl
not_kept (ArrayOf element) c x = refl

module _ (room : ℕ) where
  -- so that the value is the same whatever frames there are
  anywhere : (fs gs : List RamFrame) (type : CliType) (r : RamValue) (v w : Value) → kept (Plain type) v ≡ Some w → IsValue room fs r v → IsValue room gs r v
  anywhere fs gs type (ram.Pointer at) (Pointer c x) w e h = let none = not_kept type c x in absurd (cc (e, none))
  anywhere fs gs type (ram.Int n) (Int k) w e h = h
  anywhere fs gs type (ram.Long n) (Long k) w e h = h
  anywhere fs gs type (ram.Ref n) Null w e h = h
  anywhere fs gs type (ram.Ref n) (Object k) w e h = h
  anywhere fs gs type (ram.Handle field) (Handle k) w e h = h
  anywhere fs gs type _ _ w e h = absurd h

  abbrev pub ResultAlike : List RamFrame → Option (Option RamValue) → Option (Option Value) → Type 0
  ResultAlike fs None None = Unit {0}
  ResultAlike fs (Some o) (Some v) = IsResult room fs o v
  ResultAlike fs (Some o) None = ⊥
  ResultAlike fs None (Some v) = ⊥

  both : (f : RamFrame) (fs : List RamFrame) (type : CliType) (r : RamValue) (v : Value) (a : Option RamValue) (b : Option Value) → kept (Plain type) v ≡ b → KeptAlike room (f ∷ fs) a b → IsValue room (f ∷ fs) r v
      → ResultAlike fs (on_some a (λ w. Some (Some r))) (on_some b (λ w. Some (Some v)))
  both f fs type r v None None e q h = tt
  both f fs type r v (Some x) (Some w) e q h = anywhere (f ∷ fs) fs type r v w e h
  both f fs type r v (Some x) None e q h = absurd q
  both f fs type r v None (Some w) e q h = absurd q

module _ (p : Program) (outer : Id → ℕ → ℕ → Bool) (heap : List Thing) (room : ℕ) (f : RamFrame) (fs : List RamFrame) (g : Frame) (gs : List Frame) (k : IsMachineFrame p outer heap room f fs g gs) where
  kind_alike : (kind : PlaceKind) (type : CliType) → IsResultKind (Some kind) (Some (Plain type)) → ResultAlike room fs (result_held (Some kind) f) (result_of (Some (Plain type)) g.stack)
  kind_alike kind type h = by (top_value f) refl
    where
      by : (o : Option RamValue) → top_value f ≡ o → ResultAlike room fs (on_some o (λ r. on_some (kept_as kind r) (λ w. Some (Some r)))) (result_of (Some (Plain type)) g.stack)
      by None e = subst (λ (xs : List Value). ResultAlike room fs None (result_of (Some (Plain type)) xs)) (sym (no_top p outer heap room f fs g gs k e)) tt
      by (Some r) e =
          let t = topmost p outer heap room f fs g gs k r e in
          subst (λ (xs : List Value). ResultAlike room fs (on_some (kept_as kind r) (λ w. Some (Some r))) (result_of (Some (Plain type)) xs)) (sym t.stack)
          (both room f fs type r t.value (kept_as kind r) (kept (Plain type) t.value) refl (keeps_alike room (f ∷ fs) kind (Plain type) r t.value h t.is) t.is)

  -- what is taken off the memory's stack is what the machine's method hands back
  pub result_alike : (kind : Option PlaceKind) (type : Option PlaceType) → IsResultKind kind type → ResultAlike room fs (result_held kind f) (result_of type g.stack)
  result_alike None None h = tt
  result_alike (Some kind) (Some (Plain type)) h = kind_alike kind type h
  result_alike (Some kind) (Some (To type)) h = absurd h
  result_alike (Some kind) None h = absurd h
  result_alike None (Some type) h = absurd h
