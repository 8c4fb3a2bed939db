-- A place keeps of a value what the machine's place keeps of the value that it stands for.
use Rattle.std.proofs.Common.{◌≡◌, ℕ, ℤ, Bool, true, false, List, Option, Some, None, sym, ap, subst}
use Rattle.std.specs.Prelude.{if◌then◌else◌}
use Rattle.cil_opcodes.specs.declared.shape.IntegerType.{IntegerType}
use Rattle.cil_opcodes.specs.declared.shape.IntegerType.TheVariants.{I1, U1, I2, U2, I4, U4, I8, U8}
use Rattle.board_types.specs.declared.value.RamPlace.{RamPlace}
use Rattle.board_types.specs.declared.value.Value.{Value as RamValue}
use Rattle.board_types.specs.declared.value.Value.TheVariants as ram
use Rattle.machine.specs.Data.{Cell, Bits, Refers, PlaceType, Spot, Value, Int, Long, Null, Object, Handle, Pointer}
use Rattle.machine.specs.Numbers.{same_width, PlaceKind as MachineKind, kind_of, kept_in, kept_by, kept_pointer, kept}
use Rattle.ram_words.specs.Elements.{elem_held, cell_in, narrowed}
use Rattle.tiny_ram.specs.Memory.{RamFrame}
use Rattle.memory_states.specs.Values.{IsValue}
use Rattle.kept_values.specs.declared.keeping.PlaceKind.{PlaceKind}
use Rattle.kept_values.specs.declared.keeping.PlaceKind.TheVariants.{Holds, HoldsPointer, HoldsHandle, Nothing}
use Rattle.kept_values.specs.Keeping.{kind_seen, is_as_wide, kept_in_cell, kept_as, KeptAlike}

module _ (room : ℕ) (fs : List RamFrame) where
  int_kept : (integer : IntegerType) (n k : ℤ) → n ≡ k → KeptAlike room fs (kept_in_cell (Bits integer) (ram.Int n)) (kept_in (Bits integer) (Int k))
  unfolding kept_in
  int_kept I1 n k e = ap (narrowed (Bits I1)) e
  int_kept U1 n k e = ap (narrowed (Bits U1)) e
  int_kept I2 n k e = ap (narrowed (Bits I2)) e
  int_kept U2 n k e = ap (narrowed (Bits U2)) e
  int_kept I4 n k e = e
  int_kept U4 n k e = e
  int_kept I8 n k e = tt
  int_kept U8 n k e = tt

  long_kept : (integer : IntegerType) (n k : ℤ) → n ≡ k → KeptAlike room fs (kept_in_cell (Bits integer) (ram.Long n)) (kept_in (Bits integer) (Long k))
  unfolding kept_in
  long_kept I8 n k e = e
  long_kept U8 n k e = e
  long_kept _ n k e = tt

  cell_kept : (cell : Cell) (r : RamValue) (v : Value) → IsValue room fs r v → KeptAlike room fs (kept_in_cell cell r) (kept_in cell v)
  unfolding kept_in
  cell_kept (Bits integer) (ram.Int n) (Int k) h = int_kept integer n k h
  cell_kept (Bits integer) (ram.Long n) (Long k) h = long_kept integer n k h
  cell_kept Refers (ram.Int n) (Int k) h = tt
  cell_kept Refers (ram.Long n) (Long k) h = tt
  cell_kept (Bits integer) (ram.Ref n) Null h = tt
  cell_kept Refers (ram.Ref n) Null h = h
  cell_kept (Bits integer) (ram.Ref n) (Object k) h = tt
  cell_kept Refers (ram.Ref n) (Object k) h = h
  cell_kept (Bits integer) (ram.Handle field) (Handle f) h = tt
  cell_kept Refers (ram.Handle field) (Handle f) h = tt
  cell_kept (Bits integer) (ram.Pointer at) (Pointer cell spot) h = tt
  cell_kept Refers (ram.Pointer at) (Pointer cell spot) h = tt
  cell_kept _ _ _ h = absurd h

  pointer_kept : (wide : Cell) (at : RamPlace) (cell : Cell) (spot : Spot) → IsValue room fs (ram.Pointer at) (Pointer cell spot) → KeptAlike room fs (if is_as_wide wide (elem_held at.elem) then Some (ram.Pointer at) else None) (kept_pointer wide (Pointer cell spot))
  pointer_kept wide at cell spot h =
      subst (λ (o : Option Cell). KeptAlike room fs (if is_as_wide wide o then Some (ram.Pointer at) else None) (kept_pointer wide (Pointer cell spot))) (sym h.0)
      (by (same_width cell wide))
    where
      by : (b : Bool) → KeptAlike room fs (if b then Some (ram.Pointer at) else None) (if b then Some (Pointer cell spot) else None)
      by true = h
      by false = tt

  pub by_kind : (kind : PlaceKind) (r : RamValue) (v : Value) → IsValue room fs r v → KeptAlike room fs (kept_as kind r) (kept_by (kind_seen kind) v)
  by_kind (Holds kind) r v h = cell_kept (cell_in kind) r v h
  by_kind (HoldsPointer kind) (ram.Pointer at) (Pointer cell spot) h = pointer_kept (cell_in kind) at cell spot h
  by_kind (HoldsPointer kind) (ram.Int n) (Int k) h = tt
  by_kind (HoldsPointer kind) (ram.Long n) (Long k) h = tt
  by_kind (HoldsPointer kind) (ram.Ref n) Null h = tt
  by_kind (HoldsPointer kind) (ram.Ref n) (Object k) h = tt
  by_kind (HoldsPointer kind) (ram.Handle field) (Handle f) h = tt
  by_kind HoldsHandle (ram.Pointer at) (Pointer cell spot) h = tt
  by_kind HoldsHandle (ram.Int n) (Int k) h = tt
  by_kind HoldsHandle (ram.Long n) (Long k) h = tt
  by_kind HoldsHandle (ram.Ref n) Null h = tt
  by_kind HoldsHandle (ram.Ref n) (Object k) h = tt
  by_kind HoldsHandle (ram.Handle field) (Handle f) h = h
  by_kind Nothing r v h = none r
    where
      none : (r : RamValue) → KeptAlike room fs (kept_as Nothing r) None
      none (ram.Int n) = tt
      none (ram.Long n) = tt
      none (ram.Ref n) = tt
      none (ram.Handle f) = tt
      none (ram.Pointer at) = tt
  by_kind _ _ _ h = absurd h

  pub keeps_alike : (kind : PlaceKind) (type : PlaceType) (r : RamValue) (v : Value) → kind_seen kind ≡ kind_of type → IsValue room fs r v → KeptAlike room fs (kept_as kind r) (kept type v)
  unfolding kept
  keeps_alike kind type r v e h = subst (λ (o : Option MachineKind). KeptAlike room fs (kept_as kind r) (kept_by o v)) e (by_kind kind r v h)
