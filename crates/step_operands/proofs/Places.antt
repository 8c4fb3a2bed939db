-- How places of an element type hold values, beside the machine's.
use Rattle.std.proofs.Common.{◌≡◌, ◌≢◌, ℕ, zero, suc, ◌<◌, Bool, true, false, List, [], ◌∷◌, length, Option, Some, None, refl, sym, ap, ◌∙◌, subst, arith}
use Rattle.std.specs.Prelude.{if◌then◌else◌, slice_get, slice_set, unwrap_or}
use Rattle.std.specs.Option.{option_map}
use Rattle.plain_types.specs.declared.elem.Elem.{Elem}
use Rattle.plain_types.specs.declared.elem.Elem.TheVariants as elem
use Rattle.cil_opcodes.specs.declared.shape.IntegerType.TheVariants.{I1, U1, I2, U2, I4, U4, I8, U8}
use Rattle.board_types.specs.declared.value.RamPlace.{RamPlace}
use Rattle.board_types.specs.declared.value.Value.{Value as RamValue}
use Rattle.board_types.specs.declared.value.Value.TheVariants as ram
use Rattle.machine.specs.Data.{CliType, Basic, EnumOf, ClassOf, ValueOf, ArrayOf, Cell, Bits, Refers, cell_of, elem_cell, Spot, InArgument, InLocal, InObject, Value, Int, Long, Null, Object, Handle, Pointer}
use Rattle.machine.specs.Numbers.{PlaceKind as MachineKind, Holds as MachineHolds, HoldsPointer as MachinePointer, HoldsHandle as MachineHandle, is_long, kind_of_type, zero_in, zero_of}
use Rattle.ram_words.specs.Elements.{elem_held, cell_in, narrowed, cut_by, zero_by}
use Rattle.tiny_ram.specs.Memory.{RamFrame, shown}
use Rattle.memory_states.specs.Values.{IsLocal, IsSpot, IsValue, IsHeld, AllHeld, FieldsHeld}
use Rattle.kept_values.specs.declared.keeping.PlaceKind.{PlaceKind}
use Rattle.kept_values.specs.declared.keeping.PlaceKind.TheVariants.{Holds, HoldsPointer, HoldsHandle, Nothing}
use Rattle.kept_values.specs.Keeping.{kind_seen, kept_in_cell, kept_as, KeptAlike}
use Rattle.step_operands.specs.Held.{kind_held, IsElem}

-- ---- types of places

pub no_value : (e : Elem) → (e ≡ elem.Value → ⊥) → kind_held e ≡ option_map MachineHolds (elem_held e)
no_value elem.Void n = refl
no_value elem.Bool n = refl
no_value elem.Char n = refl
no_value elem.I1 n = refl
no_value elem.U1 n = refl
no_value elem.I2 n = refl
no_value elem.U2 n = refl
no_value elem.I4 n = refl
no_value elem.U4 n = refl
no_value elem.I8 n = refl
no_value elem.U8 n = refl
no_value elem.String n = refl
no_value elem.Object n = refl
no_value elem.Class n = refl
no_value elem.Value n = absurd (n refl)

-- the cell of such a place
cell_by : Option MachineKind → Option Cell
cell_by None = None
cell_by (Some (MachineHolds cell)) = Some cell
cell_by (Some (MachinePointer cell)) = None
cell_by (Some MachineHandle) = None

by_cell : (o : Option Cell) → cell_by (option_map MachineHolds o) ≡ o
unfolding cell_by
by_cell None = refl
by_cell (Some cell) = refl

by_type : (type : CliType) → cell_by (kind_of_type type) ≡ cell_of type
unfolding cell_by
by_type (Basic e) = by_cell (elem_cell e)
by_type (EnumOf e class) = by_cell (elem_cell e)
by_type (ClassOf class) = refl
by_type (ValueOf class) = refl
by_type (ArrayOf element) = refl

by_elem : (e : Elem) → cell_by (kind_held e) ≡ elem_held e
unfolding cell_by
by_elem elem.Void = refl
by_elem elem.Bool = refl
by_elem elem.Char = refl
by_elem elem.I1 = refl
by_elem elem.U1 = refl
by_elem elem.I2 = refl
by_elem elem.U2 = refl
by_elem elem.I4 = refl
by_elem elem.U4 = refl
by_elem elem.I8 = refl
by_elem elem.U8 = refl
by_elem elem.String = refl
by_elem elem.Object = refl
by_elem elem.Class = refl
by_elem elem.Value = refl

pub cells_alike : (e : Elem) (type : CliType) → IsElem e type → cell_of type ≡ elem_held e
cells_alike e type h = sym (by_type type) ∙ ap cell_by h ∙ by_elem e

-- an element type is no pointer's
abbrev NoPointers : Option MachineKind → Type 0
NoPointers None = Unit {0}
NoPointers (Some (MachineHolds cell)) = Unit {0}
NoPointers (Some (MachinePointer cell)) = ⊥
NoPointers (Some MachineHandle) = Unit {0}

no_pointers : (e : Elem) → NoPointers (kind_held e)
no_pointers elem.Void = tt
no_pointers elem.Bool = tt
no_pointers elem.Char = tt
no_pointers elem.I1 = tt
no_pointers elem.U1 = tt
no_pointers elem.I2 = tt
no_pointers elem.U2 = tt
no_pointers elem.I4 = tt
no_pointers elem.U4 = tt
no_pointers elem.I8 = tt
no_pointers elem.U8 = tt
no_pointers elem.String = tt
no_pointers elem.Object = tt
no_pointers elem.Class = tt
no_pointers elem.Value = tt

module _ (room : ℕ) (fs : List RamFrame) where
  -- the zeros
  pub zero_alike : (o : Option Cell) → IsValue room fs (zero_by o) (zero_in o)
  zero_alike None = refl
  zero_alike (Some Refers) = refl
  zero_alike (Some (Bits I1)) = refl
  zero_alike (Some (Bits U1)) = refl
  zero_alike (Some (Bits I2)) = refl
  zero_alike (Some (Bits U2)) = refl
  zero_alike (Some (Bits I4)) = refl
  zero_alike (Some (Bits U4)) = refl
  zero_alike (Some (Bits I8)) = refl
  zero_alike (Some (Bits U8)) = refl

  pub zero_held : (held : Option Cell) (type : CliType) → cell_of type ≡ held → IsValue room fs (zero_by held) (zero_of type)
  unfolding zero_of
  zero_held held type e = subst (λ (o : Option Cell). IsValue room fs (zero_by held) (zero_in o)) (sym e) (zero_alike held)

  -- what is in an object is seen in a frame
  spot_inside : (at : RamPlace) (x : Spot) → IsSpot room [] at x → IsSpot room fs at x
  spot_inside at (InArgument depth n) h = h
  spot_inside at (InLocal depth n) h = let there = h.1.there in absurd (cc there)
  spot_inside at (InObject object n) h = h

  pub value_inside : (r : RamValue) (v : Value) → IsValue room [] r v → IsValue room fs r v
  value_inside (ram.Pointer at) (Pointer cell spot) h = (h.0, spot_inside at spot h.1)
  value_inside (ram.Int n) (Int k) h = h
  value_inside (ram.Long n) (Long k) h = h
  value_inside (ram.Ref n) Null h = h
  value_inside (ram.Ref n) (Object k) h = h
  value_inside (ram.Handle field) (Handle k) h = h
  value_inside _ _ h = absurd h

  -- what a place of the element type shows
  pub shown_is : (e : Elem) (type : CliType) → cell_of type ≡ elem_held e → (o : Option RamValue) (v : Value) → IsHeld room [] (zero_of type) o v → IsValue room fs (shown e o) v
  shown_is e type h None v k = subst (λ (w : Value). IsValue room fs (zero_by (elem_held e)) w) (sym k) (zero_held (elem_held e) type h)
  shown_is e type h (Some r) v k = value_inside r v k

  -- a value that is no pointer leads into no frame
  abbrev NoPointer : RamValue → Type 0
  NoPointer (ram.Pointer at) = ⊥
  NoPointer _ = Unit {0}

  abbrev NoneOrPlain : Option RamValue → Type 0
  NoneOrPlain None = Unit {0}
  NoneOrPlain (Some r) = NoPointer r

  value_apart : (r : RamValue) (v : Value) → NoPointer r → IsValue room fs r v → IsValue room [] r v
  value_apart (ram.Pointer at) v t h = absurd t
  value_apart (ram.Int n) (Int k) t h = h
  value_apart (ram.Long n) (Long k) t h = h
  value_apart (ram.Ref n) Null t h = h
  value_apart (ram.Ref n) (Object k) t h = h
  value_apart (ram.Handle field) (Handle k) t h = h
  value_apart _ _ t h = absurd h

  pub kept_apart : (r : Option RamValue) (o : Option Value) → NoneOrPlain r → KeptAlike room fs r o → KeptAlike room [] r o
  kept_apart None None t h = tt
  kept_apart (Some r) (Some v) t h = value_apart r v t h
  kept_apart None (Some v) t h = absurd h
  kept_apart (Some r) None t h = absurd h

  pub cell_plain : (cell : Cell) (r : RamValue) → NoneOrPlain (kept_in_cell cell r)
  cell_plain (Bits integer) (ram.Int n) = by (is_long integer)
    where
      by : (b : Bool) → NoneOrPlain (if b then None else Some (ram.Int (narrowed (Bits integer) n)))
      by true = tt
      by false = tt
  cell_plain (Bits integer) (ram.Long n) = by (is_long integer)
    where
      by : (b : Bool) → NoneOrPlain (if b then Some (ram.Long n) else None)
      by true = tt
      by false = tt
  cell_plain Refers (ram.Ref n) = tt
  cell_plain _ _ = tt

  kind_plain : (kind : PlaceKind) (r : RamValue) → NoPointers (kind_seen kind) → NoneOrPlain (kept_as kind r)
  kind_plain (Holds kind) r h = cell_plain (cell_in kind) r
  kind_plain (HoldsPointer kind) r h = absurd h
  kind_plain HoldsHandle (ram.Handle field) h = tt
  kind_plain HoldsHandle _ h = tt
  kind_plain Nothing _ h = tt

  -- what is kept by an element type
  pub elem_apart : (kind : PlaceKind) (r : RamValue) (e : Elem) (o : Option Value) → kind_seen kind ≡ kind_held e → KeptAlike room fs (kept_as kind r) o → KeptAlike room [] (kept_as kind r) o
  elem_apart kind r e o h k = kept_apart (kept_as kind r) o (kind_plain kind r (subst NoPointers (sym h) (no_pointers e))) k

-- what is kept of a value
pub kept_some : (room : ℕ) (fs : List RamFrame) (r : RamValue) (o : Option Value) → KeptAlike room fs (Some r) o → (w : Value) × (o ≡ Some w) × IsValue room fs r w
kept_some room fs r (Some w) h = (w, refl, h)
kept_some room fs r None h = absurd h

pub kept_none : (room : ℕ) (fs : List RamFrame) (o : Option Value) → KeptAlike room fs None o → o ≡ None
kept_none room fs None h = refl
kept_none room fs (Some w) h = absurd h

-- a place of references keeps each value as it is
pub cut_same : (r : RamValue) → cut_by (Some Refers) r ≡ r
cut_same (ram.Int n) = refl
cut_same (ram.Long n) = refl
cut_same (ram.Ref n) = refl
cut_same (ram.Pointer at) = refl
cut_same (ram.Handle field) = refl

-- ---- items of what is held

module _ (room : ℕ) where
  -- the n-th field of an object
  pub record FieldAt (types : List CliType) (places : List (Option RamValue)) (vs : List Value) (n : ℕ) (type : CliType) : Type 0 where
    pub value : Value
    pub is : slice_get vs n ≡ Some value
    pub held : IsHeld room [] (zero_of type) (unwrap_or (slice_get places n) None) value
    pub within : n < length places

  pub field_at : (types : List CliType) (places : List (Option RamValue)) (vs : List Value) → FieldsHeld room [] types places vs → (n : ℕ) (type : CliType) → slice_get types n ≡ Some type → FieldAt types places vs n type
  field_at [] [] [] h n type e = absurd (cc e)
  field_at (k ∷ ks) (r ∷ rs) (v ∷ vs) h zero type e =
      let same : k ≡ type = cc e in
      record { value = v; is = refl; held = subst (λ (t : CliType). IsHeld room [] (zero_of t) r v) same h.0; within = omega arith }
  field_at (k ∷ ks) (r ∷ rs) (v ∷ vs) h (suc n) type e =
      let rest = field_at ks rs vs h.1 n type e in
      let within = rest.within in
      record { value = rest.value; is = rest.is; held = rest.held; within = omega (arith, within) }
  field_at _ _ _ h n type e = absurd h

  pub field_put : (types : List CliType) (places : List (Option RamValue)) (vs : List Value) → FieldsHeld room [] types places vs → (n : ℕ) (r : RamValue) (w : Value) → IsValue room [] r w → FieldsHeld room [] types (slice_set places n (Some r)) (slice_set vs n w)
  field_put [] [] [] h n r w k = tt
  field_put (t ∷ ts) (q ∷ qs) (v ∷ vs) h zero r w k = (k, h.1)
  field_put (t ∷ ts) (q ∷ qs) (v ∷ vs) h (suc n) r w k = (h.0, field_put ts qs vs h.1 n r w k)
  field_put _ _ _ h n r w k = absurd h

  -- the n-th of values of one type
  pub record ItemAt (unput : Value) (places : List (Option RamValue)) (vs : List Value) (n : ℕ) : Type 0 where
    pub value : Value
    pub is : slice_get vs n ≡ Some value
    pub held : IsHeld room [] unput (unwrap_or (slice_get places n) None) value
    pub within : n < length places

  pub item_at : (unput : Value) (places : List (Option RamValue)) (vs : List Value) → AllHeld room [] unput places vs → (n : ℕ) → n < length vs → ItemAt unput places vs n
  item_at unput [] [] h n l = absurd (omega (arith, l))
  item_at unput (r ∷ rs) (v ∷ vs) h zero l = record { value = v; is = refl; held = h.0; within = omega arith }
  item_at unput (r ∷ rs) (v ∷ vs) h (suc n) l =
      let rest = item_at unput rs vs h.1 n (omega (arith, l)) in
      let within = rest.within in
      record { value = rest.value; is = rest.is; held = rest.held; within = omega (arith, within) }
  item_at unput [] (v ∷ vs) h n l = absurd h
  item_at unput (r ∷ rs) [] h n l = absurd h

  pub item_put : (unput : Value) (places : List (Option RamValue)) (vs : List Value) → AllHeld room [] unput places vs → (n : ℕ) (r : RamValue) (w : Value) → IsValue room [] r w → AllHeld room [] unput (slice_set places n (Some r)) (slice_set vs n w)
  item_put unput [] [] h n r w k = tt
  item_put unput (q ∷ qs) (v ∷ vs) h zero r w k = (k, h.1)
  item_put unput (q ∷ qs) (v ∷ vs) h (suc n) r w k = (h.0, item_put unput qs vs h.1 n r w k)
  item_put unput [] (v ∷ vs) h n r w k = absurd h
  item_put unput (q ∷ qs) [] h n r w k = absurd h
