-- The zeros and the cells of places by their kinds.
use Rattle.std.proofs.Common.{◌≡◌, ℕ, List, Option, Some, None, refl, sym, ap, ◌∙◌, subst}
use Rattle.std.specs.Option.{option_map}
use Rattle.cil_opcodes.specs.declared.shape.IntegerType.TheVariants.{I1, U1, I2, U2, I4, U4, I8, U8}
use Rattle.plain_types.specs.declared.elem.Elem.{Elem}
use Rattle.plain_types.specs.declared.elem.Elem.TheVariants as elem
use Rattle.machine.specs.Data.{Basic, EnumOf, ClassOf, ValueOf, ArrayOf, PlaceType, Plain, To, Cell, Bits, Refers, cell_of, elem_cell, Value, Null}
use Rattle.machine.specs.Numbers.{PlaceKind, Holds, HoldsPointer, HoldsHandle, kind_of, zero_in, zero_of, zero_place}
use Rattle.machine.specs.Step.{place_cell}
use Rattle.ram_words.specs.Elements.{elem_held, zero_by}
use Rattle.board_types.specs.declared.value.Value.{Value as RamValue}
use Rattle.tiny_ram.specs.Memory.{RamFrame, shown}
use Rattle.memory_states.specs.Values.{IsValue, IsHeld}
use Rattle.kept_values.specs.declared.keeping.PlaceKind.{PlaceKind as BoardKind}
use Rattle.kept_values.specs.declared.keeping.PlaceKind.TheVariants as board
use Rattle.kept_values.specs.Keeping.{kind_seen, KeptAlike}
use Rattle.step_places.specs.Places.{cell_seen, IsCellElem}

zero_kind : Option PlaceKind → Value
zero_kind (Some (Holds cell)) = zero_in (Some cell)
zero_kind _ = Null

cell_zero : (o : Option Cell) → zero_in o ≡ zero_kind (option_map Holds o)
unfolding zero_kind
cell_zero None = refl
cell_zero (Some cell) = refl

pointer_zero : (o : Option Cell) → Null ≡ zero_kind (option_map HoldsPointer o)
unfolding zero_kind
pointer_zero None = refl
pointer_zero (Some cell) = refl

type_zero : (type : PlaceType) → zero_place type ≡ zero_kind (kind_of type)
unfolding zero_place zero_of zero_kind
type_zero (Plain (Basic e)) = cell_zero (elem_cell e)
type_zero (Plain (EnumOf e class)) = cell_zero (elem_cell e)
type_zero (Plain (ClassOf class)) = refl
type_zero (Plain (ValueOf class)) = refl
type_zero (Plain (ArrayOf element)) = refl
type_zero (To type) = pointer_zero (cell_of type)

-- the cell to which a pointer leads
pub kind_cell : Option PlaceKind → Option Cell
kind_cell (Some (Holds cell)) = Some cell
kind_cell _ = None

held_cell : (o : Option Cell) → o ≡ kind_cell (option_map Holds o)
unfolding kind_cell
held_cell None = refl
held_cell (Some cell) = refl

no_cell : (o : Option Cell) → None ≡ kind_cell (option_map HoldsPointer o)
unfolding kind_cell
no_cell None = refl
no_cell (Some cell) = refl

pub type_cell : (type : PlaceType) → place_cell type ≡ kind_cell (kind_of type)
unfolding kind_cell
type_cell (Plain (Basic e)) = held_cell (elem_cell e)
type_cell (Plain (EnumOf e class)) = held_cell (elem_cell e)
type_cell (Plain (ClassOf class)) = refl
type_cell (Plain (ValueOf class)) = refl
type_cell (Plain (ArrayOf element)) = refl
type_cell (To type) = no_cell (cell_of type)

pub seen_cell : (kind : BoardKind) → kind_cell (kind_seen kind) ≡ cell_seen (Some kind)
unfolding kind_cell
seen_cell (board.Holds kind) = refl
seen_cell (board.HoldsPointer kind) = refl
seen_cell board.HoldsHandle = refl
seen_cell board.Nothing = refl

pub elem_cell_is : (o : Option Cell) (e : Elem) → IsCellElem o (Some e) → (cell : Cell) × (o ≡ Some cell) × (elem_held e ≡ Some cell)
elem_cell_is None e h = absurd h
elem_cell_is (Some cell) e h = (cell, refl, h)

pub no_elem_cell : (o : Option Cell) → IsCellElem o None → o ≡ None
no_elem_cell None h = refl
no_elem_cell (Some cell) h = absurd h

module _ (room : ℕ) (fs : List RamFrame) where
  pub kept_is : (r : RamValue) (o : Option Value) → KeptAlike room fs (Some r) o → (w : Value) × (o ≡ Some w) × IsValue room fs r w
  kept_is r None h = absurd h
  kept_is r (Some w) h = (w, refl, h)

  pub not_kept : (o : Option Value) → KeptAlike room fs None o → o ≡ None
  not_kept None h = refl
  not_kept (Some w) h = absurd h

  zero_is : (o : Option Cell) → IsValue room fs (zero_by o) (zero_in o)
  zero_is None = refl
  zero_is (Some (Bits I1)) = refl
  zero_is (Some (Bits U1)) = refl
  zero_is (Some (Bits I2)) = refl
  zero_is (Some (Bits U2)) = refl
  zero_is (Some (Bits I4)) = refl
  zero_is (Some (Bits U4)) = refl
  zero_is (Some (Bits I8)) = refl
  zero_is (Some (Bits U8)) = refl
  zero_is (Some Refers) = refl

  module _ (type : PlaceType) where
    pub plain_unput : (cell : Cell) (e : Elem) → elem_held e ≡ Some cell → kind_of type ≡ Some (Holds cell) → IsValue room fs (zero_by (elem_held e)) (zero_place type)
    unfolding zero_kind
    plain_unput cell e h k =
        subst (λ (o : Option Cell). IsValue room fs (zero_by o) (zero_place type)) (sym h)
        (subst (λ (v : Value). IsValue room fs (zero_by (Some cell)) v) (sym (ap zero_kind k) ∙ sym (type_zero type)) (zero_is (Some cell)))

    null_unput : (kind : Option PlaceKind) → zero_kind kind ≡ Null → kind_of type ≡ kind → IsValue room fs (zero_by (elem_held elem.Object)) (zero_place type)
    null_unput kind z k = subst (λ (v : Value). IsValue room fs (zero_by (elem_held elem.Object)) v) (sym z ∙ sym (ap zero_kind k) ∙ sym (type_zero type)) (zero_is (Some Refers))

    pub pointer_unput : (cell : Cell) → kind_of type ≡ Some (HoldsPointer cell) → IsValue room fs (zero_by (elem_held elem.Object)) (zero_place type)
    unfolding zero_kind
    pointer_unput cell k = null_unput (Some (HoldsPointer cell)) refl k

    pub handle_unput : kind_of type ≡ Some HoldsHandle → IsValue room fs (zero_by (elem_held elem.Object)) (zero_place type)
    unfolding zero_kind
    handle_unput k = null_unput (Some HoldsHandle) refl k

    pub nothing_unput : kind_of type ≡ None → IsValue room fs (zero_by (elem_held elem.Object)) (zero_place type)
    unfolding zero_kind
    nothing_unput k = null_unput None refl k

  -- what is seen of a place that holds a value of the machine
  pub shown_is : (unput v : Value) (e : Elem) (held : Option RamValue) → IsHeld room fs unput held v → IsValue room fs (zero_by (elem_held e)) unput → IsValue room fs (shown e held) v
  shown_is unput v e None h z = subst (λ (w : Value). IsValue room fs (zero_by (elem_held e)) w) (sym h) z
  shown_is unput v e (Some r) h z = h
