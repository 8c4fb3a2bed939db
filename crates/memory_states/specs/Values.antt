-- Types, values and objects of a memory as the machine's.
use Rattle.std.specs.Prelude.{◌≡◌, ℕ, pos, ◌+◌, List, [], ◌∷◌, map, length, Option, Some, None, slice_index}
use Rattle.board_types.specs.declared.board.TypeAt.{TypeAt}
use Rattle.board_types.specs.declared.board.BoardType.{BoardType}
use Rattle.board_types.specs.declared.value.RamPlace.{RamPlace}
use Rattle.board_types.specs.declared.value.Value.{Value as RamValue}
use Rattle.board_types.specs.declared.value.Value.TheVariants as ram
pub use Rattle.board_ids.specs.Ids.{id_of, plain_type, in_brackets, cli_type}
use Rattle.machine.specs.Data.{Id, CliType, Spot, InArgument, InLocal, InObject, Value, Int, Long, Null, Object, Handle, Pointer, Thing, Instance, Text, Elements, Boxed, StaticCell}
use Rattle.machine.specs.Program.{Program}
use Rattle.machine.specs.Numbers.{zero_of}
use Rattle.ram_words.specs.Elements.{elem_held}
use Rattle.ram_words.specs.Headers.{static_shape}
use Rattle.tiny_ram.specs.Things.{Entry, object_shape, array_shape, string_shape, box_shape}
use Rattle.tiny_ram.specs.Memory.{RamFrame, frame_at}

-- ---- values

-- a frame's number is one more than the cells from the first up to it, so with the cells of it and its callers it is one more than
-- the room
module _ (room : ℕ) (fs : List RamFrame) where
  -- the local of a frame that is there, behind the frame's arguments
  pub record IsLocal (at : RamPlace) (n : ℕ) : Type 0 where
    pub frame : RamFrame
    pub there : frame_at room fs at.thing ≡ Some frame
    pub index : at.index ≡ slice_index frame.sizes 0 + n

  -- the place is where the machine's pointer leads, in one of the frames or in an object
  abbrev pub IsSpot : RamPlace → Spot → Type 0
  IsSpot at (InArgument depth n) = (at.thing + depth ≡ 1 + room) × (at.index ≡ n)
  IsSpot at (InLocal depth n) = (at.thing + depth ≡ 1 + room) × IsLocal at n
  IsSpot at (InObject object n) = (at.thing ≡ 1 + object) × (at.index ≡ n)

  -- an object's number is the machine's, and one more
  abbrev pub IsValue : RamValue → Value → Type 0
  IsValue (ram.Int n) (Int k) = n ≡ k
  IsValue (ram.Long n) (Long k) = n ≡ k
  IsValue (ram.Ref n) Null = n ≡ 0
  IsValue (ram.Ref n) (Object k) = n ≡ 1 + k
  IsValue (ram.Handle field) (Handle f) = id_of field ≡ f
  IsValue (ram.Pointer at) (Pointer cell spot) = (elem_held at.elem ≡ Some cell) × IsSpot at spot
  IsValue _ _ = ⊥

  -- what a place holds; where nothing was put, the zero of its type
  abbrev pub IsHeld : Value → Option RamValue → Value → Type 0
  IsHeld unput None v = v ≡ unput
  IsHeld unput (Some r) v = IsValue r v

  abbrev pub AllHeld : Value → List (Option RamValue) → List Value → Type 0
  AllHeld unput [] [] = Unit {0}
  AllHeld unput (r ∷ rs) (v ∷ vs) = IsHeld unput r v × AllHeld unput rs vs
  AllHeld unput _ _ = ⊥

  abbrev pub FieldsHeld : List CliType → List (Option RamValue) → List Value → Type 0
  FieldsHeld [] [] [] = Unit {0}
  FieldsHeld (k ∷ ks) (r ∷ rs) (v ∷ vs) = IsHeld (zero_of k) r v × FieldsHeld ks rs vs
  FieldsHeld _ _ _ = ⊥

-- ---- objects, in which no pointer leads into a frame

module _ (p : Program) (room : ℕ) where
  pub record IsInstance (e : Entry) (class : Id) (vs : List Value) : Type 0 where
    pub of : TypeAt
    pub class_is : id_of of ≡ class
    pub shape : e.shape ≡ object_shape of (length vs)
    pub types : List CliType
    pub fields : p.fields class ≡ Some types
    pub places : FieldsHeld room [] types e.places vs

  pub record IsArray (e : Entry) (element : CliType) (vs : List Value) : Type 0 where
    pub of : BoardType
    pub element_is : cli_type of ≡ element
    pub shape : e.shape ≡ array_shape of (length vs)
    pub places : AllHeld room [] (zero_of element) e.places vs

  pub record IsBox (e : Entry) (type : CliType) (v : Value) : Type 0 where
    pub of : BoardType
    pub type_is : cli_type of ≡ type
    pub shape : e.shape ≡ box_shape of
    pub places : AllHeld room [] (zero_of type) e.places (v ∷ [])

  abbrev pub IsThing : Entry → Thing → Type 0
  IsThing e (Instance class vs) = IsInstance e class vs
  IsThing e (Text units) = (e.shape ≡ string_shape (length units)) × (e.places ≡ map (λ u. Some (ram.Int (pos u))) units)
  IsThing e (Elements element vs) = IsArray e element vs
  IsThing e (Boxed type v) = IsBox e type v
  IsThing e (StaticCell type v) = (e.shape ≡ static_shape) × AllHeld room [] (zero_of type) e.places (v ∷ [])

  -- the objects in their order
  abbrev pub AreThings : List Entry → List Thing → Type 0
  AreThings [] [] = Unit {0}
  AreThings (e ∷ es) (x ∷ xs) = IsThing e x × AreThings es xs
  AreThings _ _ = ⊥
