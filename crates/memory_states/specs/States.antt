-- Which states of the machine a memory stands for.
use Rattle.std.specs.Int.{w32, cast_signed}
use Rattle.std.specs.Prelude.{◌≡◌, ℕ, ◌+◌, ◌-◌, ◌^◌, ◌<◌, ◌≤◌, Bool, true, false, List, [], ◌∷◌, length, Option, Some, None, slice_get, slice_index, unwrap_or}
use Rattle.board_types.specs.declared.board.TypeAt.{TypeAt}
use Rattle.board_types.specs.declared.board.ClauseAt.{ClauseAt}
use Rattle.board_types.specs.declared.value.Value.{Value as RamValue}
use Rattle.board_types.specs.declared.value.Value.TheVariants.{Int, Ref}
use Rattle.machine.specs.Data.{Id, PlaceType, thing_at, Value, Thing, Turn, Slot, Nothing, Caught, Throwing, Leaving, Frame, State}
use Rattle.machine.specs.Program.{Program, Method, Clause, ClauseKind, Catch, Final, Idle}
use Rattle.machine.specs.Numbers.{zero_place}
use Rattle.machine.specs.Throw.{on_some, is_final, thrown_class}
use Rattle.machine_rename.specs.Again.{again, left_again}
use Rattle.tiny_ram.specs.Memory.{RamFrame, Memory, variables}
use Rattle.memory_states.specs.Told.{Told, in_try, is_round}
use Rattle.memory_states.specs.Values.{id_of, IsValue, IsHeld, AreThings}

-- ---- what is told of the set is the program's

abbrev pub KindIs : Program → Told → ClauseAt → ClauseKind → Type 0
KindIs p t c (Catch class) = (c.kind ≡ 0) × ((a : TypeAt) → p.is_sub (id_of a) class ≡ t.sub a c.class)
KindIs p t c Final = c.kind ≡ 2
-- takes no exception
KindIs p t c Idle = (c.kind ≡ 0) × ((a : TypeAt) → t.sub a c.class ≡ false)

abbrev pub ClausesAre : Program → Told → List ClauseAt → List Clause → Type 0
ClausesAre p t [] [] = Unit {0}
ClausesAre p t (c ∷ cs) (d ∷ ds) = (KindIs p t c d.kind × (d.start ≡ c.start)) × ClausesAre p t cs ds
ClausesAre p t _ _ = ⊥

-- `outer m j k` is whether the try of clause j of m holds that of clause k
pub record Tells (t : Told) (p : Program) (outer : Id → ℕ → ℕ → Bool) : Type 0 where
  pub clauses : (of : TypeAt) (m : Method) → p.method (id_of of) ≡ Some m → ClausesAre p t (t.clauses of) m.clauses
  pub tries : (of : TypeAt) (k : ℕ) (c : ClauseAt) → slice_get (t.clauses of) k ≡ Some c → (place : ℕ) → p.try_holds (id_of of) k place ≡ in_try c place
  pub rounds : (of : TypeAt) (j k : ℕ) (c d : ClauseAt) → slice_get (t.clauses of) j ≡ Some c → slice_get (t.clauses of) k ≡ Some d → outer (id_of of) j k ≡ is_round c d
  pub starts : (of : TypeAt) (k : ℕ) (c : ClauseAt) → slice_get (t.clauses of) k ≡ Some c → c.start < 2 ^ 16
  -- a method with a catch has room for the exception
  pub room : (of : TypeAt) (m : Method) → p.method (id_of of) ≡ Some m → (k : ℕ) (c : ClauseAt) → slice_get (t.clauses of) k ≡ Some c → c.kind ≡ 0 → 0 < m.max_stack

-- ---- frames

abbrev pub place_held : RamFrame → ℕ → Option RamValue
place_held f i = unwrap_or (slice_get f.places i) None

-- the arguments come first, then the locals, the stack from its bottom, and the slots
abbrev pub argument_held : RamFrame → ℕ → Option RamValue
argument_held f i = place_held f i

abbrev pub local_held : RamFrame → ℕ → Option RamValue
local_held f i = place_held f (slice_index f.sizes 0 + i)

-- the i-th value from the top
abbrev pub stack_held : RamFrame → ℕ → Option RamValue
stack_held f i = place_held f (variables f + (f.depth - (i + 1)))

abbrev pub slot_index : RamFrame → ℕ → ℕ
slot_index f k = variables f + slice_index f.sizes 2 + k

abbrev pub slot_held : RamFrame → ℕ → Option RamValue
slot_held f k = place_held f (slot_index f k)

-- the values are those of places of these types
abbrev pub PlacesAre : ℕ → List RamFrame → (ℕ → Option RamValue) → List PlaceType → List Value → Type 0
PlacesAre room fs held types vs = (i : ℕ) (type : PlaceType) (v : Value) → slice_get types i ≡ Some type → slice_get vs i ≡ Some v → IsHeld room fs (zero_place type) (held i) v

module _ (p : Program) (outer : Id → ℕ → ℕ → Bool) (heap : List Thing) where
  -- an object of a class
  pub record IsThrown (object : ℕ) (class : Id) : Type 0 where
    pub is : on_some (thing_at heap object) thrown_class ≡ Some class

  -- the k-th clause is a finally
  abbrev pub IsFinal : Method → ℕ → Bool → Type 0
  IsFinal m k b = (c : Clause) → slice_get m.clauses k ≡ Some c → is_final c.kind ≡ b

  -- in a method's frame, what is left of a throw is what is searched again from its finally
  pub record IsThrowing (id : Id) (initialiser : Bool) (gs : List Frame) (k : ℕ) (turns : List Turn) (catch object : ℕ) : Type 0 where
    pub class : Id
    pub thrown : IsThrown object class
    pub rest : again p outer id initialiser k class gs ≡ Some (record { turns = turns; catch = catch })

  abbrev pub IsSlot : Method → Id → Bool → List Frame → ℕ → Option RamValue → Slot → Type 0
  IsSlot m id initialiser gs k held Nothing = held ≡ None
  IsSlot m id initialiser gs k held (Caught object) = (held ≡ Some (Ref (1 + object))) × IsFinal m k false × ((class : Id) × IsThrown object class)
  IsSlot m id initialiser gs k held (Throwing turns catch object) = (held ≡ Some (Ref (1 + object))) × IsFinal m k true × IsThrowing id initialiser gs k turns catch object
  IsSlot m id initialiser gs k held (Leaving finals target) =
      (held ≡ Some (Int (cast_signed w32 target))) × IsFinal m k true × (target < 2 ^ 32) × (finals ≡ left_again p outer id k target m.clauses)

  -- a frame over its callers is the machine's
  pub record IsMachineFrame (room : ℕ) (f : RamFrame) (fs : List RamFrame) (g : Frame) (gs : List Frame) : Type 0 where
    pub of : Method
    pub is : p.method g.method ≡ Some of
    pub method : id_of f.method ≡ g.method
    pub initialiser : f.initialiser ≡ g.initialiser
    pub place : f.place ≡ cast_signed w32 g.place
    pub place_fits : g.place < 2 ^ 32
    pub sizes : f.sizes ≡ length of.arguments ∷ length of.locals ∷ of.max_stack ∷ length of.clauses ∷ []
    pub count : length f.places ≡ length of.arguments + length of.locals + of.max_stack + length of.clauses
    pub argument_count : length g.arguments ≡ length of.arguments
    pub local_count : length g.locals ≡ length of.locals
    pub slot_count : length g.slots ≡ length of.clauses
    pub depth : f.depth ≡ length g.stack
    pub most : length g.stack ≤ of.max_stack
    pub arguments : PlacesAre room (f ∷ fs) (argument_held f) of.arguments g.arguments
    pub locals : PlacesAre room (f ∷ fs) (local_held f) of.locals g.locals
    pub stack : (i : ℕ) (v : Value) → slice_get g.stack i ≡ Some v → (r : RamValue) × (stack_held f i ≡ Some r) × IsValue room (f ∷ fs) r v
    pub slots : (k : ℕ) (slot : Slot) → slice_get g.slots k ≡ Some slot → IsSlot of g.method g.initialiser gs k (slot_held f k) slot

  abbrev pub AreFrames : ℕ → List RamFrame → List Frame → Type 0
  AreFrames room [] [] = Unit {0}
  AreFrames room (f ∷ fs) (g ∷ gs) = IsMachineFrame room f fs g gs × AreFrames room fs gs
  AreFrames room _ _ = ⊥

-- the memory has the state's objects and frames; literals, static fields and started classes stand elsewhere
pub record StandsFor (p : Program) (outer : Id → ℕ → ℕ → Bool) (m : Memory) (s : State) : Type 0 where
  pub heap : AreThings p m.room m.heap s.heap
  pub frames : AreFrames p outer s.heap m.room m.frames s.frames
