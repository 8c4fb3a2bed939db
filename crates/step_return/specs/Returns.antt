-- What a return reads of the program, and how it ends.
use Rattle.std.specs.Prelude.{◌≡◌, ℕ, ℤ, ◌^◌, ◌<◌, nat_lt, Bool, true, false, List, [], ◌∷◌, slice_index, Option, Some, None}
use Rattle.std.specs.Option.{option_map}
use Rattle.board_types.specs.declared.board.TypeAt.{TypeAt}
use Rattle.board_types.specs.declared.value.Value.{Value as RamValue}
use Rattle.board_types.specs.declared.value.Value.TheVariants as ram
use Rattle.machine.specs.Data.{Id, PlaceType, Plain, To, Value, Frame, State}
use Rattle.machine.specs.Data as machine
use Rattle.machine.specs.Program.{Program, Method}
use Rattle.machine.specs.Numbers.{kind_of}
use Rattle.machine.specs.Throw.{on_some, goes}
use Rattle.machine.specs.Calls.{with_result}
use Rattle.tiny_ram.specs.Memory.{RamFrame, Memory, with_frames, top_value, pushed}
use Rattle.tiny_ram.specs.Region.{Keeps}
use Rattle.tiny_ram.specs.declared.memory.Ram.{Ram}
use Rattle.memory_states.specs.Values.{id_of, IsValue}
use Rattle.memory_states.specs.States.{StandsFor}
use Rattle.kept_values.specs.declared.keeping.PlaceKind.{PlaceKind}
use Rattle.kept_values.specs.Keeping.{kind_seen, kept_as}
use Rattle.step_ends.specs.Ends.{GoesOn, Ends}
use Rattle.step_ends.specs.declared.acted.Acted.TheVariants.{Done, Stuck, Spent, Raises}
use Rattle.step_return.specs.declared.returning.Returned.{Returned}
use Rattle.step_return.specs.declared.returning.Returned.TheVariants.{Acted, Ended}

-- what is told of places behind lines is the program's
abbrev pub LinesAre : Program → (TypeAt → ℕ → Option ℕ) → Type 0
LinesAre p behind = (of : TypeAt) (place : ℕ) → place < 2 ^ 32 → option_map (λ line. line.next) (p.fetch (id_of of) place) ≡ behind of place

-- the kind of what a method hands back, which is never a managed pointer
abbrev pub IsResultKind : Option PlaceKind → Option PlaceType → Type 0
IsResultKind None None = Unit {0}
IsResultKind (Some kind) (Some (Plain type)) = kind_seen kind ≡ kind_of (Plain type)
IsResultKind (Some kind) (Some (To type)) = ⊥
IsResultKind (Some kind) None = ⊥
IsResultKind None (Some type) = ⊥

pub record HandsBack (p : Program) (id : Id) (kind : Option PlaceKind) : Type 0 where
  pub of : Method
  pub is : p.method id ≡ Some of
  pub kinds : IsResultKind kind of.returns

-- nothing, or a value
abbrev pub IsResult : ℕ → List RamFrame → Option RamValue → Option Value → Type 0
IsResult room fs None None = Unit {0}
IsResult room fs (Some r) (Some v) = IsValue room fs r v
IsResult room fs (Some r) None = ⊥
IsResult room fs None (Some v) = ⊥

-- the frame goes on behind its call
abbrev pub goes_behind : Program → State → Frame → List Frame → Option Value → Option State
goes_behind p s g gs v = on_some (p.fetch g.method g.place) (λ line. goes p s g gs line.next (with_result v g.stack))

-- what the first method of a run hands back ends it
abbrev pub ended_with : Option RamValue → Returned
ended_with None = Ended None
ended_with (Some (ram.Int n)) = Ended (Some n)
ended_with (Some v) = Acted Stuck

-- a value as it is, where it is of the kind
abbrev pub whole_result : PlaceKind → RamValue → Option (Option RamValue)
whole_result kind r = on_some (kept_as kind r) (λ w. Some (Some r))

-- what a method hands back off the stack of its frame: none where it isn't of the kind
abbrev pub result_held : Option PlaceKind → RamFrame → Option (Option RamValue)
result_held None f = Some None
result_held (Some kind) f = on_some (top_value f) (whole_result kind)

abbrev pub pushed_result : RamFrame → Option RamValue → RamFrame
pushed_result f None = f
pushed_result f (Some r) = pushed f r

abbrev pub has_room : RamFrame → Option RamValue → Bool
has_room f None = true
has_room f (Some r) = nat_lt f.depth (slice_index f.sizes 2)

-- the region keeps a memory whose innermost frame differs at most by what lies on its stack
pub record KeepsOver (u : Ram) (m : Memory) (f : RamFrame) (fs : List RamFrame) : Type 0 where
  pub frame : RamFrame
  pub initialiser : frame.initialiser ≡ f.initialiser
  pub keeps : Keeps u (with_frames m (frame ∷ fs))

module _ (p : Program) (outer : Id → ℕ → ℕ → Bool) where
  -- before the innermost frame ends: its callers are the machine's
  pub record Leaves (r : Ram) (m : Memory) (s : State) (f : RamFrame) (fs : List RamFrame) (gs : List Frame) (initialiser : Bool) : Type 0 where
    pub keeps : Keeps r m
    pub ram_frames : m.frames ≡ f ∷ fs
    pub same : f.initialiser ≡ initialiser
    pub callers : StandsFor p outer (with_frames m fs) (record s { frames = gs })

  abbrev pub WentOn : State → Ram → ℕ → Option State → Bool → Type 0
  WentOn s u room next true = GoesOn p outer s u room next
  WentOn s u room next false = next ≡ None

  -- the machine's run has ended with the number
  pub record EndsRun (s : State) (u : Ram) (room : ℕ) (next : Option State) (number : Option ℤ) : Type 0 where
    pub is : next ≡ Some (record s { frames = []; end = machine.Returned number })
    pub memory : Memory
    pub kept : Keeps u memory
    pub alike : StandsFor p outer memory (record s { frames = []; end = machine.Returned number })
    pub same_room : memory.room ≡ room

  abbrev pub ReturnEnds : Memory → State → Ram → Option State → Returned → Type 0
  ReturnEnds m s u next (Acted acted) = Ends p outer m s u next acted
  ReturnEnds m s u next (Ended number) = EndsRun s u m.room next number

  -- a return takes no cells and raises nothing
  abbrev pub HandedBack : State → Ram → ℕ → Option State → Returned → Type 0
  HandedBack s u room next (Acted Done) = GoesOn p outer s u room next
  HandedBack s u room next (Acted Stuck) = next ≡ None
  HandedBack s u room next (Acted Spent) = ⊥
  HandedBack s u room next (Acted (Raises known)) = ⊥
  HandedBack s u room next (Ended number) = EndsRun s u room next number
