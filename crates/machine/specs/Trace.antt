-- Cells, and what a run shows.
use Rattle.std.specs.Prelude.{ℕ, ℤ, zero, suc, ◌+◌, Bool, true, false, ◌||◌, nat_lt, if◌then◌else◌, List, [], ◌∷◌, length, Option, Some, None}
use Rattle.plain_types.specs.declared.elem.Elem.TheVariants as elem
use Rattle.machine.specs.Data.{Id, CliType, Basic, ArrayOf, PlaceType, Plain, To, type_eq, end_of, Value, Object, Thing, Elements, Frame, State, End, Going, Returned, Threw}
use Rattle.machine.specs.Program.{Program, Initialiser}
use Rattle.machine.specs.Throw.{on_some}
use Rattle.machine.specs.Rows.{frames_cells}
use Rattle.machine.specs.Calls.{start_frame, if_none}
use Rattle.machine.specs.Step.{step}

-- of all objects ever made, the static fields accessed, and the live frames
abbrev pub cells : Program → State → ℕ
cells p s = end_of s.heap + frames_cells p s.frames

-- a state for which so many cells, or the output's store of 4 MiB, don't do
unfoldable pub passes : Program → State → ℕ → Bool
passes p s most = nat_lt most (cells p s) || nat_lt 4194304 (length s.output)

-- a place in a method's code
pub record CodePlace : Type 0 where
  pub method : Id
  pub place : ℕ

pub data Finish : Type 0 where
  WithNumber : (number : Option ℤ) → Finish
  WithClass : (name : List ℕ) → Finish
  MemorySpent : Finish
  StepsSpent : Finish
  -- a state that has no case, at the place of its topmost frame
  NoCase : (at : Option CodePlace) → Finish
  -- the entry method isn't one that a run can start with
  NoStart : Finish

abbrev pub is_stuck : Finish → Bool
is_stuck (NoCase at) = true
is_stuck NoStart = true
is_stuck (WithNumber number) = false
is_stuck (WithClass name) = false
is_stuck MemorySpent = false
is_stuck StepsSpent = false

pub record Trace : Type 0 where
  pub output : List ℕ
  pub finish : Finish

abbrev pub at_end : Program → State → End → Trace → Trace
at_end p s Going rest = rest
at_end p s (Returned n) rest = record { output = s.output; finish = WithNumber n }
at_end p s (Threw class) rest = record { output = s.output; finish = WithClass (p.name class) }

abbrev pub top_place : List Frame → Option CodePlace
top_place [] = None
top_place (f ∷ fs) = Some (record { method = f.method; place = f.place })

-- at most n steps from a state, where this was printed before its step: memory is spent at the first state that passes, and is
-- looked at before an end
abbrev pub trace_from : Program → ℕ → ℕ → List ℕ → State → Trace
trace_from p most zero before s =
    if passes p s most then record { output = before; finish = MemorySpent }
    else at_end p s s.end (record { output = s.output; finish = StepsSpent })
trace_from p most (suc n) before s =
    if passes p s most then record { output = before; finish = MemorySpent }
    else at_end p s s.end
    (elim (step p s) [ None ↦ record { output = s.output; finish = NoCase (top_place s.frames) } | Some t ↦ trace_from p most n s.output t ])

-- ---- the start

-- objects made for the entry method, and its arguments: nothing, or an empty array of strings
pub record Given : Type 0 where
  pub heap : List Thing
  pub arguments : List Value

abbrev pub strings : CliType
strings = ArrayOf (Basic elem.String)

abbrev pub given_for : List PlaceType → Option Given
given_for [] = Some (record { heap = []; arguments = [] })
given_for (Plain type ∷ []) = if type_eq type strings then Some (record { heap = Elements (Basic elem.String) [] ∷ []; arguments = Object 0 ∷ [] }) else None
given_for (To type ∷ []) = None
given_for (a ∷ b ∷ more) = None

-- nothing or an int32 is returned
abbrev pub is_main_result : Option PlaceType → Bool
is_main_result None = true
is_main_result (Some (Plain type)) = type_eq type (Basic elem.I4)
is_main_result (Some (To type)) = false

abbrev pub begun : List Thing → List Frame → List Id → State
begun heap frames started =
    record { frames = frames; heap = heap; literals = []; statics = []; started = started; output = []; end = Going }

-- the frame of the entry method, below the one of its class's initialiser if that has to run first
abbrev pub started_state : Program → List Thing → Frame → Option Initialiser → Option State
started_state p heap f None = Some (begun heap (f ∷ []) [])
started_state p heap f (Some i) =
    on_some (p.method i.method) (λ n. if_none n.arguments (Some (begun heap (start_frame true i.method n [] ∷ f ∷ []) (i.class ∷ []))))

unfoldable pub start : Program → Option State
start p =
    on_some p.entry (λ id.
    on_some (p.method id) (λ m.
    on_some (given_for m.arguments) (λ given.
    if is_main_result m.returns then started_state p given.heap (start_frame false id m given.arguments) p.first else None)))

-- what a run of at most n steps in so many cells shows
unfoldable pub trace : Program → ℕ → ℕ → Trace
trace p n most = elim (start p) [ None ↦ record { output = []; finish = NoStart } | Some s ↦ trace_from p most n [] s ]

-- ---- states

abbrev pub on_going : End → Option State → Option State
on_going Going next = next
on_going (Returned number) next = None
on_going (Threw class) next = None

-- the next state of a run, which has none after its end
abbrev pub next_state : Program → State → Option State
next_state p s = on_going s.end (step p s)

-- the state of a run after n steps, whatever its cells
abbrev pub state_after : Program → ℕ → Option State
state_after p zero = start p
state_after p (suc n) = on_some (state_after p n) (next_state p)
