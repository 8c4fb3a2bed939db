-- Exceptions over a memory: the search for a catch, and the finally blocks on the way (I.12.4.2).
use Rattle.std.specs.Int.{w32, cast_signed, cast_unsigned}
use Rattle.std.specs.Prelude.{ℕ, ℤ, suc, pos, ◌+◌, ◌-◌, Bool, false, ◌&&◌, ◌||◌, not, ◌==◌, nat_le, if◌then◌else◌, List, [], ◌∷◌, drop, Option, Some, None, is_some, unwrap_or, slice_set}
use Rattle.std.specs.Option.{option_map}
use Rattle.board_types.specs.declared.board.TypeAt.{TypeAt}
use Rattle.board_types.specs.declared.value.Value.{Value}
use Rattle.board_types.specs.declared.value.Value.TheVariants.{Int, Long, Ref, Pointer, Handle}
use Rattle.tiny_ram.specs.Things.{Entry, fresh, entry_cells, object_shape}
use Rattle.tiny_ram.specs.Memory.{RamFrame, Memory, entry_at, heap_cells, used, with_entry, with_frames, pushed}
use Rattle.memory_states.specs.Told.{Told}
pub use Rattle.memory_states.specs.States.{slot_index, slot_held}
use Rattle.tiny_except.specs.Clauses.{first_sought}
use Rattle.tiny_except.specs.declared.clauses.Found.{Found}
use Rattle.tiny_except.specs.declared.clauses.Regions.{Regions}
use Rattle.tiny_except.specs.declared.clauses.Regions.TheVariants.{Try, Round, Handler}
use Rattle.tiny_except.specs.declared.clauses.Goal.{Goal}
use Rattle.tiny_except.specs.declared.clauses.Goal.TheVariants.{Catch, Stop, Finally, Leaving}
use Rattle.tiny_except.specs.declared.unwinding.Plan.{Plan}
use Rattle.tiny_except.specs.declared.unwinding.Plan.TheVariants.{NoPlan, Throwing, GoingTo}
use Rattle.tiny_except.specs.declared.unwinding.Thrown.{Thrown}
use Rattle.tiny_except.specs.declared.unwinding.Thrown.TheVariants.{Made, Object}

-- ---- the clauses of a frame

abbrev pub number_in : Value → ℤ
number_in (Int n) = n
number_in (Long n) = pos 0
number_in (Ref n) = pos 0
number_in (Pointer at) = pos 0
number_in (Handle field) = pos 0

-- the place in the code; one before the code is modulo 2 ^ 32
abbrev pub code_place : RamFrame → ℕ
code_place f = cast_unsigned w32 f.place

-- a frame is searched from its place in the code, or on from a finally that has ended
abbrev pub regions_from : Option Found → ℕ → Regions
regions_from None place = Try place
regions_from (Some ended) place = Round ended.clause

abbrev pub first_from : Option Found → ℕ
first_from None = 0
first_from (Some ended) = suc ended.number

abbrev pub stop_in : Told → Goal → Option Found → RamFrame → Option Found
stop_in t goal ended f =
    first_sought t (record { regions = regions_from ended (code_place f); goal = goal }) (first_from ended) (drop (first_from ended) (t.clauses f.method))

-- ---- the first pass: whether a catch takes the class

-- no exception is searched for out of an initialiser's frame
abbrev pub fits : Told → TypeAt → List RamFrame → Bool
fits t class [] = false
fits t class (f ∷ fs) = is_some (stop_in t (Catch class) None f) || (not f.initialiser && fits t class fs)

-- ---- the second pass: frames end up to the first that has a finally to run, or the catch

pub record Landing : Type 0 where
  pub frame : RamFrame
  pub callers : List RamFrame
  pub stop : Found

abbrev pub landed_in : RamFrame → List RamFrame → Option Found → Option Landing → Option Landing
landed_in f fs None rest = rest
landed_in f fs (Some stop) rest = Some (record { frame = f; callers = fs; stop = stop })

abbrev pub landing : Told → TypeAt → Option Found → List RamFrame → Option Landing
landing t class ended [] = None
landing t class ended (f ∷ fs) = landed_in f fs (stop_in t (Stop class) ended f) (landing t class None fs)

-- ---- entering a handler

-- a clause's handler starts, with nothing on the stack and a value in the clause's slot
abbrev pub entered : RamFrame → Found → Value → RamFrame
entered f stop v = record f { places = slice_set f.places (slot_index f stop.number) (Some v); place = cast_signed w32 stop.clause.start; depth = 0 }

-- a catch starts with the exception on the stack
abbrev pub stopped : RamFrame → Found → ℕ → RamFrame
stopped f stop object =
    if stop.clause.kind == 0 then pushed (entered f stop (Ref object)) (Ref object) else entered f stop (Ref object)

-- ---- a throw

abbrev pub class_in : List Entry → ℕ → Option TypeAt
class_in heap object = if object == 0 then None else option_map (λ (e : Entry). e.shape.of.of) (entry_at heap (object - 1))

-- the class of what is thrown; none where there is no such object
abbrev pub thrown_class : Memory → Thrown → Option TypeAt
thrown_class m (Made class fields) = Some class
thrown_class m (Object object) = class_in m.heap object

-- an object that is made lies behind all others
abbrev pub thrown_object : Memory → Thrown → ℕ
thrown_object m (Made class fields) = 1 + heap_cells m.heap
thrown_object m (Object object) = object

-- the object is made, where its cells do
abbrev pub with_thrown : Memory → Thrown → Option Memory
with_thrown m (Object object) = Some m
with_thrown m (Made class fields) =
    let e = fresh (object_shape class fields) in
    if nat_le (used m + entry_cells e) m.room then Some (with_entry m e) else None

-- what a throw answers, and the memory then
pub record After : Type 0 where
  pub class : Option TypeAt
  pub memory : Memory

abbrev pub at_stop : Memory → Option Landing → ℕ → Memory
at_stop m None object = with_frames m []
at_stop m (Some l) object = with_frames m (stopped l.frame l.stop object ∷ l.callers)

abbrev pub before_stop : Memory → Option Landing → Memory
before_stop m None = with_frames m []
before_stop m (Some l) = with_frames m (l.frame ∷ l.callers)

abbrev pub caught : Memory → Option Landing → Thrown → Option After
caught m l thrown =
    option_map (λ made. let a : After = record { class = None; memory = at_stop made l (thrown_object m thrown) } in a) (with_thrown (before_stop m l) thrown)

abbrev pub uncaught : Memory → TypeAt → Thrown → Option After
uncaught m class thrown = option_map (λ made. let a : After = record { class = Some class; memory = made } in a) (with_thrown m thrown)

-- none where the cells of the state after it don't do. Where no clause fits, no frame ends
abbrev pub thrown_after : Told → Memory → TypeAt → Thrown → Option After
thrown_after t m class thrown =
    if fits t class m.frames then caught m (landing t class None m.frames) thrown else uncaught m class thrown

-- ---- leave, and the end of a finally

-- the frame goes to the target, or into the first finally that is left on the way
abbrev pub left_by : RamFrame → ℕ → Option Found → RamFrame
left_by f target None = record f { place = cast_signed w32 target; depth = 0 }
left_by f target (Some stop) = entered f stop (Int (cast_signed w32 target))

abbrev pub left_in : Told → ℕ → Option Found → RamFrame → RamFrame
left_in t target ended f = left_by f target (stop_in t (Leaving target) ended f)

-- the innermost frame changes
abbrev pub topped : List RamFrame → (RamFrame → RamFrame) → List RamFrame
topped [] go = []
topped (f ∷ fs) go = go f ∷ fs

abbrev pub on_top : Memory → (RamFrame → RamFrame) → Memory
on_top m go = with_frames m (topped m.frames go)

abbrev pub left_after : Told → ℕ → Memory → Memory
left_after t target m = on_top m (left_in t target None)

-- the finally whose handler holds the place
abbrev pub ended_in : Told → RamFrame → Option Found
ended_in t f = first_sought t (record { regions = Handler (code_place f); goal = Finally }) 0 (t.clauses f.method)

-- in a finally's slot a reference is the exception of a plan, and an int32 the target of a leave
abbrev pub plan_by : Value → Plan
plan_by (Int target) = GoingTo (cast_unsigned w32 target)
plan_by (Ref object) = if object == 0 then NoPlan else Throwing object
plan_by (Long n) = NoPlan
plan_by (Pointer at) = NoPlan
plan_by (Handle field) = NoPlan

abbrev pub plan_in : RamFrame → Option Found → Plan
plan_in f None = NoPlan
plan_in f (Some ended) = plan_by (unwrap_or (slot_held f ended.number) (Ref 0))

abbrev pub plan_at : Told → List RamFrame → Plan
plan_at t [] = NoPlan
plan_at t (f ∷ fs) = plan_in f (ended_in t f)

abbrev pub ended_at : Told → List RamFrame → Option Found
ended_at t [] = None
ended_at t (f ∷ fs) = ended_in t f

abbrev pub class_or_none : Option TypeAt → (TypeAt → Memory) → Option Memory
class_or_none None go = None
class_or_none (Some class) go = Some (go class)

-- the plan is taken up; none where there is none
abbrev pub taken_up : Told → Memory → Plan → Option Memory
taken_up t m NoPlan = None
taken_up t m (GoingTo target) = Some (on_top m (left_in t target (ended_at t m.frames)))
taken_up t m (Throwing object) = class_or_none (class_in m.heap object) (λ class. at_stop m (landing t class (ended_at t m.frames) m.frames) object)
