-- Exceptions: the search for a catch, and the finally blocks on the way (I.12.4.2).
use Rattle.std.specs.Prelude.{ℕ, suc, Bool, true, false, ◌&&◌, not, nat_le, if◌then◌else◌, List, [], ◌∷◌, ◌++◌, map, length, Option, Some, None, slice_get, slice_set}
use Rattle.std.specs.Option.{option_map}
use Rattle.board_types.specs.declared.board.Known.{Known}
use Rattle.board_types.specs.declared.board.Known.TheVariants.{NullReference}
use Rattle.machine.specs.Data.{Id, thing_at, end_of, Value, Int, Long, Null, Object, Handle, Pointer, Thing, Instance, Text, Elements, Boxed, StaticCell, Turn, Finally, EndFrame, Slot, Nothing, Caught, Throwing, Leaving, Frame, State, Threw}
use Rattle.machine.specs.Program.{Program, Clause, ClauseKind, Catch, Final, Idle}
use Rattle.machine.specs.Numbers.{zero_of}

-- goes on with the value, where there is one
abbrev pub on_some : {A B : Type 0} → Option A → (A → Option B) → Option B
on_some None go = None
on_some (Some x) go = go x

-- the frame goes on at a place with a stack, which has to be within max stack
unfoldable pub goes : Program → State → Frame → List Frame → ℕ → List Value → Option State
goes p s f fs place stack =
    on_some (p.method f.method) (λ m.
    if nat_le (length stack) m.max_stack
    then Some (record s { frames = record f { place = place; stack = stack } ∷ fs })
    else None)

-- the finally blocks passed in a frame, and the clause whose catch takes the exception
pub record Scan : Type 0 where
  pub finals : List ℕ
  pub catch : Option ℕ

abbrev pub scanned : Program → Id → ℕ → Bool → ClauseKind → Scan → Scan
scanned p class k false kind rest = rest
scanned p class k true Final rest = record { finals = k ∷ rest.finals; catch = rest.catch }
scanned p class k true (Catch c) rest = if p.is_sub class c then record { finals = []; catch = Some k } else rest
scanned p class k true Idle rest = rest

-- the clauses from the k-th on, in their order
abbrev pub scan : Program → Id → ℕ → Id → ℕ → List Clause → Scan
scan p m place class k [] = record { finals = []; catch = None }
scan p m place class k (c ∷ cs) = scanned p class k (p.try_holds m k place) c.kind (scan p m place class (suc k) cs)

-- a plan: what is done on the way, and the clause whose catch is entered at its end
pub record Route : Type 0 where
  pub turns : List Turn
  pub catch : ℕ

-- the way out of a frame that has no catch for it, which no exception finds out of an initialiser
abbrev pub way_out : Bool → List ℕ → Option Route → Option Route
way_out true finals rest = None
way_out false finals rest = option_map (λ r. record { turns = map Finally finals ++ EndFrame ∷ r.turns; catch = r.catch }) rest

abbrev pub route_of : Bool → List ℕ → Option ℕ → Option Route → Option Route
route_of initialiser finals (Some k) rest = Some (record { turns = map Finally finals; catch = k })
route_of initialiser finals None rest = way_out initialiser finals rest

-- from the throwing place outwards, and then in the calling frames at their call instructions
abbrev pub search_frames : Program → Id → List Frame → Option Route
search_frames p class [] = None
search_frames p class (f ∷ fs) =
    on_some (p.method f.method) (λ m.
    let r = scan p f.method f.place class 0 m.clauses in
    route_of f.initialiser r.finals r.catch (search_frames p class fs))

-- a clause's handler starts in its frame
unfoldable pub enter_clause : Program → State → Frame → List Frame → ℕ → List Value → Slot → Option State
enter_clause p s f fs k stack slot =
    on_some (p.method f.method) (λ m.
    on_some (slice_get m.clauses k) (λ c.
    goes p s (record f { slots = slice_set f.slots k slot }) fs c.start stack))

-- the way to a catch, up to the next finally
abbrev pub follow : Program → State → List Frame → List Turn → ℕ → ℕ → Option State
follow p s [] turns catch object = None
follow p s (f ∷ fs) [] catch object = enter_clause p s f fs catch (Object object ∷ []) (Caught object)
follow p s (f ∷ fs) (Finally k ∷ turns) catch object = enter_clause p s f fs k [] (Throwing turns catch object)
follow p s (f ∷ fs) (EndFrame ∷ turns) catch object = follow p s fs turns catch object

abbrev pub taken : Program → State → Id → ℕ → Option Route → Option State
taken p s class object None = Some (record s { end = Threw class })
taken p s class object (Some r) = follow p s s.frames r.turns r.catch object

-- an object is thrown
unfoldable pub throw : Program → State → Id → ℕ → Option State
throw p s class object = taken p s class object (search_frames p class s.frames)

-- an object of a known class is made with all fields zero, and thrown
unfoldable pub raise : Program → State → Known → Option State
raise p s known =
    on_some (p.known known) (λ class.
    on_some (p.fields class) (λ kinds.
    throw p (record s { heap = s.heap ++ Instance class (map zero_of kinds) ∷ [] }) class (end_of s.heap)))

abbrev pub is_final : ClauseKind → Bool
is_final Final = true
is_final (Catch c) = false
is_final Idle = false

-- the finally blocks whose try holds one place and not another
abbrev pub left : Program → Id → ℕ → ℕ → ℕ → List Clause → List ℕ
left p m from to k [] = []
left p m from to k (c ∷ cs) =
    let rest = left p m from to (suc k) cs in
    if is_final c.kind && (p.try_holds m k from && not (p.try_holds m k to)) then k ∷ rest else rest

-- leaves by the finally blocks that are left to run (III.3.46)
abbrev pub leave : Program → State → Frame → List Frame → List ℕ → ℕ → Option State
leave p s f fs [] target = goes p s f fs target []
leave p s f fs (k ∷ ks) target = enter_clause p s f fs k [] (Leaving ks target)

-- takes up the rest of the plan (III.3.35)
abbrev pub take_up : Program → State → Frame → List Frame → Option Slot → Option State
take_up p s f fs (Some (Throwing turns catch object)) = follow p s (f ∷ fs) turns catch object
take_up p s f fs (Some (Leaving finals target)) = leave p s f fs finals target
take_up p s f fs (Some Nothing) = None
take_up p s f fs (Some (Caught object)) = None
take_up p s f fs None = None

-- only objects of classes are thrown
abbrev pub thrown_class : Thing → Option Id
thrown_class (Instance class fields) = Some class
thrown_class (Text units) = None
thrown_class (Elements element values) = None
thrown_class (Boxed type value) = None
thrown_class (StaticCell type value) = None

unfoldable pub throw_thing : Program → State → ℕ → Option State
throw_thing p s object =
    on_some (thing_at s.heap object) (λ thing. on_some (thrown_class thing) (λ class. throw p s class object))

-- an object of System.Exception or of a class below it is thrown (III.4.31)
unfoldable pub throw_exception : Program → State → ℕ → Option State
throw_exception p s object =
    on_some (thing_at s.heap object) (λ thing.
    on_some (thrown_class thing) (λ class.
    on_some p.exception (λ top. if p.is_sub class top then throw p s class object else None)))

abbrev pub throw_value : Program → State → Value → Option State
throw_value p s (Object n) = throw_exception p s n
throw_value p s Null = raise p s NullReference
throw_value p s (Int n) = None
throw_value p s (Long n) = None
throw_value p s (Handle h) = None
throw_value p s (Pointer c x) = None

-- the exception that the catch took (III.4.24)
abbrev pub throw_again : Program → State → Option Slot → Option State
throw_again p s (Some (Caught object)) = throw_thing p s object
throw_again p s (Some (Throwing turns catch object)) = None
throw_again p s (Some (Leaving finals target)) = None
throw_again p s (Some Nothing) = None
throw_again p s None = None
