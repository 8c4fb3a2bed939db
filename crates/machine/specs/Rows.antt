-- What rows are made of: the stack, references, and the memory that pointers lead to.
use Rattle.std.specs.Int.{w32, cast_unsigned, cast_signed}
use Rattle.std.specs.Prelude.{ℕ, ℤ, ◌%◌, ◌^◌, zero, suc, ◌+◌, ◌==◌, if◌then◌else◌, List, [], ◌∷◌, length, Option, Some, None, slice_get, slice_set}
use Rattle.std.specs.Option.{option_map}
use Rattle.board_types.specs.declared.board.Known.{Known}
use Rattle.board_types.specs.declared.board.Known.TheVariants.{NullReference}
use Rattle.machine.specs.Data.{Id, thing_at, put_thing, CliType, PlaceType, Cell, cell_of, Spot, InArgument, InLocal, InObject, Value, Int, Long, Null, Object, Handle, Pointer, Thing, Instance, Text, Elements, Boxed, StaticCell, Frame, State}
use Rattle.machine.specs.Program.{Program, Method}
use Rattle.machine.specs.Numbers.{Answer, Gives, Raises, NoCase, kept, same_width}
use Rattle.machine.specs.Throw.{on_some, goes, raise}

-- the topmost value, and the values below it
abbrev pub on_top : {A B : Type 0} → List A → (A → List A → Option B) → Option B
on_top [] go = None
on_top (v ∷ rest) go = go v rest

-- the second value, the topmost one, and the values below them
abbrev pub on_two : {A B : Type 0} → List A → (A → A → List A → Option B) → Option B
on_two stack go = on_top stack (λ y below. on_top below (λ x rest. go x y rest))

-- the third value, the second, the topmost one, and the values below them
abbrev pub on_three : {A B : Type 0} → List A → (A → A → A → List A → Option B) → Option B
on_three stack go = on_top stack (λ z below. on_two below (λ x y rest. go x y z rest))

pub record Taken (A : Type 0) : Type 0 where
  pub arguments : List A
  pub rest : List A

-- so many arguments off the stack, the last one topmost
abbrev pub take_arguments : {A : Type 0} → ℕ → List A → List A → Option (Taken A)
take_arguments zero stack taken = Some (record { arguments = taken; rest = stack })
take_arguments (suc n) [] taken = None
take_arguments (suc n) (v ∷ stack) taken = take_arguments n stack (v ∷ taken)

-- the arguments as their places keep them
abbrev pub keep_all : List PlaceType → List Value → Option (List Value)
keep_all [] [] = Some []
keep_all [] (v ∷ vs) = None
keep_all (k ∷ ks) [] = None
keep_all (k ∷ ks) (v ∷ vs) = on_some (kept k v) (λ w. option_map (λ ws. w ∷ ws) (keep_all ks vs))

abbrev pub on_frames : List Frame → (Frame → List Frame → Option State) → Option State
on_frames [] go = None
on_frames (f ∷ fs) go = go f fs

abbrev pub answered : Program → State → Frame → List Frame → ℕ → List Value → Answer → Option State
answered p s f fs next rest (Gives v) = goes p s f fs next (v ∷ rest)
answered p s f fs next rest (Raises known) = raise p s known
answered p s f fs next rest NoCase = None

-- goes on with the value, or throws an exception of the class where there is none
abbrev pub or_raise : {A : Type 0} → Program → State → Known → Option A → (A → Option State) → Option State
or_raise p s known None go = raise p s known
or_raise p s known (Some x) go = go x

-- what a reference names, or an exception at null
abbrev pub on_thing_or : Program → State → Known → Value → (ℕ → Thing → Option State) → Option State
on_thing_or p s known (Object n) go = on_some (thing_at s.heap n) (go n)
on_thing_or p s known Null go = raise p s known
on_thing_or p s known (Int n) go = None
on_thing_or p s known (Long n) go = None
on_thing_or p s known (Handle h) go = None
on_thing_or p s known (Pointer c x) go = None

abbrev pub on_thing : Program → State → Value → (ℕ → Thing → Option State) → Option State
on_thing p s v go = on_thing_or p s NullReference v go

-- the fields of an instance of the owner or of a class below it
abbrev pub on_instance : Program → Id → Thing → (Id → List Value → Option State) → Option State
on_instance p owner (Instance class fields) go = if p.is_sub class owner then go class fields else None
on_instance p owner (Text units) go = None
on_instance p owner (Elements element values) go = None
on_instance p owner (Boxed type value) go = None
on_instance p owner (StaticCell type value) go = None

-- the elements of an array
abbrev pub on_elements : Thing → (CliType → List Value → Option State) → Option State
on_elements (Elements element values) go = go element values
on_elements (Instance class fields) go = None
on_elements (Text units) go = None
on_elements (Boxed type value) go = None
on_elements (StaticCell type value) go = None

-- how places of the type lie, where that is as wide as wanted
abbrev pub on_cell : CliType → Cell → (Cell → Option State) → Option State
on_cell type wide go = on_some (cell_of type) (λ cell. if same_width cell wide then go cell else None)

-- a length as an int32
abbrev pub length_value : ℕ → Value
length_value n = Int (cast_signed w32 (n % 2 ^ 32))

-- an index is looked at as an unsigned number
abbrev pub index_of : ℤ → ℕ
index_of n = cast_unsigned w32 n

-- ---- cells of frames

abbrev pub total : {A : Type 0} → (A → ℕ) → List A → ℕ
total f [] = 0
total f (x ∷ xs) = f x + total f xs

-- cells of a frame of the method
abbrev pub method_cells : Option Method → ℕ
method_cells None = 1
method_cells (Some m) = 2 + length m.arguments + length m.locals + m.max_stack + length m.clauses

abbrev pub frames_cells : Program → List Frame → ℕ
frames_cells p fs = total (λ f. method_cells (p.method f.method)) fs

-- the frame up to and with which the frames have so many cells
abbrev pub frame_at : Program → List Frame → ℕ → Option Frame
frame_at p [] depth = None
frame_at p (f ∷ fs) depth = if frames_cells p (f ∷ fs) == depth then Some f else frame_at p fs depth

abbrev pub put_frame : Program → List Frame → ℕ → Frame → List Frame
put_frame p [] depth g = []
put_frame p (f ∷ fs) depth g = if frames_cells p (f ∷ fs) == depth then g ∷ fs else f ∷ put_frame p fs depth g

-- ---- what pointers lead to

-- the n-th value in an object
abbrev pub value_in : Thing → ℕ → Option Value
value_in (Instance class fields) n = slice_get fields n
value_in (Elements element values) n = slice_get values n
value_in (Boxed type value) n = Some value
value_in (StaticCell type value) n = Some value
value_in (Text units) n = None

abbrev pub with_value : Thing → ℕ → Value → Thing
with_value (Instance class fields) n v = Instance class (slice_set fields n v)
with_value (Elements element values) n v = Elements element (slice_set values n v)
with_value (Boxed type value) n v = Boxed type v
with_value (StaticCell type value) n v = StaticCell type v
with_value (Text units) n v = Text units

-- what lies where a pointer leads, seen from the frame f over the callers fs
abbrev pub read : Program → State → Frame → List Frame → Spot → Option Value
read p s f fs (InArgument depth n) = on_some (frame_at p (f ∷ fs) depth) (λ g. slice_get g.arguments n)
read p s f fs (InLocal depth n) = on_some (frame_at p (f ∷ fs) depth) (λ g. slice_get g.locals n)
read p s f fs (InObject object n) = on_some (thing_at s.heap object) (λ x. value_in x n)

-- what a write through a pointer leaves: the state with its objects, the frame's arguments and locals, and its callers
pub record Written : Type 0 where
  pub state : State
  pub arguments : List Value
  pub locals : List Value
  pub callers : List Frame

abbrev pub write : Program → State → Frame → List Frame → Spot → Value → Option Written
write p s f fs (InArgument depth n) v =
    if frames_cells p (f ∷ fs) == depth
    then Some (record { state = s; arguments = slice_set f.arguments n v; locals = f.locals; callers = fs })
    else on_some (frame_at p fs depth) (λ g. Some (record { state = s; arguments = f.arguments; locals = f.locals; callers = put_frame p fs depth (record g { arguments = slice_set g.arguments n v }) }))
write p s f fs (InLocal depth n) v =
    if frames_cells p (f ∷ fs) == depth
    then Some (record { state = s; arguments = f.arguments; locals = slice_set f.locals n v; callers = fs })
    else on_some (frame_at p fs depth) (λ g. Some (record { state = s; arguments = f.arguments; locals = f.locals; callers = put_frame p fs depth (record g { locals = slice_set g.locals n v }) }))
write p s f fs (InObject object n) v =
    on_some (thing_at s.heap object) (λ x.
    Some (record { state = record s { heap = put_thing s.heap object (with_value x n v) }; arguments = f.arguments; locals = f.locals; callers = fs }))

-- where a pointer of this width leads
abbrev pub on_pointer : Value → Cell → (Cell → Spot → Option State) → Option State
on_pointer (Pointer cell spot) wide go = if same_width cell wide then go cell spot else None
on_pointer (Int n) wide go = None
on_pointer (Long n) wide go = None
on_pointer Null wide go = None
on_pointer (Object n) wide go = None
on_pointer (Handle h) wide go = None
