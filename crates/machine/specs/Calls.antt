-- Rows on methods: calls, constructors and returns (III.3.19, III.3.56, III.4.2, III.4.21).
use Rattle.std.specs.Prelude.{ℕ, ℤ, ◌-◌, Bool, true, false, nat_lt, if◌then◌else◌, List, [], ◌∷◌, ◌++◌, map, length, replicate, Option, Some, None}
use Rattle.std.specs.Option.{option_map}
use Rattle.machine.specs.Data.{Id, end_of, type_of, PlaceType, Plain, To, cell_of, InObject, Value, Object, Pointer, Thing, Instance, Boxed, Nothing, Frame, State, Returned}
use Rattle.machine.specs.Program.{Program, Initialiser, Method, Body, Code, Native, Missing}
use Rattle.machine.specs.Numbers.{kept, zero_of, zero_place, as_int}
use Rattle.machine.specs.Throw.{on_some, goes}
use Rattle.machine.specs.Rows.{on_top, take_arguments, keep_all, on_thing}
use Rattle.machine.specs.Natives.{native, class_of_type}

abbrev pub start_frame : Bool → Id → Method → List Value → Frame
start_frame initialiser id m arguments =
    record { method = id; initialiser = initialiser; place = 0; arguments = arguments; locals = map zero_place m.locals; stack = []; slots = replicate (length m.clauses) Nothing }

-- goes on where the frame's stack has room for what a method returns
abbrev pub if_room : Program → Frame → List Value → Option PlaceType → Option State → Option State
if_room p f stack None o = o
if_room p f stack (Some k) o = on_some (p.method f.method) (λ m. if nat_lt (length stack) m.max_stack then o else None)

-- the frame waits at its place with a stack that has room for the result, and a frame of the method starts
unfoldable pub starts : Program → State → Frame → List Frame → List Value → Id → Method → List Value → Option State
starts p s f fs stack id m arguments =
    if_room p f stack m.returns (on_some (goes p s f fs f.place stack) (λ t. Some (record t { frames = start_frame false id m arguments ∷ t.frames })))

abbrev pub enter : Program → State → Frame → List Frame → ℕ → List Value → Id → Method → List Value → Body → Option State
enter p s f fs next rest id m arguments Code = starts p s f fs rest id m arguments
enter p s f fs next rest id m arguments (Native name) = native p s f fs next rest name arguments
enter p s f fs next rest id m arguments Missing = None

-- a method is entered with arguments
unfoldable pub invoke : Program → State → Frame → List Frame → ℕ → List Value → Id → Method → List Value → Option State
invoke p s f fs next rest id m given =
    on_some (keep_all m.arguments given) (λ arguments. enter p s f fs next rest id m arguments m.body)

unfoldable pub call : Program → State → Frame → List Frame → ℕ → Id → Option State
call p s f fs next id =
    on_some (p.method id) (λ m.
    on_some (take_arguments (length m.arguments) f.stack []) (λ t. invoke p s f fs next t.rest id m t.arguments))

-- `this` of the body that was found: of a method of a value type it is a pointer into the box
abbrev pub receiver : List PlaceType → ℕ → Thing → Option Value
receiver (To type ∷ others) n (Boxed own value) = option_map (λ cell. Pointer cell (InObject n 0)) (cell_of own)
receiver (To type ∷ others) n thing = None
receiver (Plain type ∷ others) n thing = Some (Object n)
receiver [] n thing = None

unfoldable pub call_virtual : Program → State → Frame → List Frame → ℕ → Id → Option State
call_virtual p s f fs next id =
    on_some (p.method id) (λ m.
    on_some (take_arguments (length m.arguments) f.stack []) (λ t.
    on_some (keep_all m.arguments t.arguments) (λ given.
    on_top given (λ this others.
    on_thing p s this (λ n thing.
    on_some (type_of thing) (λ type.
    on_some (class_of_type p type) (λ class.
    on_some (p.target class id) (λ found.
    on_some (p.method found) (λ b.
    on_some (receiver b.arguments n thing) (λ self. invoke p s f fs next t.rest found b (self ∷ others)))))))))))

abbrev pub construct : Program → State → Frame → List Frame → List Value → Id → Method → List Value → Body → Option State
construct p s f fs stack id m arguments Code = starts p s f fs stack id m arguments
construct p s f fs stack id m arguments (Native name) = None
construct p s f fs stack id m arguments Missing = None

-- the new object lies on the stack while its constructor runs
unfoldable pub new_object : Program → State → Frame → List Frame → Id → Id → Option State
new_object p s f fs class constructor =
    on_some (p.method constructor) (λ m.
    on_some (p.fields class) (λ types.
    on_some (take_arguments (length m.arguments - 1) f.stack []) (λ t.
    on_some (keep_all m.arguments (Object (end_of s.heap) ∷ t.arguments)) (λ arguments.
    construct p (record s { heap = s.heap ++ Instance class (map zero_of types) ∷ [] }) f fs (Object (end_of s.heap) ∷ t.rest) constructor m arguments m.body))))

-- what a method hands back: nothing, or a value of the kind of its result, which isn't cut
abbrev pub result_of : Option PlaceType → List Value → Option (Option Value)
result_of None stack = Some None
result_of (Some k) stack = on_top stack (λ v rest. on_some (kept k v) (λ w. Some (Some v)))

abbrev pub with_result : Option Value → List Value → List Value
with_result None stack = stack
with_result (Some v) stack = v ∷ stack

abbrev pub number_of : Option Value → Option (Option ℤ)
number_of None = Some None
number_of (Some v) = option_map Some (as_int v)

-- a frame ends, and its caller goes on behind the call, or meets the instruction again that had to wait for an initialiser
abbrev pub hand_back : Program → State → Bool → Option Value → List Frame → Option State
hand_back p s initialiser v [] = on_some (number_of v) (λ n. Some (record s { frames = []; end = Returned n }))
hand_back p s true v (g ∷ gs) = Some (record s { frames = g ∷ gs })
hand_back p s false v (g ∷ gs) =
    on_some (p.fetch g.method g.place) (λ line. goes p s g gs line.next (with_result v g.stack))

unfoldable pub return_value : Program → State → Frame → List Frame → Option State
return_value p s f fs =
    on_some (p.method f.method) (λ m.
    on_some (result_of m.returns f.stack) (λ v. hand_back p s f.initialiser v fs))

-- goes on where a method takes nothing
abbrev pub if_none : {A B : Type 0} → List A → Option B → Option B
if_none [] o = o
if_none (x ∷ xs) o = None

abbrev pub start_code : Program → State → Initialiser → Method → Body → Option State
start_code p s i m Code = if_none m.arguments (Some (record s { started = i.class ∷ s.started; frames = start_frame true i.method m [] ∷ s.frames }))
start_code p s i m (Native name) = None
start_code p s i m Missing = None

-- a class is marked started, and a frame of its initialiser starts (II.10.5.3)
unfoldable pub start_class : Program → State → Initialiser → Option State
start_class p s i = on_some (p.method i.method) (λ m. start_code p s i m m.body)
