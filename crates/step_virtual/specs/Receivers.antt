-- The receiver of a virtual call.
use Rattle.std.specs.Prelude.{◌≡◌, ℕ, ◌+◌, ◌==◌, if◌then◌else◌, List, [], ◌∷◌, length, Option, Some, None}
use Rattle.board_types.specs.declared.board.Known.TheVariants.{NullReference}
use Rattle.board_types.specs.declared.value.Value.{Value as RamValue}
use Rattle.board_types.specs.declared.value.Value.TheVariants.{Int, Long, Ref, Pointer, Handle}
use Rattle.machine.specs.Data.{Id, thing_at, type_of, Value, Object, Thing, Frame, State}
use Rattle.machine.specs.Program.{Program, Method}
use Rattle.machine.specs.Throw.{on_some, raise}
use Rattle.machine.specs.Rows.{Taken, take_arguments, keep_all}
use Rattle.machine.specs.Natives.{class_of_type}
use Rattle.machine.specs.Calls.{receiver, invoke, call_virtual}
use Rattle.tiny_ram.specs.Memory.{RamFrame, Memory}
use Rattle.step_calls.specs.declared.arguments.Given.{Given}
use Rattle.step_calls.specs.Arguments.{IsGiven}
use Rattle.step_virtual.specs.declared.receiving.Receiver.{Receiver}
use Rattle.step_virtual.specs.declared.receiving.Receiver.TheVariants.{Nothing, Null, Thing as Found}

-- by what the place of `this` keeps
abbrev pub receiver_by : Option RamValue → Given → Receiver
receiver_by None x = Nothing
receiver_by (Some (Int n)) x = Nothing
receiver_by (Some (Long n)) x = Nothing
receiver_by (Some (Ref n)) x = if n == 0 then Null else Found x n
receiver_by (Some (Pointer at)) x = Nothing
receiver_by (Some (Handle field)) x = Nothing

-- the rest of a virtual call, at the object
abbrev pub on_object : Program → State → Frame → List Frame → ℕ → Id → List Value → List Value → ℕ → Thing → Option State
on_object p s g gs next id rest others n thing =
    on_some (type_of thing) (λ type.
    on_some (class_of_type p type) (λ class.
    on_some (p.target class id) (λ found.
    on_some (p.method found) (λ b.
    on_some (receiver b.arguments n thing) (λ self. invoke p s g gs next rest found b (self ∷ others))))))

module _ (p : Program) (m : Memory) (s : State) (f : RamFrame) (g : Frame) (gs : List Frame) (next : ℕ) (id : Id) (of : Method) (n : ℕ) where
  -- the arguments are kept, and `this` is an object
  pub record IsReceiver (x : Given) (thing : ℕ) : Type 0 where
    pub given : IsGiven m f n x
    pub taken : Taken Value
    pub took : take_arguments (length of.arguments) g.stack [] ≡ Some taken
    pub object : ℕ
    pub others : List Value
    pub kept : keep_all of.arguments taken.arguments ≡ Some (Object object ∷ others)
    pub number : thing ≡ 1 + object
    pub rest : call_virtual p s g gs next id ≡ on_some (thing_at s.heap object) (on_object p s g gs next id taken.rest others object)

  abbrev pub Receives : Receiver → Type 0
  Receives Nothing = call_virtual p s g gs next id ≡ None
  Receives Null = call_virtual p s g gs next id ≡ raise p s NullReference
  Receives (Found x thing) = IsReceiver x thing
