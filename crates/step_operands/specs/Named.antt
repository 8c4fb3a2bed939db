-- What references name.
use Rattle.std.specs.Prelude.{◌≡◌, ℕ, ◌+◌, true, Bool, List, Option, Some, None, is_some, slice_get}
use Rattle.board_types.specs.declared.board.Known.{Known}
use Rattle.machine.specs.Data.{Id, thing_at, Value, Null, Object, Thing, Frame, State}
use Rattle.machine.specs.Program.{Program, Instruction}
use Rattle.machine.specs.Rows.{on_thing_or}
use Rattle.machine.specs.Step.{act}
use Rattle.tiny_ram.specs.Memory.{RamFrame, Memory}
use Rattle.tiny_ram.specs.declared.memory.Ram.{Ram}
use Rattle.step_ends.specs.declared.acted.Acted.{Acted}
use Rattle.step_ends.specs.Ends.{Before, Ends}
use Rattle.step_operands.specs.declared.referred.Referred.{Referred}
use Rattle.step_operands.specs.declared.referred.Referred.TheVariants as referred

-- the value names so, as the machine looks at it
abbrev pub Refers : Referred → Value → Type 0
Refers referred.Null v = v ≡ Null
Refers (referred.Thing n) v = (k : ℕ) × (v ≡ Object k) × (n ≡ 1 + k)
Refers referred.Nothing v = (p : Program) (s : State) (known : Known) (go : ℕ → Thing → Option State) → on_thing_or p s known v go ≡ None

-- each reference on the frame's stack names a thing that is there
pub record References (s : State) (g : Frame) : Type 0 where
  pub there : (i n : ℕ) → slice_get g.stack i ≡ Some (Object n) → is_some (thing_at s.heap n) ≡ true

-- the ends of an act whose operand is such a one of the program, where references name things; r is the region before the act, and u
-- after it
abbrev pub OfActAt : (Program → Type 0) → Ram → Ram → ℕ → Instruction → Acted → Type 0
OfActAt Operand r u next i acted =
    (p : Program) (outer : Id → ℕ → ℕ → Bool) (m : Memory) (s : State) (f : RamFrame) (fs : List RamFrame) (g : Frame) (gs : List Frame) → Operand p → Before p outer r m s f fs g gs → References s g → Ends p outer m s u (act p s g gs next i) acted
