-- What the calls ask of a memory, and what they leave of it.
use Rattle.std.specs.Prelude.{◌≡◌, ℕ, ◌<◌, Bool, true, false, List, [], ◌∷◌, length, Option, Some, None, slice_get, slice_index, Result, Ok, Err, is_some}
use Rattle.board_types.specs.declared.board.TypeAt.{TypeAt}
use Rattle.board_types.specs.declared.board.ClauseAt.{ClauseAt}
use Rattle.tiny_ram.specs.Memory.{RamFrame, Memory, with_frames}
use Rattle.tiny_ram.specs.Region.{Keeps}
use Rattle.tiny_ram.specs.declared.memory.Ram.{Ram}
use Rattle.tiny_ram.specs.declared.memory.Spent.{Spent}
use Rattle.memory_states.specs.Told.{Told}
use Rattle.tiny_except.specs.declared.clauses.Found.{Found}
use Rattle.tiny_except.specs.declared.unwinding.Plan.{Plan}
use Rattle.tiny_except.specs.declared.unwinding.Plan.TheVariants.{Throwing}
use Rattle.tiny_except.specs.Unwinding.{Landing, After, class_in}

-- a frame has a slot for each clause of its method, and a stack place where one of them is a catch
pub record HasSlots (t : Told) (f : RamFrame) : Type 0 where
  pub count : length (t.clauses f.method) ≡ slice_index f.sizes 3
  pub room : (k : ℕ) (c : ClauseAt) → slice_get (t.clauses f.method) k ≡ Some c → c.kind ≡ 0 → 0 < slice_index f.sizes 2

abbrev pub AllHaveSlots : Told → List RamFrame → Type 0
AllHaveSlots t [] = Unit {0}
AllHaveSlots t (f ∷ fs) = HasSlots t f × AllHaveSlots t fs

-- the throw is done, or the cells don't do
abbrev pub Threw : Ram → Result (Option TypeAt) Spent → Option After → Type 0
Threw u (Ok class) (Some a) = (class ≡ a.class) × Keeps u a.memory
Threw u (Err s) None = Unit {0}
Threw u (Ok class) None = ⊥
Threw u (Err s) (Some a) = ⊥

-- the plan is taken up, or there is none and nothing has changed
abbrev pub TookUp : Ram → Ram → Bool → Option Memory → Type 0
TookUp r u true (Some m) = Keeps u m
TookUp r u false None = u ≡ r
TookUp r u true None = ⊥
TookUp r u false (Some m) = ⊥

-- a plan's exception is there
abbrev pub IsThere : Memory → Plan → Type 0
IsThere m (Throwing object) = is_some (class_in m.heap object) ≡ true
IsThere m plan = Unit {0}

-- the frames have ended up to the stop
abbrev pub Landed : Ram → Option Found → Memory → Option Landing → Type 0
Landed u (Some stop) m (Some l) = (stop ≡ l.stop) × Keeps u (with_frames m (l.frame ∷ l.callers))
Landed u None m None = Keeps u (with_frames m [])
Landed u (Some stop) m None = ⊥
Landed u None m (Some l) = ⊥

-- the object is made, or the cells don't do
abbrev pub Placed : Ram → Result ℕ Spent → ℕ → Option Memory → Type 0
Placed u (Ok object) n (Some m) = (object ≡ n) × Keeps u m
Placed u (Err s) n None = Unit {0}
Placed u (Ok object) n None = ⊥
Placed u (Err s) n (Some m) = ⊥
