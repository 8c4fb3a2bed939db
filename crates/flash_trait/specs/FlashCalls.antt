-- What the calls of a flash do, and the contents at the moments of a call.
use Rattle.std.specs.Prelude.{◌≡◌, ℕ, ◌-◌, ◌≤◌, ◌⊎◌, Bool, false, IsTrue, List, [], ◌∷◌, ◌++◌, map, take, nat_lt, Option, Some, None, if◌then◌else◌}
use Rattle.plain_types.specs.Counts.{Rose}
use Rattle.plain_types.specs.Schedule.{Schedule, after_call}
use Rattle.flash_trait.specs.Flash.{Operation, after, cut, IsStopped}
use Rattle.flash_trait.specs.declared.flash.Stop.{Stop}

-- an operation that was made, with the content before it
pub record Done : Type 0 where
  pub operation : Operation
  pub before : List ℕ

-- all that is known of a flash
pub record FlashState : Type 0 where
  pub content : List ℕ
  pub on : Bool
  -- the stop to come; its operation is counted from the next one on
  pub armed : Option Stop
  -- how often the flash failed; it never falls, and ends at 2 ^ 64 - 1
  pub faults : ℕ
  -- how often it was stopped; it never falls, and ends at 2 ^ 64 - 1
  pub stops : ℕ
  -- whether the log is the record of all operations, but for failed ones that changed nothing
  pub tells : Bool
  pub log : List Done
  -- which operations fail, and for how many there is room, where that is known beforehand
  pub schedule : Option Schedule

-- the next operation is the one to be stopped
abbrev pub IsDue : Option Stop → Type 0
IsDue None = ⊥
IsDue (Some stop) = stop.operation ≤ 1

-- the stop after one more operation
abbrev pub counted : Option Stop → Option Stop
counted None = None
counted (Some stop) = if nat_lt 1 stop.operation then Some (record { operation = stop.operation - 1; mask = stop.mask }) else None

-- the log has one more entry, where it is told
abbrev pub Logs : Operation → FlashState → FlashState → Type 0
Logs op old new = IsTrue old.tells → new.log ≡ old.log ++ (record { operation = op; before = old.content }) ∷ []

-- the operation was done whole
pub record Completes (op : Operation) (old new : FlashState) : Type 0 where
  pub content : new.content ≡ after op old.content
  pub not_due : IsDue old.armed → ⊥
  pub armed : new.armed ≡ counted old.armed
  pub on : new.on ≡ old.on
  pub faults : new.faults ≡ old.faults
  pub stops : new.stops ≡ old.stops
  pub telling : new.tells ≡ old.tells
  pub log : Logs op old new
  pub schedule : new.schedule ≡ after_call old.schedule 1

-- the armed stop came: the content is the one that its mask spells, and the flash is off
pub record IsCut (op : Operation) (old new : FlashState) : Type 0 where
  pub stopped : (stop : Stop) × (old.armed ≡ Some stop) × (stop.operation ≤ 1) × (new.content ≡ cut op stop.mask old.content)
  pub armed : new.armed ≡ None
  pub off : new.on ≡ false
  pub faults : new.faults ≡ old.faults
  pub stops : Rose old.stops new.stops
  pub telling : new.tells ≡ old.tells
  pub log : Logs op old new
  pub schedule : new.schedule ≡ after_call old.schedule 1

-- the flash failed: the content is one that a stop may leave, and the flash stays on
pub record IsFailed (op : Operation) (old new : FlashState) : Type 0 where
  pub faults : Rose old.faults new.faults
  pub content : IsStopped op old.content new.content
  pub armed : new.armed ≡ counted old.armed
  pub on : new.on ≡ old.on
  pub stops : new.stops ≡ old.stops
  pub telling : new.tells ≡ old.tells
  -- where nothing changed the operation may be missing in the log
  pub log : Logs op old new ⊎ ((new.content ≡ old.content) × (new.log ≡ old.log))
  pub schedule : new.schedule ≡ after_call old.schedule 1

-- P holds before each of these operations, and of all that a stop of it may leave
abbrev pub AtEach : (List ℕ → Type 0) → List Done → Type 0
AtEach P [] = Unit {0}
AtEach P (done ∷ rest) = (P done.before × ((content : List ℕ) → IsStopped done.operation done.before content → P content)) × AtEach P rest

-- P holds at each moment from old to new: at the end, and where the log is told before each operation and at each
-- stop of it
pub record AtEachMoment (old new : FlashState) (P : List ℕ → Type 0) : Type 0 where
  pub end : P new.content
  pub telling : new.tells ≡ old.tells
  pub moments : IsTrue old.tells → (done : List Done) × (new.log ≡ old.log ++ done) × AtEach P done

-- these operations were made, where the flash tells, each once and in order
pub record Made (operations : List Operation) (old new : FlashState) : Type 0 where
  pub telling : new.tells ≡ old.tells
  pub log : IsTrue old.tells → (done : List Done) × (new.log ≡ old.log ++ done) × (map (λ d. d.operation) done ≡ operations)

-- a front of these operations was made, each once and in order
abbrev pub MadeFront : List Operation → FlashState → FlashState → Type 0
MadeFront wanted old new = (n : ℕ) × Made (take n wanted) old new
