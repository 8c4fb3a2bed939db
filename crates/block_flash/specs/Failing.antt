-- What a failed operation of a flash in memory leaves.
use Rattle.std.specs.Prelude.{◌≡◌, ℕ, ◌<◌, List, Option, Some, None}
use Rattle.plain_types.specs.Schedule.{Schedule}
use Rattle.flash_trait.specs.Flash.{Operation, cut}
use Rattle.flash_trait.specs.FlashCalls.{FlashState, Logs}

-- inside the room the content is cut by the mask and the record has the operation; past the room both stay
pub record Failing (op : Operation) (mask : List ℕ) (room : ℕ) (old new : FlashState) : Type 0 where
  pub inside : 0 < room → (new.content ≡ cut op mask old.content) × Logs op old new
  pub past : room ≡ 0 → (new.content ≡ old.content) × (new.log ≡ old.log)

-- the same, by the room of the schedule
abbrev pub FailsByMask : Operation → List ℕ → FlashState → FlashState → Option Schedule → Type 0
FailsByMask op mask old new None = ⊥
FailsByMask op mask old new (Some s) = Failing op mask s.room old new
