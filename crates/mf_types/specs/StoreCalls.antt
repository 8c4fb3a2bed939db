-- What the calls of a store do.
use Rattle.std.specs.Prelude.{◌≡◌, ℕ, Bool, List, Option, Some}
use Rattle.plain_types.specs.Counts.{Rose}
use Rattle.plain_types.specs.Schedule.{Schedule, after_call}
use Rattle.mf_types.specs.declared.store.FailedCall.{FailedCall}

-- all that is known of a store
pub record StoreState : Type 0 where
  -- whether the files held are told; where they aren't, `held` says nothing
  pub tells : Bool
  -- the bytes of the file of a name
  pub held : List ℕ → Option (List ℕ)
  -- how often the store failed; it never falls, and ends at 2 ^ 64 - 1
  pub faults : ℕ
  -- the last call that answered `Failed`
  pub failed : Option FailedCall
  -- which calls fail, where that is known beforehand; besides them a read of a file fails that isn't there
  pub schedule : Option Schedule

-- what every call leaves, and that it is counted
pub record StoreKeeps (old new : StoreState) : Type 0 where
  pub telling : new.tells ≡ old.tells
  pub schedule : new.schedule ≡ after_call old.schedule 0

-- this call failed
pub record IsFault (call : FailedCall) (old new : StoreState) : Type 0 where
  pub faults : Rose old.faults new.faults
  pub failed : new.failed ≡ Some call
  pub others : StoreKeeps old new

-- the call didn't fail
pub record IsNoFault (old new : StoreState) : Type 0 where
  pub faults : new.faults ≡ old.faults
  pub failed : new.failed ≡ old.failed
  pub others : StoreKeeps old new
