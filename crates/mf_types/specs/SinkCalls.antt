-- What a write to a sink does.
use Rattle.std.specs.Prelude.{◌≡◌, ℕ, Bool, IsTrue, List, ◌++◌, length, Option}
use Rattle.plain_types.specs.Counts.{Rose}
use Rattle.plain_types.specs.Schedule.{Schedule, after_call}
use Rattle.mf_types.specs.Pieces.{AppendsFront}

-- all that is known of a sink
pub record SinkState : Type 0 where
  -- whether the bytes written are told; where they aren't, `written` says nothing
  pub tells : Bool
  -- all bytes written so far
  pub written : List ℕ
  -- how often the sink failed; it never falls, and ends at 2 ^ 64 - 1
  pub faults : ℕ
  -- which calls fail, and for how many bytes there is room, where that is known beforehand
  pub schedule : Option Schedule

-- the piece was written
pub record IsWritten (piece : List ℕ) (old new : SinkState) : Type 0 where
  pub written : IsTrue old.tells → new.written ≡ old.written ++ piece
  pub faults : new.faults ≡ old.faults
  pub telling : new.tells ≡ old.tells
  pub schedule : new.schedule ≡ after_call old.schedule (length piece)

-- the write failed: a front of the piece was written
pub record IsWrittenInPart (piece : List ℕ) (old new : SinkState) : Type 0 where
  pub written : IsTrue old.tells → AppendsFront old.written new.written piece
  pub faults : Rose old.faults new.faults
  pub telling : new.tells ≡ old.tells
  pub schedule : new.schedule ≡ after_call old.schedule 0
