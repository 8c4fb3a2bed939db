-- How a call ends: with a whole text and its status, or with a failing sink.
use Rattle.std.specs.Prelude.{◌≡◌, ◌⊎◌, ℕ, IsTrue, List, ◌++◌}
use Rattle.plain_types.specs.Counts.{Rose}
use Rattle.mf_types.specs.Pieces.{AppendsFront}
use Rattle.mf_types.specs.SinkCalls.{SinkState}
use Rattle.mf_front.specs.declared.outcome.Outcome.{Outcome}
use Rattle.mf_front.specs.Texts.{status_of, text_of}

-- the status is this one, and the sink, where it tells, got exactly the text
pub record IsTold (status : ℕ) (text : List ℕ) (result : ℕ) (old new : SinkState) : Type 0 where
  pub ends : result ≡ status
  pub got : IsTrue old.tells → new.written ≡ old.written ++ text

-- the status is 7, the sink failed in this call, and it got a front of the text
pub record IsToldInPart (text : List ℕ) (result : ℕ) (old new : SinkState) : Type 0 where
  pub ends : result ≡ 7
  pub cause : Rose old.faults new.faults
  pub got : IsTrue old.tells → AppendsFront old.written new.written text

-- a text was told with its status, or a front of it with the status 7
abbrev pub Ends : ℕ → List ℕ → ℕ → SinkState → SinkState → Type 0
Ends status text result old new = IsTold status text result old new ⊎ IsToldInPart text result old new

-- the same of an outcome's text and status
abbrev pub EndsWith : Outcome → ℕ → SinkState → SinkState → Type 0
EndsWith outcome = Ends (status_of outcome) (text_of outcome)
