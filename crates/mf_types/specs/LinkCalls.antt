-- What the calls of a link and of a hub do.
use Rattle.std.specs.Prelude.{◌≡◌, not, ◌^◌, ℕ, ◌+◌, ◌<◌, ◌≤◌, ◌==◌, min, Bool, true, false, IsTrue, List, [], ◌∷◌, ◌++◌, length, take, drop, if◌then◌else◌, nat_le, Option, None}
use Rattle.plain_types.specs.Counts.{Rose}
use Rattle.plain_types.specs.Schedule.{Schedule, after_call}
use Rattle.mf_types.specs.declared.link.Coming.{Coming}
use Rattle.mf_types.specs.declared.link.Coming.TheVariants.{Piece, Silence}

-- a send that sent a byte, with the counts before it
pub record Sent : Type 0 where
  pub bytes : List ℕ
  pub taken : ℕ
  pub answers : ℕ
  pub silences : ℕ

-- what a hub is: nothing yet, one that started a board at a port, or one that listens, asked for a port and given one.
-- The given port is 0 unless listening began
pub data Role : Type 0 where
  Unused : Role
  Starter : (port : ℕ) → Role
  Listener : (asked given : ℕ) → Role

abbrev pub is_listening : Role → Bool
is_listening Unused = false
is_listening (Starter port) = false
is_listening (Listener asked given) = not (given == 0)

-- what is known of a hub besides its link
pub record HubState : Type 0 where
  pub role : Role
  -- how often a board couldn't be started; it never falls, and ends at 2 ^ 64 - 1
  pub start_faults : ℕ
  -- which of the calls that a hub adds to a link fail, where that is known beforehand
  pub schedule : Option Schedule

-- a link that is no hub
abbrev pub no_hub : HubState
no_hub = record { role = Unused; start_faults = 0; schedule = None }

-- all that is known of a link
pub record LinkState : Type 0 where
  -- both calls may be made
  pub ready : Bool
  -- the connection is one of datagrams: each send is one, and what a receive gives is one
  pub datagrams : Bool
  -- whether the sends and the list to come are told
  pub tells : Bool
  pub sends : List Sent
  pub coming : List Coming
  -- how often the link failed; it never falls, and ends at 2 ^ 64 - 1
  pub faults : ℕ
  -- how often it was silent
  pub silences : ℕ
  -- the answers of receive other than Failed, and the bytes that they gave
  pub answers : ℕ
  pub taken : ℕ
  -- which calls fail, and for how many bytes sent there is room, where that is known beforehand
  pub schedule : Option Schedule
  -- what is known of it as a hub
  pub hub : HubState

-- the bytes that were sent, joined
abbrev pub sent_bytes : List Sent → List ℕ
sent_bytes [] = []
sent_bytes (sent ∷ sends) = sent.bytes ++ sent_bytes sends

-- the sends after one more, of these bytes; there is no entry for none
abbrev pub with_send : LinkState → List ℕ → List Sent
with_send old bytes =
    if length bytes == 0 then old.sends
    else old.sends ++ (record { bytes = bytes; taken = old.taken; answers = old.answers; silences = old.silences }) ∷ []

-- what a send leaves: all but the sends, the faults and the schedule
pub record SendKeeps (old new : LinkState) : Type 0 where
  pub ready : new.ready ≡ old.ready
  pub datagrams : new.datagrams ≡ old.datagrams
  pub telling : new.tells ≡ old.tells
  pub coming : IsTrue old.tells → new.coming ≡ old.coming
  pub silences : new.silences ≡ old.silences
  pub answers : new.answers ≡ old.answers
  pub taken : new.taken ≡ old.taken
  pub hub : new.hub ≡ old.hub

-- the bytes were sent
pub record IsSent (bytes : List ℕ) (old new : LinkState) : Type 0 where
  pub sends : IsTrue old.tells → new.sends ≡ with_send old bytes
  pub faults : new.faults ≡ old.faults
  pub schedule : new.schedule ≡ after_call old.schedule (length bytes)
  pub others : SendKeeps old new

-- a front of the bytes was sent, and not all of them
pub record IsSentInPart (bytes : List ℕ) (old new : LinkState) : Type 0 where
  pub sends : IsTrue old.tells → (n : ℕ) × (n < length bytes) × (new.sends ≡ with_send old (take n bytes))
  pub faults : Rose old.faults new.faults
  pub schedule : new.schedule ≡ after_call old.schedule 0
  pub others : SendKeeps old new

-- what a receive leaves: all but the counts and the list to come
pub record ReceiveKeeps (old new : LinkState) : Type 0 where
  pub ready : new.ready ≡ old.ready
  pub datagrams : new.datagrams ≡ old.datagrams
  pub telling : new.tells ≡ old.tells
  pub sends : IsTrue old.tells → new.sends ≡ old.sends
  pub schedule : new.schedule ≡ after_call old.schedule 0
  pub hub : new.hub ≡ old.hub

-- the first piece, as much of it as fits, and what is left to come
pub record TakesPiece (n : ℕ) (into : List ℕ) (old new : List Coming) : Type 0 where
  pub piece : List ℕ
  pub rest : List Coming
  pub first : old ≡ Piece piece ∷ rest
  pub size : n ≡ min 2048 (length piece)
  pub bytes : take n into ≡ take n piece
  pub left : new ≡ (if nat_le (length piece) 2048 then rest else Piece (drop 2048 piece) ∷ rest)

-- n bytes came
pub record HasCome (n : ℕ) (into : List ℕ) (old new : LinkState) : Type 0 where
  pub some : 1 ≤ n
  pub most : n ≤ 2048
  pub coming : IsTrue old.tells → TakesPiece n into old.coming new.coming
  pub faults : new.faults ≡ old.faults
  pub silences : new.silences ≡ old.silences
  pub answers : new.answers ≡ old.answers + 1
  pub taken : new.taken ≡ old.taken + n
  pub others : ReceiveKeeps old new

-- nothing is left to come, or a silence is, which is taken away
abbrev pub PassesSilence : List Coming → List Coming → Type 0
PassesSilence [] new = new ≡ []
PassesSilence (Silence ∷ rest) new = new ≡ rest
PassesSilence (Piece piece ∷ rest) new = ⊥

-- the link was silent
pub record IsSilent (old new : LinkState) : Type 0 where
  pub coming : IsTrue old.tells → PassesSilence old.coming new.coming
  pub faults : new.faults ≡ old.faults
  pub silences : new.silences ≡ old.silences + 1
  pub answers : new.answers ≡ old.answers + 1
  pub taken : new.taken ≡ old.taken
  pub others : ReceiveKeeps old new

-- nothing was received
pub record FailsToReceive (old new : LinkState) : Type 0 where
  pub coming : IsTrue old.tells → new.coming ≡ old.coming
  pub faults : Rose old.faults new.faults
  pub silences : new.silences ≡ old.silences
  pub answers : new.answers ≡ old.answers
  pub taken : new.taken ≡ old.taken
  pub others : ReceiveKeeps old new

-- what a receive may be called with: the counts have room
abbrev pub HasRoom : LinkState → Type 0
HasRoom link = (link.answers < 2 ^ 60) × (link.taken < 2 ^ 60)

-- ---- hubs

-- the hub after a call that left it with this role
abbrev pub with_role : HubState → Role → HubState
with_role old role = record { role = role; start_faults = old.start_faults; schedule = after_call old.schedule 0 }

-- no board was started
pub record IsNotStarted (old new : HubState) : Type 0 where
  pub role : new.role ≡ old.role
  pub start_faults : Rose old.start_faults new.start_faults
  pub schedule : new.schedule ≡ after_call old.schedule 0

-- a call of a hub leaves the link as it was, but for its faults and its connection
pub record LinkStays (old new : LinkState) : Type 0 where
  pub telling : new.tells ≡ old.tells
  pub sends : IsTrue old.tells → new.sends ≡ old.sends
  pub coming : IsTrue old.tells → new.coming ≡ old.coming
  pub silences : new.silences ≡ old.silences
  pub answers : new.answers ≡ old.answers
  pub taken : new.taken ≡ old.taken
  pub schedule : new.schedule ≡ old.schedule

-- a connection began: of datagrams, or of bytes
pub record Connects (datagrams : Bool) (old new : LinkState) : Type 0 where
  pub ready : new.ready ≡ true
  pub kind : new.datagrams ≡ datagrams
  pub faults : new.faults ≡ old.faults
  pub others : LinkStays old new

-- the connection stays as it was
pub record SameConnection (old new : LinkState) : Type 0 where
  pub ready : new.ready ≡ old.ready
  pub datagrams : new.datagrams ≡ old.datagrams
  pub others : LinkStays old new

-- the link and its count of faults stay
pub record KeepsLink (old new : LinkState) : Type 0 where
  pub faults : new.faults ≡ old.faults
  pub connection : SameConnection old new

-- the call failed at the link
pub record FailsAtLink (old new : LinkState) : Type 0 where
  pub faults : Rose old.faults new.faults
  pub connection : SameConnection old new
