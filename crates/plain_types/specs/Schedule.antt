-- What is known beforehand of the calls of an object: which of them fail, and how much room is left.
use Rattle.std.specs.Prelude.{◌≡◌, ℕ, ◌+◌, ◌-◌, ◌==◌, min, nat_lt, Bool, false, ◌||◌, IsTrue, List, Option, Some, None}
use Rattle.std.specs.List.{list_any}

pub record Schedule : Type 0 where
  -- the numbers of the calls that fail, counted from 1
  pub fails : List ℕ
  -- how many calls were made; it ends at 2 ^ 64 - 1
  pub made : ℕ
  -- how much room is left
  pub room : ℕ

-- the number of the call after so many
abbrev pub next_call : ℕ → ℕ
next_call made = min (made + 1) 0xFFFF_FFFF_FFFF_FFFF

-- the call of this number is one of those that fail
abbrev pub is_due : List ℕ → ℕ → Bool
is_due fails call = list_any (λ due. due == call) fails

-- the next call, which asks for so much room, is one of those that fail, or passes the room
abbrev pub fails_next : Schedule → ℕ → Bool
fails_next s asked = is_due s.fails (next_call s.made) || nat_lt s.room asked

-- the schedule after a call that took so much room
abbrev pub counted_call : Schedule → ℕ → Schedule
counted_call s taken = record { fails = s.fails; made = next_call s.made; room = s.room - taken }

-- it is known that the next call, which asks for so much room, fails
abbrev pub MustFail : Option Schedule → ℕ → Type 0
MustFail None asked = ⊥
MustFail (Some s) asked = IsTrue (fails_next s asked)

-- it is known that it doesn't fail
abbrev pub MustWork : Option Schedule → ℕ → Type 0
MustWork None asked = ⊥
MustWork (Some s) asked = fails_next s asked ≡ false

-- what is known after a call that took so much room
abbrev pub after_call : Option Schedule → ℕ → Option Schedule
after_call None taken = None
after_call (Some s) taken = Some (counted_call s taken)
