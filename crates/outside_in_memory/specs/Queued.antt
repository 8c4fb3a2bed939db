-- What is still to come over a link in memory.
use Rattle.std.specs.Prelude.{◌≡◌, ◌<◌, ◌≤◌, ℕ, Bool, true, nat_lt, Option, Some, None, List, ◌∷◌, length, drop}
use Rattle.mf_types.specs.declared.link.Coming.{Coming}
use Rattle.mf_types.specs.declared.link.Coming.TheVariants.{Piece, Silence}
use Rattle.mf_types.specs.declared.link.Got.{Got}
use Rattle.mf_types.specs.declared.link.Got.TheVariants.{Bytes, Silent}
use Rattle.mf_types.specs.LinkCalls.{TakesPiece, PassesSilence}

-- a piece has a byte
abbrev pub has_bytes : Coming → Bool
has_bytes (Piece bytes) = nat_lt 0 (length bytes)
has_bytes Silence = true

-- the rest of a piece that was begun, and the items after it
abbrev pub queued : Option (List ℕ) → ℕ → List Coming → List Coming
queued None from items = items
queued (Some piece) from items = Piece (drop from piece) ∷ items

-- the first item is taken away: a piece, or a silence, of which there is no end
abbrev pub NextPiece : Option (List ℕ) → List Coming → List Coming → Type 0
NextPiece None old new = PassesSilence old new
NextPiece (Some piece) old new = (old ≡ Piece piece ∷ new) × (0 < length piece)

-- what came, into the front of a buffer
abbrev pub Comes : Got → List ℕ → List Coming → List Coming → Type 0
Comes (Bytes n) into old new = (1 ≤ n) × (n ≤ 2048) × TakesPiece n into old new
Comes Silent into old new = PassesSilence old new

-- the rest of the first piece, and what comes after it
abbrev pub FrontPiece : Option (List ℕ) → ℕ → List Coming → List Coming → Type 0
FrontPiece None from old new = PassesSilence old new
FrontPiece (Some piece) from old new = (old ≡ Piece (drop from piece) ∷ new) × (from < length piece)
