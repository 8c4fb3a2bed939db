-- Bytes that are written in pieces.
use Rattle.std.specs.Prelude.{◌≡◌, ℕ, ◌≤◌, List, ◌++◌, take, length}

-- a front of the piece was appended
abbrev pub AppendsFront : List ℕ → List ℕ → List ℕ → Type 0
AppendsFront old new piece = (n : ℕ) × (n ≤ length piece) × (new ≡ old ++ take n piece)
