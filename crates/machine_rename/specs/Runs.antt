-- Two programs that run alike.
use Rattle.std.specs.Prelude.{◌≡◌, ℕ, false, Option, Some}
use Rattle.machine.specs.Data.{Id}
use Rattle.machine.specs.Program.{Program, Line}
use Rattle.machine.specs.Trace.{is_stuck, trace}
use Rattle.machine_rename.specs.Rename.{Renaming, Answers}

-- what the one finds at a place, the other finds there too
abbrev pub IsWithin : (some more : Id → ℕ → Option Line) → Type 0
IsWithin some more = (m : Id) (at : ℕ) (l : Line) → some m at ≡ Some l → more m at ≡ Some l

-- the program, which finds its instructions so
abbrev pub fetching : Program → (Id → ℕ → Option Line) → Program
fetching p lines = record p { fetch = lines }

-- a run that meets no missing case
abbrev pub RunsOn : Program → ℕ → ℕ → Type 0
RunsOn p n most = is_stuck (trace p n most).finish ≡ false

-- what two programs have in common that find their instructions at the starts of their walks: where they are looked up at any place,
-- an instruction may be found at more places
pub record AreTwins (r : Renaming) (board ecma : Program) (board_starts ecma_starts : Id → ℕ → Option Line) : Type 0 where
  pub answers : Answers r (fetching board board_starts) (fetching ecma ecma_starts)
  pub board_finds : IsWithin board_starts board.fetch
  pub ecma_finds : IsWithin ecma_starts ecma.fetch
