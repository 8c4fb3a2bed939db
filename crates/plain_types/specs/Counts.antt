-- Counts of faults, which never fall and end at 2 ^ 64 - 1.
use Rattle.std.specs.Prelude.{ℕ, ◌+◌, ◌<◌, ◌≤◌, min, max}

-- the cause of an answer: the count didn't fall, and it rose, or stands at its end, where a rise can't be told any more
abbrev pub Rose : ℕ → ℕ → Type 0
Rose old new = max old (min (old + 1) 0xFFFF_FFFF_FFFF_FFFF) ≤ new

-- the count rose: the premise of what follows from a rise, which a count at its end doesn't meet
abbrev pub RoseSurely : ℕ → ℕ → Type 0
RoseSurely old new = old < new
