-- What is known beforehand of the calls of an object in memory.
use Rattle.std.specs.Prelude.{ℕ}
use Rattle.plain_types.specs.Schedule.{Schedule}
use Rattle.outside_in_memory.specs.declared.calls.Calls.{Calls}

-- which calls fail, with so much room left
abbrev pub schedule_of : Calls → ℕ → Schedule
schedule_of calls room = record { fails = calls.fails.items; made = calls.made; room = room }
