-- The sends of a link in memory: their bytes joined, and a list of their lengths and counts.
use Rattle.std.specs.Prelude.{ℕ, ◌+◌, List, [], ◌∷◌, take, drop}
use Rattle.mf_types.specs.LinkCalls.{Sent}
use Rattle.outside_in_memory.specs.declared.send_log.Entry.{Entry}

abbrev pub sends_of : List Entry → List ℕ → List Sent
sends_of [] bytes = []
sends_of (entry ∷ entries) bytes =
    (record { bytes = take entry.length bytes; taken = entry.taken; answers = entry.answers; silences = entry.silences })
    ∷ sends_of entries (drop entry.length bytes)

-- how many bytes the entries have
abbrev pub total : List Entry → ℕ
total [] = 0
total (entry ∷ entries) = entry.length + total entries
