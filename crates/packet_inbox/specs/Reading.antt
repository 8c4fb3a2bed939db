-- What a reader of packets knows between its calls.
use Rattle.std.specs.Prelude.{◌≡◌, ℕ, ◌+◌, ◌-◌, ◌≤◌, List, ◌++◌, length}
use Rattle.wire_packets.specs.Placed.{Placed, placed}
use Rattle.wire_packets.specs.Stream.{unread}

-- of the bytes that came from a place on, these packets were taken out, and these bytes are held
pub record HasRead (from : ℕ) (bytes : List ℕ) (taken : List Placed) (held : List ℕ) : Type 0 where
  pub places : placed from bytes ≡ taken ++ placed (from + (length bytes - length held)) held
  pub rest : unread bytes ≡ unread held
  pub fewer : length held ≤ length bytes
