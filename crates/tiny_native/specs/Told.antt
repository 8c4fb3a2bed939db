-- What names and data of the images give.
use Rattle.std.specs.Prelude.{◌≡◌, ℕ, ◌*◌, ◌-◌, ◌<◌, Bool, true, false, List, length, take, drop, Option, None, slice_index_or}
use Rattle.cil_opcodes.specs.declared.shape.IntegerType.{IntegerType}
use Rattle.board_types.specs.declared.value.Value.{Value as BoardValue}
use Rattle.machine.specs.Data.{Cell, Value, State, bytes_of}
use Rattle.machine.specs.Numbers.{cut, little_endian}
use Rattle.machine.specs.Texts.{with_brackets}
use Rattle.machine.specs.Natives.{initialise}
use Rattle.tiny_ops.specs.Operators.{Leads}
use Rattle.tiny_ram.specs.Things.{Entry}
use Rattle.tiny_ram.specs.Memory.{Memory, put_in}
use Rattle.tiny_ram.specs.Region.{Keeps}
use Rattle.tiny_ram.specs.declared.memory.Ram.{Ram}
use Rattle.board_ids.specs.Ids.{cli_type}
use Rattle.tiny_native.specs.Seen.{Scene, seen}
use Rattle.tiny_native.specs.Copies.{elements_of}

-- the name of an array's element with the array's brackets
abbrev pub bracketed : Bool → List ℕ → List ℕ
bracketed true name = with_brackets name
bracketed false name = name

-- the number from a byte on
abbrev pub number_at : IntegerType → List ℕ → ℕ → Value
number_at integer bytes at = cut integer (little_endian (take (bytes_of integer) (drop at bytes)))

-- the first places of an array hold the numbers that the bytes spell
pub record Filled (u : Ram) (m : Memory) (l : Leads) (thing : ℕ) (e : Entry) (integer : IntegerType) (bytes : List ℕ) (k : ℕ) : Type 0 where
  pub places : List (Option BoardValue)
  pub keeps : Keeps u (put_in m thing (record e { places = places }))
  pub count : length places ≡ length e.places
  pub first : (i : ℕ) → i < k → seen l (slice_index_or places i None) ≡ number_at integer bytes (i * bytes_of integer)

-- the array of this number gets the numbers of the bytes
abbrev pub elements_set : Scene → ℕ → Entry → List ℕ → Cell → Option State
elements_set c thing e bytes cell = initialise c.program c.state c.frame c.callers c.next c.rest (thing - 1) (cli_type e.shape.of) (elements_of c e) bytes cell
