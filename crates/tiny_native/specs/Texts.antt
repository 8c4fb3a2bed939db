-- A new string behind the other things.
use Rattle.std.specs.Prelude.{◌≡◌, ℕ, ◌+◌, ◌<◌, List, length, Option, Some, None, slice_index, slice_index_or}
use Rattle.board_types.specs.declared.value.Value.{Value}
use Rattle.board_types.specs.declared.value.Value.TheVariants.{Ref}
use Rattle.tiny_ram.specs.Things.{Entry, entry_cells, string_shape}
use Rattle.tiny_ram.specs.Memory.{Memory, heap_cells, used, with_entry}
use Rattle.tiny_ram.specs.Region.{Keeps}
use Rattle.tiny_ram.specs.declared.memory.Ram.{Ram}
use Rattle.tiny_native.specs.Seen.{unit_place, text_entry}
use Rattle.tiny_native.specs.declared.ending.NativeEnd.{NativeEnd}
use Rattle.tiny_native.specs.declared.ending.NativeEnd.TheVariants.{Gives, Spent}

-- a string of so many units whose places hold this
abbrev pub string_entry : ℕ → List (Option Value) → Entry
string_entry n places = record { shape = string_shape n; places = places }

-- the first units of a text are put into a new string
pub record Written (u : Ram) (m : Memory) (units : List ℕ) (thing n k : ℕ) : Type 0 where
  pub places : List (Option Value)
  pub number : thing ≡ 1 + heap_cells m.heap
  pub keeps : Keeps u (with_entry m (string_entry n places))
  pub count : length places ≡ n
  pub first : (i : ℕ) → i < k → slice_index_or places i None ≡ unit_place (slice_index units i)

-- the string is behind the others, or its cells don't do and nothing has changed
abbrev pub MadeText : Ram → Memory → List ℕ → NativeEnd → Type 0
MadeText u m units (Gives (Some (Ref thing))) = (thing ≡ 1 + heap_cells m.heap) × Keeps u (with_entry m (text_entry units))
MadeText u m units Spent = (m.room < used m + entry_cells (text_entry units)) × Keeps u m
MadeText u m units _ = ⊥
