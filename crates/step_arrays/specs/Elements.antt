-- Elements of arrays, as loads see them.
use Rattle.std.specs.Prelude.{◌≡◌, ℕ, List, [], Option, Some, None, slice_get}
use Rattle.board_types.specs.declared.board.Known.TheVariants.{IndexOutOfRange}
use Rattle.machine.specs.Data.{Cell, Value, Thing, State}
use Rattle.machine.specs.Program.{Program}
use Rattle.machine.specs.Numbers.{kept_in}
use Rattle.machine.specs.Throw.{on_some, raise}
use Rattle.machine.specs.Rows.{on_elements, on_cell, or_raise}
use Rattle.memory_states.specs.Values.{IsValue}
use Rattle.step_arrays.specs.declared.elements.Read.{Read}
use Rattle.step_arrays.specs.declared.elements.Read.TheVariants as read

-- the machine goes on with the n-th element of a thing, as a load by the cell sees it
abbrev pub on_element : Program → State → Thing → ℕ → Cell → (Value → Option State) → Option State
on_element p s x n wide go = on_elements x (λ element values. on_cell element wide (λ cell. or_raise p s IndexOutOfRange (slice_get values n) (λ v. on_some (kept_in wide v) go)))

-- what is read is what the machine goes on with
abbrev pub IsRead : Program → ℕ → Thing → ℕ → Cell → Read → Type 0
IsRead p room x n wide (read.Element r) = (w : Value) × ((s : State) (go : Value → Option State) → on_element p s x n wide go ≡ go w) × IsValue room [] r w
IsRead p room x n wide read.Past = (s : State) (go : Value → Option State) → on_element p s x n wide go ≡ raise p s IndexOutOfRange
IsRead p room x n wide read.Nothing = (s : State) (go : Value → Option State) → on_element p s x n wide go ≡ None
