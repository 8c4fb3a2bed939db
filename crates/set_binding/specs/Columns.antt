-- What the rows of tables name, one after the other.
use Rattle.std.specs.Prelude.{◌≡◌, ℕ, zero, suc, ◌<◌, ◌^◌, List, length, Option, Some, slice_get}
use Rattle.machine.specs.Data.{Id}
use Rattle.machine.specs.Throw.{on_some}
use Rattle.assemblies.specs.Rows.{Assembly}
use Rattle.member_keys.specs.declared.keys.ClassId.{ClassId}
use Rattle.scope_walk.specs.Walk.{value_at}
use Rattle.board_model.specs.Bound.{rows_at, named}
use Rattle.set_binding.specs.declared.tables.FileBindings.{FileBindings}

-- each row of a table of an assembly has what it names
pub record AreNamed (ps : List Assembly) (file table : ℕ) (found : List (Option ClassId)) : Type 0 where
  pub size : length found ≡ rows_at ps file table
  pub few : length found < 2 ^ 32
  pub each : (n : ℕ) → value_at found n ≡ named ps file table n

-- those of a table of a number
abbrev pub column_at : FileBindings → ℕ → List (Option ClassId)
column_at b zero = b.assemblies.items
column_at b (suc zero) = b.types.items
column_at b (suc (suc zero)) = b.fields.items
column_at b (suc (suc (suc table))) = b.methods.items

pub record IsBoundFile (ps : List Assembly) (file : ℕ) (b : FileBindings) : Type 0 where
  pub assemblies : AreNamed ps file 0 b.assemblies.items
  pub types : AreNamed ps file 1 b.types.items
  pub fields : AreNamed ps file 2 b.fields.items
  pub methods : AreNamed ps file 3 b.methods.items

pub record AreBound (ps : List Assembly) (files : List FileBindings) : Type 0 where
  pub count : length files ≡ length ps
  pub each : (file : ℕ) (b : FileBindings) → slice_get files file ≡ Some b → IsBoundFile ps file b

-- what a row of a table of a file has
abbrev pub named_by : List FileBindings → ℕ → ℕ → ℕ → Option Id
named_by files file table n = on_some (slice_get files file) (λ b. value_at (column_at b table) n)
