-- What runs where the methods of a table are called.
use Rattle.std.specs.Prelude.{ℕ, ◌==◌, Bool, true, false, List, slice_get}
use Rattle.machine.specs.Program.{native_number, Body, Native}
use Rattle.class_rules.specs.Rules.{holds_some, only_if}
use Rattle.world_rows.specs.Rows.{is_internal}
use Rattle.class_table.specs.declared.rows.MethodRow.{MethodRow}
use Rattle.class_table.specs.Seen.{body_seen}

abbrev pub is_number : ℕ → Body → Bool
is_number number (Native name) = native_number name == number
is_number number _ = false

abbrev pub is_native : Body → Bool
is_native (Native name) = true
is_native _ = false

-- an internal call, of a row of MethodDef, is a native
abbrev pub call_well : List MethodRow → ℕ → List ℕ → Bool
call_well rows n row = only_if (is_internal row) (holds_some (slice_get rows n) (λ m. is_native (body_seen m.body)))
