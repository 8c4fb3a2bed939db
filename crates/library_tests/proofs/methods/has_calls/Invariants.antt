use Rattle.std.proofs.Common.{◌≡◌, true, take}
use Rattle.std.specs.List.{list_all}
use Rattle.file_tables.specs.Metadata.{rows_of}
use Rattle.assemblies.specs.Binding.{numbered}
use Rattle.world_rows.specs.Tokens.{methods}
use Rattle.library_tests.specs.Methods.{call_well}
use Rattle.library_tests.proofs.methods.has_calls.Given as goal

abbrev pub invariant-loop-n : goal.invariant-loop-n
invariant-loop-n l = list_all (λ well. well) (take l.n (numbered (call_well l.rows) 0 (rows_of l.tables methods))) ≡ true
