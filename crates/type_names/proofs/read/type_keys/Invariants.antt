use Rattle.std.proofs.Common.{◌≡◌, map, take, length}
use Rattle.file_tables.specs.Metadata.{rows_of}
use Rattle.assemblies.specs.Binding.{numbered}
use Rattle.world_rows.specs.Tokens.{type_defs}
use Rattle.type_names.specs.Names.{type_seen, type_name_at}
use Rattle.type_names.proofs.read.type_keys.Given as goal

abbrev pub invariant-loop-n : goal.invariant-loop-n
invariant-loop-n l = record { names : map type_seen l.keys.items ≡ numbered (type_name_at l.tables) 0 (take l.n (rows_of l.tables type_defs)); count : length l.keys.items ≡ l.n }
