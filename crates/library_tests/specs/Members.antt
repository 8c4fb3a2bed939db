-- The natives and the internal calls of a file, by the rows of a table.
use Rattle.std.specs.Prelude.{ℕ, ◌==◌, ◌&&◌, Bool, List}
use Rattle.std.specs.List.{list_all, list_any}
use Rattle.file_tables.specs.Metadata.{MetadataPart, rows_of}
use Rattle.machine.specs.Program.{native_number}
use Rattle.class_rules.specs.Rules.{only_if}
use Rattle.assemblies.specs.Binding.{numbered}
use Rattle.world_rows.specs.Tokens.{methods}
use Rattle.world_rows.specs.Natives.{natives}
use Rattle.class_table.specs.declared.rows.MethodRow.{MethodRow}
use Rattle.class_table.specs.Seen.{body_seen}
use Rattle.library_tests.specs.Methods.{is_number, call_well}

abbrev pub natives_there : List MethodRow → ℕ → Bool
natives_there rows file = list_all (λ r. only_if (r.file == file) (list_any (λ row. is_number (native_number r.number) (body_seen row.body)) rows)) natives

abbrev pub calls_there : MetadataPart → List MethodRow → Bool
calls_there m rows = list_all (λ well. well) (numbered (call_well rows) 0 (rows_of m methods))

abbrev pub members_well : MetadataPart → List MethodRow → ℕ → Bool
members_well m rows file = natives_there rows file && calls_there m rows
