use Rattle.std.proofs.Common.{◌≡◌, length}
use Rattle.set_names.specs.Names.{seen_all}
use Rattle.set_table.specs.Whole.{AreFiles}
use Rattle.set_table.proofs.table.read_files.Given as goal

abbrev pub invariant-loop-file : goal.invariant-loop-file
invariant-loop-file l = record { size : length l.files.items ≡ l.file; files : AreFiles (seen_all l.names) l.files.items }
