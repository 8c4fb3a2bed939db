use Rattle.std.proofs.Common.{◌≡◌, ℕ, Some, length}
use Rattle.std.specs.Prelude.{slice_get}
use Rattle.set_names.specs.Names.{seen_all}
use Rattle.set_binding.specs.declared.tables.FileBindings.{FileBindings}
use Rattle.set_binding.specs.Columns.{IsBoundFile}
use Rattle.set_binding.proofs.file.bind_files.Given as goal

abbrev pub invariant-loop-file : goal.invariant-loop-file
invariant-loop-file l = record {
  size : length l.files.items ≡ l.file;
  each : (file : ℕ) (b : FileBindings) → slice_get l.files.items file ≡ Some b → IsBoundFile (seen_all l.names) file b;
}
