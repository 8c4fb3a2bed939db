use Rattle.std.proofs.Common.{◌≡◌, ℕ, ◌<◌, Some}
use Rattle.std.specs.Prelude.{slice_get}
use Rattle.set_binding.specs.declared.tables.FileBindings.{FileBindings}
use Rattle.bound_set.specs.Small.{FileIsSmall}
use Rattle.bound_set.proofs.small.check_small.Given as goal

abbrev pub invariant-loop-file : goal.invariant-loop-file
invariant-loop-file l = (k : ℕ) (b : FileBindings) → k < l.file-index → slice_get l.bindings.files.items k ≡ Some b → FileIsSmall b
