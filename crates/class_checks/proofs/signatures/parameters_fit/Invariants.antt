use Rattle.std.proofs.Common.{◌≡◌, true, take}
use Rattle.std.specs.List.{list_all}
use Rattle.class_table.specs.Seen.{classes_seen}
use Rattle.class_checks.specs.Parameters.{place_fits}
use Rattle.class_checks.proofs.signatures.parameters_fit.Given as goal

abbrev pub invariant-loop-place : goal.invariant-loop-place
invariant-loop-place l = list_all (place_fits (classes_seen l.setting.table.now) l.class.file) (take l.place-index l.places) ≡ true
