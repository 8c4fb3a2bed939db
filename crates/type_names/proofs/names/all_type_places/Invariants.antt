use Rattle.std.proofs.Common.{◌≡◌, length}
use Rattle.type_names.specs.Names.{Each, FindsTypesOf}
use Rattle.type_names.proofs.names.all_type_places.Given as goal

abbrev pub invariant-loop-file : goal.invariant-loop-file
invariant-loop-file l = record { count : length l.types.items ≡ l.file-index; each : Each FindsTypesOf l.files l.types.items }
