use Rattle.std.proofs.Common.{◌≡◌, length, map}
use Rattle.type_names.specs.Files.{parts_of}
use Rattle.type_names.specs.Resolved.{AreResolved}
use Rattle.type_names.proofs.world.resolve_files.Given as goal

abbrev pub invariant-loop-n : goal.invariant-loop-n
invariant-loop-n l = record { size : length l.all.items ≡ l.n; resolved : AreResolved (parts_of l.files) (map (λ types. types.items) l.all.items) }
