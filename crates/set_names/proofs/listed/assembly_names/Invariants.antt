use Rattle.std.proofs.Common.{◌≡◌, map, take}
use Rattle.tiny_rows.specs.Rows.{rows_seen, assembly_seen, own_name}
use Rattle.set_names.proofs.listed.assembly_names.Given as goal

abbrev pub invariant-loop-image : goal.invariant-loop-image
invariant-loop-image l = map assembly_seen l.names.items ≡ map (λ i. own_name (rows_seen i)) (take l.image-index l.images)
