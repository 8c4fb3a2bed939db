use Rattle.std.proofs.Common.{◌≡◌, drop}
use Rattle.deploy_model.specs.Banks.{holds}
use Rattle.boot_scan.proofs.banks.has_marker.Given as goal

abbrev pub invariant-loop-k : goal.invariant-loop-k
invariant-loop-k l = holds (drop l.k l.marker) l.k l.bytes ≡ holds l.marker 0 l.bytes
