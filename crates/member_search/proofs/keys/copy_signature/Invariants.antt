use Rattle.std.proofs.Common.{◌≡◌, take}
use Rattle.member_search.proofs.keys.copy_signature.Given as goal

abbrev pub invariant-loop-place : goal.invariant-loop-place
invariant-loop-place l = l.parameters.items ≡ take l.place-index l.place-items
