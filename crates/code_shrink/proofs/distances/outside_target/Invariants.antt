use Rattle.std.proofs.Common.{◌≡◌, ◌-◌, ◌<◌, ◌^◌, map}
use Rattle.std.specs.Prelude.{unsigned_abs}
use Rattle.std.specs.List.{range_with_len}
use Rattle.assemblies.specs.Closed.{Each}
use Rattle.cil_code.specs.Instructions.{target_at}
use Rattle.image_form.specs.Codes.{target}
use Rattle.code_shrink.specs.Limits.{first_far}
use Rattle.code_shrink.specs.Shrunk.{moved}
use Rattle.code_shrink.specs.Starts.{place_in}
use Rattle.code_shrink.proofs.distances.outside_target.Given as goal

abbrev pub invariant-loop-k : goal.invariant-loop-k
invariant-loop-k l = record {
  near : Each (λ z. unsigned_abs z < 2 ^ 32) (map (target l.next) (map (target_at l.code l.at) (range_with_len l.k (l.targets - l.k))));
  none : first_far (map (moved (place_in l.starts) l.next) (map (target_at l.code l.at) (range_with_len l.k (l.targets - l.k)))) ≡ first_far (map (moved (place_in l.starts) l.next) (map (target_at l.code l.at) (range_with_len 0 l.targets)));
}
