use Rattle.std.proofs.Common.{◌≡◌, ◌-◌, ◌<◌, ◌^◌, ◌++◌, [], map}
use Rattle.std.specs.Prelude.{unsigned_abs}
use Rattle.std.specs.Int.{w16}
use Rattle.std.specs.List.{range_with_len}
use Rattle.assemblies.specs.Closed.{Each}
use Rattle.cil_code.specs.Instructions.{target_at}
use Rattle.image_bytes.specs.Layout.{all_onto}
use Rattle.image_form.specs.Codes.{target, signed_onto, AllFit}
use Rattle.code_shrink.specs.Shrunk.{moved}
use Rattle.code_shrink.specs.Starts.{place_in}
use Rattle.code_shrink.proofs.write.push_distances.Given as goal

abbrev pub invariant-loop-k : goal.invariant-loop-k
invariant-loop-k l = record {
  near : Each (λ z. unsigned_abs z < 2 ^ 32) (map (target l.next) (map (target_at l.code l.at) (range_with_len l.k (l.targets - l.k))));
  fit : AllFit w16 (map (moved (place_in l.starts) l.next) (map (target_at l.code l.at) (range_with_len l.k (l.targets - l.k))));
  all : l.out.items ++ all_onto (signed_onto w16) (map (moved (place_in l.starts) l.next) (map (target_at l.code l.at) (range_with_len l.k (l.targets - l.k)))) [] ≡ l.fn.out.items ++ all_onto (signed_onto w16) (map (moved (place_in l.starts) l.next) (map (target_at l.code l.at) (range_with_len 0 l.targets))) [];
}
