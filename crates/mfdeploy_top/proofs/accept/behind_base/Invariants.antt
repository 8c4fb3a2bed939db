use Rattle.std.proofs.Common.{◌≡◌, ◌++◌, map}
use Rattle.std.specs.Vec.Iter.{into_iter_items, into_iter_len}
use Rattle.std.proofs.Common.{length}
use Rattle.mfdeploy_top.specs.Accepted.{base_bytes}
use Rattle.mfdeploy_top.proofs.accept.behind_base.Given as goal

abbrev pub invariant-loop-file : goal.invariant-loop-file
invariant-loop-file l = record {
  len : into_iter_len l.file-iterator ≡ length (into_iter_items l.file-iterator);
  joined : map (λ bytes. bytes.items) l.all.items ++ map (λ bytes. bytes.items) (into_iter_items l.file-iterator) ≡ base_bytes ++ map (λ bytes. bytes.items) l.fn.files.items;
}
