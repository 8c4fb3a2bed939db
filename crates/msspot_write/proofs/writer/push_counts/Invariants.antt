use Rattle.std.proofs.Common.{◌≡◌, ◌++◌, [], take}
use Rattle.image_bytes.specs.Layout.{words_onto}
use Rattle.msspot_write.proofs.writer.push_counts.Given as goal

abbrev pub invariant-loop-count : goal.invariant-loop-count
invariant-loop-count l = l.out.items ≡ l.fn.out.items ++ words_onto (take l.count-index l.counts) []
