use Rattle.std.proofs.Common.{◌≡◌, ◌++◌, [], take}
use Rattle.image_bytes.specs.Layout.{words_onto}
use Rattle.msspot_write.proofs.writer.push_words.Given as goal

abbrev pub invariant-loop-word : goal.invariant-loop-word
invariant-loop-word l = l.out.items ≡ l.fn.out.items ++ words_onto (take l.word-index l.words) []
