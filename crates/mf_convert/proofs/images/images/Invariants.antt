use Rattle.mf_convert.proofs.ImagesLaws.{AreDone}
use Rattle.mf_convert.proofs.images.images.Given as goal

abbrev pub invariant-loop-file : goal.invariant-loop-file
invariant-loop-file l = AreDone l.world l.kept.marks l.file l.set.items
