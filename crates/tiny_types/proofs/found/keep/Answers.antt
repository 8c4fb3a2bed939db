use Rattle.tiny_types.proofs.FoundLaws.{one_more}
use Rattle.tiny_types.proofs.found.keep.Goals as goal

pub returns-then-place-found : goal.returns-then-place-found
returns-then-place-found c = λ cs are right. one_more cs c.args.found.now c.args.place c.args.new are right
