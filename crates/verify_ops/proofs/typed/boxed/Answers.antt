use Rattle.verify_ops.proofs.Choices.{box_chosen}
use Rattle.verify_ops.proofs.typed.boxed.Goals as goal

pub returns : goal.returns
returns c = λ n. box_chosen c.args.facts.now n c.in_ok-of.of c.pointee.result c.value_type.result c.in_ok-of.ensures c.pointee.ensures c.value_type.ensures
