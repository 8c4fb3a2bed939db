use Rattle.std.proofs.Common.{sym, ◌∙◌}
use Rattle.verify_ops.proofs.Choices.{new_chosen}
use Rattle.verify_ops.proofs.members.new_object.Goals as goal

pub returns-in-Method : goal.returns-in-Method
returns-in-Method c = λ n. new_chosen c.args.facts.now n c.in-Method.method c.class_of.result c.this_place.result c.in-Method.is (sym c.is_new.ensures ∙ c.if-is_new.true) c.class_of.ensures c.this_place.ensures
