use Rattle.std.proofs.Common.{◌∙◌, rules}
use Rattle.tiny_interp.proofs.PostfixLemmas.{value_turn, count_turn}
use Rattle.tiny_interp.proofs.postfix.evaluate.Goals as goal

pub loop-index-preserved : goal.loop-index-preserved
loop-index-preserved c = record {
  value = value_turn _ c.loop-index.rest.now _ _ c.in_ok-item.item c.loop-index.stack _ (search rules) (search rules) (search rules) c.in_ok-apply.ensures ∙ c.loop-index.invariant.value;
  count = count_turn _ c.loop-index.rest.now _ _ c.in_ok-item.item (search rules) (search rules) (search rules) ∙ c.loop-index.invariant.count;
}
