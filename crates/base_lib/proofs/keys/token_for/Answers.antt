use Rattle.std.proofs.Common.{◌∙◌, sym, arith}
use Rattle.base_lib.proofs.Walks.{token_found, token_step, token_none}
use Rattle.base_lib.proofs.keys.token_for.Goals as goal

pub returns-then-is_named : goal.returns-then-is_named
returns-then-is_named c = c.token_behind.ensures ∙ sym (token_found c.args.items.now c.args.key.now c.loop-i.i _ (omega arith) c.if-is_named.ensures) ∙ c.loop-i.invariant

pub loop-i-preserved : goal.loop-i-preserved
loop-i-preserved c = token_step c.args.items.now c.args.key.now c.loop-i.i _ (omega arith) c.if-is_named.ensures ∙ c.loop-i.invariant

pub returns : goal.returns
returns c = sym (token_none c.args.items.now c.args.key.now c.loop-i.i (omega arith)) ∙ c.loop-i.invariant
