use Rattle.std.proofs.Common.{sym, ◌∙◌, arith}
use Rattle.step_facts.proofs.FrontLaws.{none_from}
use Rattle.step_facts.proofs.front.start_before.Goals as goal

pub back-init : goal.back-init
back-init c = record {
  low = omega arith;
  none = λ j over under. absurd (omega (arith, over, under));
}

pub returns-then-is_start : goal.returns-then-is_start
returns-then-is_start c = (
  sym c.is_start.ensures ∙ c.if-is_start.true,
  omega (arith, c.back.invariant.low, c.back-test.true),
  λ j over under. c.back.invariant.none j (omega (arith, over)) under,
)

pub back-preserved : goal.back-preserved
back-preserved c = record {
  low = omega (arith, c.back.invariant.low);
  none = none_from c.args.listing.now.code c.args.at c.back.k c.back-test.true c.back.invariant.none (sym c.is_start.ensures ∙ c.if-is_start.false);
}

pub returns : goal.returns
returns c = λ j under. c.back.invariant.none j (omega (arith, c.back-test.false)) under
