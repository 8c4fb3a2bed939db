use Rattle.std.proofs.Common.{◌≡◌, ℕ, suc, ◌+◌, ◌-◌, length, sym, ap, arith}
use Rattle.member_keys.specs.Seen.{class_seen}
use Rattle.class_table.specs.Seen.{classes_seen}
use Rattle.class_names.specs.Units.{units_within}
use Rattle.class_names.proofs.NameLaws.{inner_length, nested_length}
use Rattle.class_names.proofs.names.count_units.Goals as goal

pub loop-step-init : goal.loop-step-init
loop-step-init c =
    record {
      rest =
          λ n e.
          let same : n ≡ c.args.table.now.size = omega (arith, e) in
          let whole = ap (λ (k : ℕ). length (units_within k (classes_seen c.args.table.now) (class_seen c.args.class))) same in
          omega (arith, whole);
      few = omega arith;
    }

pub returns-in-None : goal.returns-in-None
returns-in-None c =
    let t = c.args.table.now in
    let n = t.size - (c.loop-step._step + 1) in
    let left : suc n + c.loop-step._step ≡ t.size = omega (arith, c.loop-step-test.true) in
    let rest = c.loop-step.invariant.rest (suc n) left in
    let last = inner_length (classes_seen t) n (class_seen c.loop-step.class) (sym c.in-None.ensures) in
    let own = c.from-own.ensures in
    let count = c.count_own.ensures in
    omega (arith, rest, last, own, count)

pub loop-step-preserved : goal.loop-step-preserved
loop-step-preserved c =
    let t = c.args.table.now in
    let few = c.loop-step.invariant.few in
    let own = c.from-own.ensures in
    let count = c.count_own.ensures in
    record {
      rest =
          λ n e.
          let rest = c.loop-step.invariant.rest (suc n) (omega (arith, e)) in
          let more = nested_length (classes_seen t) n (class_seen c.loop-step.class) (class_seen c.in-Some.outer) (sym c.in-Some.ensures) in
          omega (arith, rest, more, own, count);
      few = omega (arith, few, own);
    }

pub returns : goal.returns
returns c =
    let rest = c.loop-step.invariant.rest 0 (omega (arith, c.loop-step-test.false, c.loop-step.auto._step-end)) in
    let own = c.from.ensures in
    let count = c.count_own-2.ensures in
    omega (arith, rest, own, count)
