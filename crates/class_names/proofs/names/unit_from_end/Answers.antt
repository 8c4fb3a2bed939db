use Rattle.std.proofs.Common.{◌≡◌, suc, ◌+◌, ◌-◌, length, sym, ap, ◌∙◌, arith}
use Rattle.member_keys.specs.Seen.{class_seen}
use Rattle.class_table.specs.Seen.{classes_seen}
use Rattle.class_names.specs.Units.{own_units, units_within}
use Rattle.class_names.specs.Ends.{from_end}
use Rattle.class_names.proofs.NameLaws.{end_high, inner, plus_end, own_end, outer_end}
use Rattle.class_names.proofs.names.unit_from_end.Goals as goal

pub returns-then-left-own : goal.returns-then-left-own
returns-then-left-own c =
    let t = c.args.table.now in
    let n = t.size - (c.loop-step._step + 1) in
    let steps : suc n + c.loop-step._step ≡ t.size = omega (arith, c.loop-step-test.true) in
    let own = c.from-own.ensures in
    let count = c.count_own.ensures in
    let low = c.if-left-own.true in
    c.own_from_end.ensures ∙ sym (own_end (classes_seen t) n (class_seen c.loop-step.class) c.loop-step.left (omega (arith, own, count, low))) ∙ c.loop-step.invariant (suc n) steps

pub returns-in_err-class : goal.returns-in_err-class
returns-in_err-class c =
    let t = c.args.table.now in
    let cs = classes_seen t in
    let class = class_seen c.loop-step.class in
    let n = t.size - (c.loop-step._step + 1) in
    let steps : suc n + c.loop-step._step ≡ t.size = omega (arith, c.loop-step-test.true) in
    let own = c.from-own.ensures in
    let count = c.count_own.ensures in
    let high = c.if-left-own.false in
    c.from_residual.ensures
    ∙ sym (end_high (own_units cs class) c.loop-step.left (omega (arith, own, count, high)))
    ∙ ap (λ xs. from_end xs c.loop-step.left) (sym (inner cs n class (sym c.in_err-class.ensures)))
    ∙ c.loop-step.invariant (suc n) steps

pub returns-then-left-own-2 : goal.returns-then-left-own-2
returns-then-left-own-2 c =
    let t = c.args.table.now in
    let cs = classes_seen t in
    let class = class_seen c.loop-step.class in
    let n = t.size - (c.loop-step._step + 1) in
    let steps : suc n + c.loop-step._step ≡ t.size = omega (arith, c.loop-step-test.true) in
    let own = c.from-own.ensures in
    let count = c.count_own.ensures in
    let same = c.if-left-own-2.true in
    let at : length (own_units cs class) ≡ c.loop-step.left = omega (arith, own, count, same) in
    sym (plus_end cs n class (class_seen c.in_ok-class.class) (sym c.in_ok-class.ensures)) ∙ ap (from_end (units_within (suc n) cs class)) at ∙ c.loop-step.invariant (suc n) steps

pub loop-step-preserved : goal.loop-step-preserved
loop-step-preserved c =
    λ n e.
    let cs = classes_seen c.args.table.now in
    let class = class_seen c.loop-step.class in
    let steps : suc n + c.loop-step._step ≡ c.args.table.now.size = omega (arith, e) in
    let own = c.from-own.ensures in
    let count = c.count_own.ensures in
    let high = c.if-left-own.false in
    let other = c.if-left-own-2.false in
    sym (outer_end cs n class (class_seen c.in_ok-class.class) (sym c.in_ok-class.ensures) c.loop-step.left (c.loop-step.left - (c.from-own.result + 1)) (omega (arith, own, count, high, other)))
    ∙ c.loop-step.invariant (suc n) steps

pub returns : goal.returns
returns c = c.own_from_end-2.ensures ∙ c.loop-step.invariant 0 (omega (arith, c.loop-step-test.false, c.loop-step.auto._step-end))
