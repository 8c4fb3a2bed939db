use Rattle.std.proofs.Common.{◌≡◌, suc, ◌+◌, ◌-◌, ◌≤◌, Option, Some, sym, ap, ◌∙◌, subst, arith}
use Rattle.std.specs.Prelude.{sum}
use Rattle.board_types.specs.declared.value.Value.{Value as RamValue}
use Rattle.step_calls.specs.Arguments.{value_in, count_in}
use Rattle.step_calls.proofs.arguments.argument.Goals as goal

pub returns-in_default : goal.returns-in_default
returns-in_default c = λ m f n k e inside l.
    let first = c.args.from.first in
    let within : first + n ≤ sum f.sizes = subst (λ (o : Option RamValue). first + count_in o n ≤ sum f.sizes) c.in_default.is inside.within in
    c.on_stack-whole.ensures m f k e (omega (arith, within, l)) ∙ sym (ap (λ (o : Option RamValue). value_in f first o c.args.i) c.in_default.is)

pub returns-then-i-eq0 : goal.returns-then-i-eq0
returns-then-i-eq0 c = λ m f n k e inside l.
    let first = c.args.from.first in
    sym (ap (λ (o : Option RamValue). value_in f first o c.args.i) c.in-Some.is ∙ ap (value_in f first (Some c.in-Some.this)) c.if-i-eq0.true)

pub returns : goal.returns
returns c = λ m f n k e inside l.
    let first = c.args.from.first in
    let within : first + (n - 1) ≤ sum f.sizes = subst (λ (o : Option RamValue). first + count_in o n ≤ sum f.sizes) c.in-Some.is inside.within in
    let other = c.if-i-eq0.false in
    let next : c.args.i ≡ suc (c.args.i - 1) = omega (arith, other) in
    c.on_stack-other.ensures m f k e (omega (arith, within, l, other))
    ∙ sym (ap (λ (o : Option RamValue). value_in f first o c.args.i) c.in-Some.is ∙ ap (value_in f first (Some c.in-Some.this)) next)
