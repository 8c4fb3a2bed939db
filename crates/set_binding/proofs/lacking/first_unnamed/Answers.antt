use Rattle.std.proofs.Common.{◌≡◌, ◌<◌, Bool, Some, None, length, sym, ap, ◌∙◌, arith}
use Rattle.std.specs.Prelude.{if◌then◌else◌}
use Rattle.set_binding.specs.Lacking.{unnamed_at}
use Rattle.set_binding.proofs.FirstLaws.{none_at_start, none_more, first_at, first_none}
use Rattle.set_binding.proofs.lacking.first_unnamed.Goals as goal

pub loop-n-init : goal.loop-n-init
loop-n-init c = none_at_start (unnamed_at c.args.column.now)

pub returns-then-not-named : goal.returns-then-not-named
returns-then-not-named c =
    let column = c.args.column.now in
    let n = c.loop-n.n in
    let within : n < length column = omega (arith, c.loop-n-test.true) in
    sym (first_at (unnamed_at column) n (length column) n within c.loop-n.invariant (ap (λ b. if b then None else Some n) (sym c.is_named-named.ensures ∙ c.if-not-named.true)))

pub loop-n-preserved : goal.loop-n-preserved
loop-n-preserved c =
    let column = c.args.column.now in
    let n = c.loop-n.n in
    none_more (unnamed_at column) n c.loop-n.invariant (ap (λ b. if b then None else Some n) (sym c.is_named-named.ensures ∙ c.if-not-named.false))

pub returns : goal.returns
returns c =
    let column = c.args.column.now in
    sym (first_none (unnamed_at column) (length column) (λ k h. c.loop-n.invariant k (omega (arith, h, c.loop-n-test.false))))
