use Rattle.std.proofs.Common.{◌<◌, ◌≤◌, length, ap, ◌∙◌, arith}
use Rattle.kept_rules.specs.Row.{MethodAt}
use Rattle.row_rules.specs.Links.{row_at}
use Rattle.member_rules.specs.Members.{is_initialiser}
use Rattle.member_rules.proofs.ItemLaws.{pass_added, passes_added}
use Rattle.member_rules.proofs.parts.keep_initialisers.Goals as goal

pub loop-n-preserved : goal.loop-n-preserved
loop-n-preserved c =
    let f = c.args.place.file in
    let xs = c.args.methods.now in
    let within : c.loop-n.n < length xs = omega (arith, c.loop-n-test.true) in
    pass_added (MethodAt f) is_initialiser (row_at c.args.place) c.args.first xs c.args.rules.now c.loop-n.rules c.keep_if.new.rules c.loop-n.n c.index-methods-n.result (row_at c.in_ok-method.method) c.is_initialiser.result within c.loop-n.invariant
    (c.is_initialiser.ensures ∙ ap is_initialiser c.index-methods-n.is)
    (ap row_at c.in_ok-method.ensures)
    c.in_ok-keep_if.ensures

pub returns : goal.returns
returns c =
    let xs = c.args.methods.now in
    let past : length xs ≤ c.loop-n.n = omega (arith, c.loop-n-test.false) in
    passes_added (MethodAt c.args.place.file) is_initialiser (row_at c.args.place) c.args.first xs c.args.rules.now c.loop-n.rules c.loop-n.n past c.loop-n.invariant
