use Rattle.std.proofs.Common.{◌<◌, ◌≤◌, length, ap, ◌∙◌, arith}
use Rattle.kept_rules.specs.Row.{MethodAt}
use Rattle.row_rules.specs.declared.rules.RowPlace.{RowPlace}
use Rattle.row_rules.specs.Links.{row_at}
use Rattle.member_rules.specs.Members.{kept_by_method}
use Rattle.member_rules.proofs.ItemLaws.{item_added, items_added}
use Rattle.member_rules.proofs.members.add_methods.Goals as goal

pub loop-n-preserved : goal.loop-n-preserved
loop-n-preserved c =
    λ cs is.
    let f = c.args.file in
    let xs = c.args.rows.now.methods.items in
    let y = c.index.result.now in
    let within : c.loop-n.n < length xs = omega (arith, c.loop-n-test.true, c.len-n-end.ensures) in
    item_added (MethodAt f) (kept_by_method cs f) xs c.args.rules.now c.loop-n.rules c.keep_method.new.rules c.loop-n.n y (row_at c.in_ok-place.place) (kept_by_method cs c.in_ok-place.place.file y) within (c.loop-n.invariant cs is)
    (ap row_at c.in_ok-place.ensures)
    (ap (λ (p : RowPlace). kept_by_method cs p.file y) c.in_ok-place.ensures ∙ ap (kept_by_method cs f) c.index.ensures)
    (c.in_ok-keep_method.ensures cs is)

pub returns : goal.returns
returns c =
    λ cs is.
    let f = c.args.file in
    let xs = c.args.rows.now.methods.items in
    let past : length xs ≤ c.loop-n.n = omega (arith, c.loop-n-test.false, c.len-n-end.ensures) in
    items_added (MethodAt f) (kept_by_method cs f) xs c.args.rules.now c.loop-n.rules c.loop-n.n past (c.loop-n.invariant cs is)
