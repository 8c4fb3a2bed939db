use Rattle.std.proofs.Common.{◌<◌, ◌≤◌, length, ap, ◌∙◌, arith}
use Rattle.kept_rules.specs.Row.{TypeAt}
use Rattle.row_rules.specs.declared.rules.RowPlace.{RowPlace}
use Rattle.row_rules.specs.Links.{row_at}
use Rattle.member_rules.specs.Members.{parts_of}
use Rattle.member_rules.proofs.ItemLaws.{item_added, items_added}
use Rattle.member_rules.proofs.parts.add_parts.Goals as goal

pub loop-n-preserved : goal.loop-n-preserved
loop-n-preserved c =
    let f = c.args.file in
    let x = c.args.rows.now in
    let y = c.index.result.now in
    let within : c.loop-n.n < length x.classes.items = omega (arith, c.loop-n-test.true, c.len-n-end.ensures) in
    item_added (TypeAt f) (parts_of f x) x.classes.items c.args.rules.now c.loop-n.rules c.keep_parts.new.rules c.loop-n.n y (row_at c.in_ok-place.place) (parts_of c.in_ok-place.place.file x y) within c.loop-n.invariant
    (ap row_at c.in_ok-place.ensures)
    (ap (λ (p : RowPlace). parts_of p.file x y) c.in_ok-place.ensures ∙ ap (parts_of f x) c.index.ensures)
    c.in_ok-keep_parts.ensures

pub returns : goal.returns
returns c =
    let f = c.args.file in
    let x = c.args.rows.now in
    let past : length x.classes.items ≤ c.loop-n.n = omega (arith, c.loop-n-test.false, c.len-n-end.ensures) in
    items_added (TypeAt f) (parts_of f x) x.classes.items c.args.rules.now c.loop-n.rules c.loop-n.n past c.loop-n.invariant
