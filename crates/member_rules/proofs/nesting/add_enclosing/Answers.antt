use Rattle.std.proofs.Common.{◌<◌, ◌≤◌, length, ap, ◌∙◌, arith}
use Rattle.class_table.specs.declared.rows.ClassRow.{ClassRow}
use Rattle.kept_rules.specs.Row.{TypeAt, in_option, enclosing_row}
use Rattle.row_rules.specs.declared.rules.RowPlace.{RowPlace}
use Rattle.row_rules.specs.Links.{row_at}
use Rattle.member_rules.proofs.ItemLaws.{item_added, items_added}
use Rattle.member_rules.proofs.nesting.add_enclosing.Goals as goal

pub loop-n-preserved : goal.loop-n-preserved
loop-n-preserved c =
    let f = c.args.file in
    let xs = c.args.rows.now.classes.items in
    let y = c.index.result.now in
    let within : c.loop-n.n < length xs = omega (arith, c.loop-n-test.true, c.len-n-end.ensures) in
    item_added (TypeAt f) (λ (z : ClassRow). in_option (enclosing_row f) z.enclosing) xs c.args.rules.now c.loop-n.rules c.keep_type.new.rules c.loop-n.n y (row_at c.in_ok-place.place) (in_option (enclosing_row c.in_ok-place.place.file) y.enclosing) within c.loop-n.invariant
    (ap row_at c.in_ok-place.ensures)
    (ap (λ (p : RowPlace). in_option (enclosing_row p.file) y.enclosing) c.in_ok-place.ensures ∙ ap (λ (z : ClassRow). in_option (enclosing_row f) z.enclosing) c.index.ensures)
    c.in_ok-keep_type.ensures

pub returns : goal.returns
returns c =
    let f = c.args.file in
    let xs = c.args.rows.now.classes.items in
    let past : length xs ≤ c.loop-n.n = omega (arith, c.loop-n-test.false, c.len-n-end.ensures) in
    items_added (TypeAt f) (λ (z : ClassRow). in_option (enclosing_row f) z.enclosing) xs c.args.rules.now c.loop-n.rules c.loop-n.n past c.loop-n.invariant
