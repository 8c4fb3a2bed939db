use Rattle.std.proofs.Common.{sym, ◌∙◌}
use Rattle.member_reading.specs.Natives.{is_class}
use Rattle.member_reading.proofs.SearchLaws.{stands, place_found, place_more}
use Rattle.member_reading.proofs.native.find_row.Goals as goal

pub returns-then-is_class : goal.returns-then-is_class
returns-then-is_class c =
    sym
    (place_found (is_class c.args.namespace.now c.args.name.now) c.args.rows.now c.loop-n.n c.index-rows-n.result c.loop-n.invariant
    (stands c.args.rows.now c.loop-n.n c.index-rows-n.result c.loop-n-test.true c.index-rows-n.is) (sym c.is_class.ensures ∙ c.if-is_class.true))

pub loop-n-preserved : goal.loop-n-preserved
loop-n-preserved c =
    place_more (is_class c.args.namespace.now c.args.name.now) c.args.rows.now c.loop-n.n c.index-rows-n.result c.loop-n.invariant
    (stands c.args.rows.now c.loop-n.n c.index-rows-n.result c.loop-n-test.true c.index-rows-n.is) (sym c.is_class.ensures ∙ c.if-is_class.false)
