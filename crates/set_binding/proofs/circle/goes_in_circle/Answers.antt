use Rattle.std.proofs.Common.{sym, ◌∙◌}
use Rattle.class_queries.specs.declared.chains.Way.TheVariants as way
use Rattle.class_table.specs.Seen.{classes_seen}
use Rattle.member_keys.specs.Seen.{class_seen}
use Rattle.set_binding.proofs.LackingLaws.{circle_above, circle_through, circle_around}
use Rattle.set_binding.proofs.circle.goes_in_circle.Goals as goal

pub ends-above-requires : goal.ends-above-requires
ends-above-requires c = c.requires.above.numbers

pub ends-interfaces-requires : goal.ends-interfaces-requires
ends-interfaces-requires c = c.requires.interfaces.numbers

pub ends-around-requires : goal.ends-around-requires
ends-around-requires c = c.requires.around.numbers

pub returns-then-not-above : goal.returns-then-not-above
returns-then-not-above c = circle_above (classes_seen c.args.table.now) (class_seen c.args.class) (sym (c.ends-above.ensures way.Above c.requires.above) ∙ c.if-not-above.true)

pub returns-then-not-interfaces : goal.returns-then-not-interfaces
returns-then-not-interfaces c =
    circle_through (classes_seen c.args.table.now) (class_seen c.args.class) (sym (c.ends-above.ensures way.Above c.requires.above) ∙ c.if-not-above.false)
    (sym (c.ends-interfaces.ensures way.Interfaces c.requires.interfaces) ∙ c.if-not-interfaces.true)

pub returns : goal.returns
returns c =
    circle_around (classes_seen c.args.table.now) (class_seen c.args.class) (sym (c.ends-above.ensures way.Above c.requires.above) ∙ c.if-not-above.false)
    (sym (c.ends-interfaces.ensures way.Interfaces c.requires.interfaces) ∙ c.if-not-interfaces.false) c.ends-around.result (c.ends-around.ensures way.Around c.requires.around)
