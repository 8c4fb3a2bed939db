use Rattle.std.proofs.Common.{◌-◌, sym, ◌∙◌, arith}
use Rattle.member_keys.specs.Seen.{class_seen}
use Rattle.class_table.specs.Seen.{classes_seen}
use Rattle.class_names.specs.Units.{full_units}
use Rattle.class_names.proofs.NameLaws.{end_at, some_there}
use Rattle.class_names.proofs.names.name_unit.Goals as goal

pub returns-clause-unit : goal.returns-clause-unit
returns-clause-unit c =
    let at = c.from-at.ensures in
    let count = c.count_units-count.ensures in
    let low = c.if-count-at.false in
    sym (end_at (full_units (classes_seen c.args.table.now) (class_seen c.args.class)) c.args.k (c.count_units-count.result - c.from-at.result - 1) (omega (arith, at, count, low)))
    ∙ sym c.in-Some.ensures

pub unreachable-requires : goal.unreachable-requires
unreachable-requires c =
    let at = c.from-at.ensures in
    let count = c.count_units-count.ensures in
    let low = c.if-count-at.false in
    let full = full_units (classes_seen c.args.table.now) (class_seen c.args.class) in
    some_there full c.args.k (omega (arith, at, count, low))
    (sym (end_at full c.args.k (c.count_units-count.result - c.from-at.result - 1) (omega (arith, at, count, low))) ∙ sym c.in-None.ensures)
