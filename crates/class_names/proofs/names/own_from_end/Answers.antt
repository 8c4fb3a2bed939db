use Rattle.std.proofs.Common.{◌-◌, sym, ◌∙◌, arith}
use Rattle.member_keys.specs.Seen.{class_seen}
use Rattle.class_table.specs.Seen.{classes_seen}
use Rattle.class_names.specs.Units.{own_units}
use Rattle.class_names.proofs.NameLaws.{end_high, end_at}
use Rattle.class_names.proofs.names.own_from_end.Goals as goal

pub returns-then-behind-own : goal.returns-then-behind-own
returns-then-behind-own c =
    let own = c.from-own.ensures in
    let count = c.count_own.ensures in
    let high = c.if-behind-own.true in
    sym (end_high (own_units (classes_seen c.args.table.now) (class_seen c.args.class)) c.args.behind (omega (arith, own, count, high)))

pub returns : goal.returns
returns c =
    let own = c.from-own.ensures in
    let count = c.count_own.ensures in
    let low = c.if-behind-own.false in
    sym
    (end_at (own_units (classes_seen c.args.table.now) (class_seen c.args.class)) (c.from-own.result - c.args.behind - 1) c.args.behind (omega (arith, own, count, low))
    ∙ c.in-Ok.ensures.unit)

pub unreachable-requires : goal.unreachable-requires
unreachable-requires c =
    let own = c.from-own.ensures in
    let count = c.count_own.ensures in
    let low = c.if-behind-own.false in
    let past = c.in-Err.ensures.past in
    omega (arith, own, count, low, past)
