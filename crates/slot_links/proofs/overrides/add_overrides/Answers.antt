use Rattle.std.proofs.Common.{refl, subst}
use Rattle.member_keys.specs.Seen.{class_seen}
use Rattle.class_table.specs.Seen.{classes_seen}
use Rattle.class_slots.specs.Own.{AreOwn}
use Rattle.slot_links.specs.Slots.{overrides}
use Rattle.slot_links.proofs.OwnLinks.{none_before, method_added, methods_added}
use Rattle.slot_links.proofs.overrides.add_overrides.Goals as goal

pub loop-row-init : goal.loop-row-init
loop-row-init c =
    let t = c.args.methods.now.table in
    let of = class_seen c.args.class in
    let own = subst (λ t. AreOwn t of c.in_ok-own.own) c.table.ensures c.in_ok-own.ensures in
    none_before t of c.in_ok-own.own own (overrides (classes_seen t) (class_seen c.args.class)) c.args.rules.now c.args.rules.now c.in_ok-own.own.start refl

pub loop-row-preserved : goal.loop-row-preserved
loop-row-preserved c =
    let t = c.args.methods.now.table in
    let of = class_seen c.args.class in
    let own = subst (λ t. AreOwn t of c.in_ok-own.own) c.table.ensures c.in_ok-own.ensures in
    method_added t of c.in_ok-own.own own (overrides (classes_seen t) (class_seen c.args.class)) c.args.rules.now c.loop-row.rules c.add_override.new.rules c.loop-row.row c.loop-row.auto.row c.loop-row-test.true c.loop-row.invariant c.in_ok-add_override.ensures

pub returns : goal.returns
returns c =
    let t = c.args.methods.now.table in
    let of = class_seen c.args.class in
    let own = subst (λ t. AreOwn t of c.in_ok-own.own) c.table.ensures c.in_ok-own.ensures in
    methods_added t of c.in_ok-own.own own (overrides (classes_seen t) (class_seen c.args.class)) c.args.rules.now c.loop-row.rules c.loop-row.row c.loop-row.auto.row c.loop-row-test.false c.loop-row.invariant
