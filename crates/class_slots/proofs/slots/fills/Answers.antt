use Rattle.std.proofs.Common.{◌≡◌, ◌-◌, Some, sym, subst, arith}
use Rattle.member_keys.specs.Seen.{class_seen}
use Rattle.class_table.specs.Seen.{classes_seen}
use Rattle.class_slots.specs.Own.{AreOwn}
use Rattle.class_slots.specs.Slots.{slot_filled}
use Rattle.class_slots.proofs.OwnLaws.{method_of}
use Rattle.class_slots.proofs.SlotLaws.{one_more, one_lacks, all_pass}
use Rattle.class_slots.proofs.slots.fills.Goals as goal

pub loop-row-init : goal.loop-row-init
loop-row-init c = λ k m below at. absurd (omega (arith, below))

pub slot_filled-requires-clause-owner : goal.slot_filled-requires-clause-owner
slot_filled-requires-clause-owner c =
    let t = c.args.methods.now.table in
    let at = class_seen c.args.owner in
    let own = subst (λ t. AreOwn t at c.in_ok-own.own) c.table.ensures c.in_ok-own.ensures in
    let z = method_of t at c.in_ok-own.own c.loop-row.row own c.loop-row.auto.row c.loop-row-test.true in
    subst (λ i. (classes_seen t).method_owner i ≡ Some at) z.id (c.requires.stand.methods.owned at (c.loop-row.row - c.in_ok-own.own.start) z.method z.listed).0

pub returns-then-not-branch : goal.returns-then-not-branch
returns-then-not-branch c =
    let t = c.args.methods.now.table in
    let at = class_seen c.args.owner in
    let own = subst (λ t. AreOwn t at c.in_ok-own.own) c.table.ensures c.in_ok-own.ensures in
    sym (one_lacks t at c.in_ok-own.own own (slot_filled (classes_seen t) (class_seen c.args.class) at) c.loop-row.row c.in_ok-slot_filled.field-0 c.loop-row.auto.row c.loop-row-test.true c.if-not-branch.true c.in_ok-slot_filled.ensures)

pub loop-row-preserved : goal.loop-row-preserved
loop-row-preserved c =
    let t = c.args.methods.now.table in
    let at = class_seen c.args.owner in
    let own = subst (λ t. AreOwn t at c.in_ok-own.own) c.table.ensures c.in_ok-own.ensures in
    one_more t at c.in_ok-own.own own (slot_filled (classes_seen t) (class_seen c.args.class) at) c.loop-row.row c.in_ok-slot_filled.field-0 c.loop-row.auto.row c.loop-row-test.true c.if-not-branch.false c.in_ok-slot_filled.ensures c.loop-row.invariant

pub returns : goal.returns
returns c =
    let t = c.args.methods.now.table in
    let at = class_seen c.args.owner in
    let own = subst (λ t. AreOwn t at c.in_ok-own.own) c.table.ensures c.in_ok-own.ensures in
    sym (all_pass t at c.in_ok-own.own own (slot_filled (classes_seen t) (class_seen c.args.class) at) c.loop-row.row c.loop-row-test.false c.loop-row.invariant)
