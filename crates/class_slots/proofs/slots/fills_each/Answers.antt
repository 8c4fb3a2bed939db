use Rattle.std.proofs.Common.{◌∙◌, ◌<◌, length, sym, arith}
use Rattle.std.proofs.lemmas.Option.{slice_get-get_or}
use Rattle.assemblies.proofs.Back.{get_within}
use Rattle.member_keys.specs.Seen.{class_seen}
use Rattle.class_table.specs.Seen.{classes_seen}
use Rattle.class_rules.specs.Rules.{fills}
use Rattle.class_slots.proofs.SlotLaws.{class_lacks, classes_pass, one_class_more}
use Rattle.class_slots.proofs.slots.fills_each.Goals as goal

pub fills-requires-clause-implements : goal.fills-requires-clause-implements
fills-requires-clause-implements c =
    let within : c.loop-owner.owner-index < length c.args.owners.now = omega (arith, c.loop-owner-test.true) in
    c.requires.implements c.loop-owner.owner-index _ (slice_get-get_or c.args.owners.now c.loop-owner.owner-index _ within)

pub returns-then-not-branch : goal.returns-then-not-branch
returns-then-not-branch c =
    let within : c.loop-owner.owner-index < length c.args.owners.now = omega (arith, c.loop-owner-test.true) in
    sym (class_lacks (fills (classes_seen c.args.methods.now.table) (class_seen c.args.class)) c.args.owners.now c.loop-owner.owner-index _ (slice_get-get_or c.args.owners.now c.loop-owner.owner-index _ within) (sym c.in_ok-fills.ensures ∙ c.if-not-branch.true))

pub loop-owner-preserved : goal.loop-owner-preserved
loop-owner-preserved c =
    let within : c.loop-owner.owner-index < length c.args.owners.now = omega (arith, c.loop-owner-test.true) in
    one_class_more (fills (classes_seen c.args.methods.now.table) (class_seen c.args.class)) c.args.owners.now c.loop-owner.owner-index _ within (sym c.in_ok-fills.ensures ∙ c.if-not-branch.false) c.loop-owner.invariant

pub returns : goal.returns
returns c =
    sym
    (classes_pass (fills (classes_seen c.args.methods.now.table) (class_seen c.args.class)) c.args.owners.now
    (λ i d at. c.loop-owner.invariant i d (let inside = get_within c.args.owners.now i d at in omega (arith, inside, c.loop-owner-test.false)) at))
