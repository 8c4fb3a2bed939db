use Rattle.std.proofs.Common.{◌≤◌, ◌∙◌, ap, subst, arith}
use Rattle.assemblies.specs.Binding.{id_at}
use Rattle.class_table.specs.Seen.{classes_seen}
use Rattle.slot_links.specs.Slots.{AddsClass}
use Rattle.slot_links.proofs.Added.{types_in, begun, class_added, all_classes}
use Rattle.slot_links.proofs.slots.add_slots.Goals as goal

pub loop-row-init : goal.loop-row-init
loop-row-init c = begun (classes_seen c.args.methods.now.table) c.args.file c.args.rules.now

pub loop-row-preserved : goal.loop-row-preserved
loop-row-preserved c =
    let cs = classes_seen c.args.methods.now.table in
    class_added cs c.args.file c.loop-row.row c.args.rules.now c.loop-row.rules c.add_class.new.rules c.loop-row.invariant
    (subst (λ f. AddsClass cs (id_at f c.loop-row.row) c.loop-row.rules c.add_class.new.rules) c.from.ensures c.in_ok-add_class.ensures)

pub returns : goal.returns
returns c =
    let t = c.args.methods.now.table in
    let many = c.in_ok-count.ensures ∙ ap (λ x. types_in x c.args.file) c.table.ensures in
    let past : types_in t c.args.file ≤ c.loop-row.row = omega (arith, many, c.loop-row-test.false) in
    all_classes t c.args.file c.loop-row.row c.args.rules.now c.loop-row.rules past c.loop-row.invariant
