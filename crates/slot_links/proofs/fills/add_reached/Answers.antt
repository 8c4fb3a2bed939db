use Rattle.std.proofs.Common.{◌∙◌, ◌<◌, length, map, ap, arith}
use Rattle.std.specs.Option.{option_map}
use Rattle.std.proofs.lemmas.List.{length-map}
use Rattle.std.proofs.lemmas.Option.{slice_get-get_or, slice_get-map}
use Rattle.member_keys.specs.Seen.{class_seen}
use Rattle.class_table.specs.Seen.{classes_seen}
use Rattle.slot_links.specs.Slots.{implements}
use Rattle.slot_links.proofs.Added.{one_added, all_added}
use Rattle.slot_links.proofs.fills.add_reached.Goals as goal

pub loop-above-preserved : goal.loop-above-preserved
loop-above-preserved c =
    let within : c.loop-above.above-index < length c.args.reached.now = omega (arith, c.loop-above-test.true) in
    one_added (implements (classes_seen c.args.methods.now.table) (class_seen c.args.class)) (map class_seen c.args.reached.now) c.args.rules.now c.loop-above.rules c.add_implements.new.rules c.loop-above.above-index _
    (slice_get-map class_seen c.args.reached.now c.loop-above.above-index ∙ ap (option_map class_seen) (slice_get-get_or c.args.reached.now c.loop-above.above-index _ within))
    c.loop-above.invariant c.in_ok-add_implements.ensures

pub returns : goal.returns
returns c =
    let many = length-map c.args.reached.now class_seen in
    all_added (implements (classes_seen c.args.methods.now.table) (class_seen c.args.class)) (map class_seen c.args.reached.now) c.args.rules.now c.loop-above.rules c.loop-above.above-index
    (omega (arith, many, c.loop-above-test.false)) c.loop-above.invariant
