use Rattle.std.proofs.Common.{◌≡◌, ◌<◌, ◌≤◌, length, map, ap, sym, ◌∙◌, arith}
use Rattle.std.proofs.lemmas.List.{length-map}
use Rattle.member_reading.specs.Natives.{native_shown, native_read}
use Rattle.member_reading.proofs.SearchLaws.{all_taken, mapped_more}
use Rattle.member_reading.proofs.native.read_natives.Goals as goal

pub loop-row-preserved : goal.loop-row-preserved
loop-row-preserved c =
    let size : length c.native_rows-rows.result ≡ 17 = sym (length-map c.native_rows-rows.result (native_read c.args.types.now.names.now)) ∙ ap length (c.native_rows-rows.ensures c.args.types.now.names.now) in
    let within : c.loop-row.row-index < length c.native_rows-rows.result = omega (arith, size, c.loop-row-test.true) in
    ap (map native_shown) c.in_ok-push.ensures.items
    ∙ mapped_more native_shown (native_read c.args.types.now.names.now) c.loop-row.members.items c.in_ok-read_native.field-0 c.native_rows-rows.result c.loop-row.row-index _ within c.loop-row.invariant c.in_ok-read_native.ensures

pub returns : goal.returns
returns c =
    let size : length c.native_rows-rows.result ≡ 17 = sym (length-map c.native_rows-rows.result (native_read c.args.types.now.names.now)) ∙ ap length (c.native_rows-rows.ensures c.args.types.now.names.now) in
    let past : length c.native_rows-rows.result ≤ c.loop-row.row-index = omega (arith, size, c.loop-row-test.false) in
    c.loop-row.invariant
    ∙ ap (map (native_read c.args.types.now.names.now)) (all_taken c.native_rows-rows.result c.loop-row.row-index past)
    ∙ c.native_rows-rows.ensures c.args.types.now.names.now
