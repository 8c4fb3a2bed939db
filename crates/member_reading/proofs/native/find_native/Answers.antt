use Rattle.std.proofs.Common.{ap, sym, ◌∙◌}
use Rattle.std.specs.Option.{option_map}
use Rattle.member_keys.specs.Seen.{class_seen, signature_seen}
use Rattle.member_reading.specs.Natives.{native_shown, is_native, body_of}
use Rattle.member_reading.proofs.SearchLaws.{stands, first_found, none_more}
use Rattle.member_reading.proofs.native.find_native.Goals as goal

pub returns-then-is_native : goal.returns-then-is_native
returns-then-is_native c =
    sym
    (ap body_of
    (first_found (is_native c.args.name.now (option_map class_seen c.args.owner) (option_map signature_seen c.args.signature.now)) native_shown c.args.natives.now c.loop-native.native-index c.native-item.result c.loop-native.invariant
    (stands c.args.natives.now c.loop-native.native-index c.native-item.result c.loop-native-test.true c.native-item.is) (sym c.is_native.ensures ∙ c.if-is_native.true)))

pub loop-native-preserved : goal.loop-native-preserved
loop-native-preserved c =
    none_more (is_native c.args.name.now (option_map class_seen c.args.owner) (option_map signature_seen c.args.signature.now)) native_shown c.args.natives.now c.loop-native.native-index c.native-item.result c.loop-native.invariant
    (stands c.args.natives.now c.loop-native.native-index c.native-item.result c.loop-native-test.true c.native-item.is) (sym c.is_native.ensures ∙ c.if-is_native.false)
