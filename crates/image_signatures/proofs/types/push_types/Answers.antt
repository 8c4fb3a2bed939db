use Rattle.std.proofs.Common.{◌<◌, length, arith}
use Rattle.image_signatures.specs.Spelt.{type_spelt}
use Rattle.image_signatures.proofs.SpellLaws.{one_more}
use Rattle.kept_marks.specs.Masks.{masks_of}
use Rattle.image_signatures.proofs.types.push_types.Goals as goal

pub loop-of-preserved : goal.loop-of-preserved
loop-of-preserved c =
    let within : c.loop-of.of-index < length c.args.types.now = omega arith in
    one_more (type_spelt (masks_of c.args.choice.now) c.args.tables.now) c.args.out.now.items c.loop-of.out.items c.push_type.new.out.items c.args.types.now c.loop-of.of-index _ within c.loop-of.invariant c.in_ok-push_type.ensures
