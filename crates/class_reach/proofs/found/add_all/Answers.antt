use Rattle.std.proofs.Common.{◌<◌, length, take, map, sym, arith, subst}
use Rattle.member_keys.specs.Seen.{class_seen}
use Rattle.class_reach.specs.Found.{Adds}
use Rattle.class_reach.proofs.FoundLaws.{adds_none, adds_both, one_more_taken}
use Rattle.class_reach.proofs.found.add_all.Goals as goal

pub loop-class-init : goal.loop-class-init
loop-class-init c = record { adds = adds_none c.args.found.now c.requires }

pub add-requires : goal.add-requires
add-requires c = c.loop-class.invariant.adds.found

pub loop-class-preserved : goal.loop-class-preserved
loop-class-preserved c =
    let below : c.loop-class.class-index < length c.args.classes.now = omega (arith, c.loop-class-test.true) in
    record {
      adds =
          subst (λ xs. Adds xs c.args.found.now c.add.new.found) (sym (one_more_taken class_seen c.args.classes.now c.loop-class.class-index _ below))
          (adds_both (map class_seen (take c.loop-class.class-index c.args.classes.now)) _ c.args.found.now c.loop-class.found c.add.new.found c.loop-class.invariant.adds c.in_ok-add.ensures);
    }
