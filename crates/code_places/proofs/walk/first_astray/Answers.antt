use Rattle.std.proofs.Common.{◌≤◌, length, refl, sym, arith}
use Rattle.code_places.specs.Places.{first_astray}
use Rattle.code_places.proofs.WalkLaws.{past_end, at_fault, goes_on_well, goes_astray, none_astray}
use Rattle.code_places.proofs.walk.first_astray.Goals as goal

pub walk-init : goal.walk-init
walk-init c = record { inside = omega arith; later = refl }

pub returns-in-Err : goal.returns-in-Err
returns-in-Err c = none_astray c.args.code.now c.walk.at (first_astray c.args.code.now) (at_fault c.args.code.now c.walk.at c.in-Err.field-0 c.walk-test.true (sym c.in-Err.ensures.exact)) c.walk.invariant.later

pub returns-then-not-targets_stand : goal.returns-then-not-targets_stand
returns-then-not-targets_stand c =
    goes_astray c.args.code.now c.args.starts.now c.requires.starts c.walk.at c.in-Ok.instr (sym c.in-Ok.ensures.exact) c.targets_stand.result c.targets_stand.ensures (first_astray c.args.code.now) c.if-not-targets_stand.true c.walk.invariant.later

pub walk-preserved : goal.walk-preserved
walk-preserved c = record {
  inside = c.in-Ok.ensures.inside;
  later = goes_on_well c.args.code.now c.args.starts.now c.requires.starts c.walk.at c.in-Ok.instr (sym c.in-Ok.ensures.exact) c.targets_stand.result c.targets_stand.ensures (first_astray c.args.code.now) c.if-not-targets_stand.false c.walk.invariant.later;
}

pub returns : goal.returns
returns c =
    let past : length c.args.code.now ≤ c.walk.at = omega arith in
    none_astray c.args.code.now c.walk.at (first_astray c.args.code.now) (past_end c.args.code.now c.walk.at past) c.walk.invariant.later
