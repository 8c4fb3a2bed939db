use Rattle.std.proofs.Common.{◌≡◌, ◌∙◌, suc, ◌+◌, arith, take, subst}
use Rattle.std.specs.Prelude.{slice_set, slice_index_or}
use Rattle.std.proofs.lemmas.List.{length-set}
use Rattle.std.proofs.lemmas.Option.{slice_get-get_or}
use Rattle.ways.specs.declared.walk.Mark.TheVariants as mark
use Rattle.ways.specs.Walk.{AreEnded}
use Rattle.ways.proofs.MoveLaws.{end_inside, one_more_ended, still_counted, take_whole}
use Rattle.ways.proofs.walk.give_up.Goals as goal

pub bounds-marks-place : goal.bounds-marks-place
bounds-marks-place c =
    let there = slice_get-get_or c.args.path.now c.loop-place.place-index (record { node = 0; taken = 0; height = 0 }) (omega (arith, c.loop-place-test.true)) in
    end_inside c.args.path.now c.args.marks.now c.loop-place.marks c.loop-place.place-index _ there c.requires c.loop-place.invariant.size c.loop-place.invariant.ended

pub loop-place-preserved : goal.loop-place-preserved
loop-place-preserved c =
    let there = slice_get-get_or c.args.path.now c.loop-place.place-index (record { node = 0; taken = 0; height = 0 }) (omega (arith, c.loop-place-test.true)) in
    let next : suc c.loop-place.place-index ≡ c.loop-place.place-index + 1 = omega arith in
    record {
      size = length-set c.loop-place.marks _ mark.Endless ∙ c.loop-place.invariant.size;
      ended = subst (λ k. AreEnded (take k c.args.path.now) c.args.marks.now (slice_set c.loop-place.marks (slice_index_or c.args.path.now c.loop-place.place-index (record { node = 0; taken = 0; height = 0 })).node mark.Endless)) next (one_more_ended c.args.path.now c.args.marks.now c.loop-place.marks c.loop-place.place-index _ there c.requires c.loop-place.invariant.size c.loop-place.invariant.ended);
      count = still_counted c.args.path.now c.args.marks.now c.loop-place.marks c.loop-place.place-index _ there c.requires c.loop-place.invariant.size c.loop-place.invariant.ended ∙ c.loop-place.invariant.count;
    }

pub returns-clause-marks : goal.returns-clause-marks
returns-clause-marks c = subst (λ path. AreEnded path c.args.marks.now c.loop-place.marks) (take_whole c.args.path.now c.loop-place.place-index (omega (arith, c.loop-place-test.false))) c.loop-place.invariant.ended
