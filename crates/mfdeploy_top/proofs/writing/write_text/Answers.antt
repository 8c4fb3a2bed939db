use Rattle.std.proofs.Common.{◌∙◌, Bool, IsTrue, subst, sym, arith}
use Rattle.mfdeploy_top.proofs.WritingLemmas.{whole_piece, front_of_piece}
use Rattle.mfdeploy_top.proofs.writing.write_text.Goals as goal

pub returns-in-Err-clause-failed : goal.returns-in-Err-clause-failed
returns-in-Err-clause-failed g c = λ told.
    let tells = subst (λ (b : Bool). IsTrue b) (sym c.loop-done.invariant.telling) told in
    front_of_piece _ _ _ _ c.loop-done.done c.min.result (omega arith) (c.loop-done.invariant.front told) (c.in-Err.ensures.failed.written tells)

pub loop-done-preserved : goal.loop-done-preserved
loop-done-preserved g c = record {
  within = omega arith;
  front = λ told.
      let tells = subst (λ (b : Bool). IsTrue b) (sym c.loop-done.invariant.telling) told in
      whole_piece _ _ _ _ c.loop-done.done c.min.result (c.loop-done.invariant.front told) (c.in_default.ensures.ok.written tells);
  telling = c.in_default.ensures.ok.telling ∙ c.loop-done.invariant.telling;
  faults = c.in_default.ensures.ok.faults ∙ c.loop-done.invariant.faults;
}
