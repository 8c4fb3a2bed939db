use Rattle.std.proofs.Common.{◌≤◌, length, [], ◌∷◌, refl, sym, subst, arith}
use Rattle.code_places.specs.Marks.{Marks}
use Rattle.code_places.specs.Places.{targets_at, end_of}
use Rattle.code_places.proofs.WalkLaws.{past_end, at_fault, start, leads_none, leads_on, leads_end, starts_end, end_on, end_there}
use Rattle.code_places.proofs.walk.mark_places.Goals as goal

pub walk-init : goal.walk-init
walk-init c = record {
  inside = omega arith;
  starts = leads_none start c.args.code.now c.args.starts.now;
  targets = leads_none (targets_at c.args.code.now) c.args.code.now c.args.targets.now;
  end = refl;
}

pub returns-in-Err-clause-starts : goal.returns-in-Err-clause-starts
returns-in-Err-clause-starts c =
    starts_end c.args.code.now c.args.starts.now c.walk.starts c.walk.at (at_fault c.args.code.now c.walk.at c.in-Err.field-0 c.walk-test.true (sym c.in-Err.ensures.exact)) c.walk.invariant.starts

pub returns-in-Err-clause-targets : goal.returns-in-Err-clause-targets
returns-in-Err-clause-targets c =
    leads_end (targets_at c.args.code.now) c.args.code.now c.args.targets.now c.walk.targets c.walk.at (at_fault c.args.code.now c.walk.at c.in-Err.field-0 c.walk-test.true (sym c.in-Err.ensures.exact)) c.walk.invariant.targets

pub returns-in-Err-clause-end : goal.returns-in-Err-clause-end
returns-in-Err-clause-end c =
    end_there c.args.code.now c.walk.at (end_of c.args.code.now) (at_fault c.args.code.now c.walk.at c.in-Err.field-0 c.walk-test.true (sym c.in-Err.ensures.exact)) c.walk.invariant.end

pub walk-preserved : goal.walk-preserved
walk-preserved c = record {
  inside = c.in-Ok.ensures.inside;
  starts = leads_on start c.args.code.now c.args.starts.now c.walk.starts c.insert.new.self c.walk.at c.in-Ok.instr (sym c.in-Ok.ensures.exact) c.walk.invariant.starts (subst (λ n. Marks (n ∷ []) c.walk.starts c.insert.new.self) c.from.ensures c.insert.ensures);
  targets = leads_on (targets_at c.args.code.now) c.args.code.now c.args.targets.now c.walk.targets c.mark_targets.new.targets c.walk.at c.in-Ok.instr (sym c.in-Ok.ensures.exact) c.walk.invariant.targets c.mark_targets.ensures;
  end = end_on c.args.code.now c.walk.at c.in-Ok.instr (end_of c.args.code.now) (sym c.in-Ok.ensures.exact) c.walk.invariant.end;
}

pub returns-clause-starts : goal.returns-clause-starts
returns-clause-starts c =
    let past : length c.args.code.now ≤ c.walk.at = omega arith in
    starts_end c.args.code.now c.args.starts.now c.walk.starts c.walk.at (past_end c.args.code.now c.walk.at past) c.walk.invariant.starts

pub returns-clause-targets : goal.returns-clause-targets
returns-clause-targets c =
    let past : length c.args.code.now ≤ c.walk.at = omega arith in
    leads_end (targets_at c.args.code.now) c.args.code.now c.args.targets.now c.walk.targets c.walk.at (past_end c.args.code.now c.walk.at past) c.walk.invariant.targets

pub returns-clause-end : goal.returns-clause-end
returns-clause-end c =
    let past : length c.args.code.now ≤ c.walk.at = omega arith in
    end_there c.args.code.now c.walk.at (end_of c.args.code.now) (past_end c.args.code.now c.walk.at past) c.walk.invariant.end
