use Rattle.std.proofs.Common.{◌<◌, ℕ, Option, Result, Ok, Err, arith, subst}
use Rattle.std.specs.Global.{Vec}
use Rattle.ecma_types.specs.declared.stack.StackType.{StackType as WorldType}
use Rattle.forward_pass.proofs.PassLaws.{Visits, begins, goes_up, walk_on, breaks, ends}
use Rattle.forward_pass.proofs.code.pass.Goals as goal

pub loop-at-init : goal.loop-at-init
loop-at-init g c = record {
  walks = λ listed are lies ranked. begins listed (g.S.Steps.seen c.args.steps.now) (g.L.Lattice.is_assignable c.args.lattice.now) (g.L.Lattice.merges c.args.lattice.now) c.args.size c.new-table.result c.new.result lies c.new-table.ensures.empty c.new.ensures.items;
}

pub returns-in-Err : goal.returns-in-Err
returns-in-Err g c =
    λ steps are lies ranked l agrees.
    let seen = g.S.Steps.seen c.args.steps.now in
    let assignable = g.L.Lattice.is_assignable c.args.lattice.now in
    let merges = g.L.Lattice.merges c.args.lattice.now in
    let visits : Visits steps seen assignable merges c.loop-at.table c.loop-at.falling c.loop-at.at c.in_ok-facts.facts c.visit.new.table (Err c.in-Err.rule) =
    subst (λ (r : Result (Option (Vec WorldType)) ℕ). Visits steps seen assignable merges c.loop-at.table c.loop-at.falling c.loop-at.at c.in_ok-facts.facts c.visit.new.table r) c.in-Err.is (c.in_ok-stack.ensures steps are) in
    breaks steps seen assignable merges c.loop-at.table c.loop-at.falling c.loop-at.at c.args.size (c.loop-at.invariant.walks steps are lies ranked) ranked c.loop-at-test.true c.in_ok-facts.facts (c.in_ok-facts.ensures steps are) c.visit.new.table c.in-Err.rule visits l agrees

pub returns-then-facts-at : goal.returns-then-facts-at
returns-then-facts-at g c =
    λ steps are lies ranked l agrees.
    let up : c.loop-at.at < c.in_ok-facts.facts.next = goes_up steps (g.S.Steps.seen c.args.steps.now) (g.L.Lattice.is_assignable c.args.lattice.now) (g.L.Lattice.merges c.args.lattice.now) c.loop-at.table c.loop-at.falling c.loop-at.at c.args.size (c.loop-at.invariant.walks steps are lies ranked) c.loop-at-test.true c.in_ok-facts.facts (c.in_ok-facts.ensures steps are) in
    absurd (omega (arith, up, c.if-facts-at.true))

pub loop-at-preserved : goal.loop-at-preserved
loop-at-preserved g c = record {
  walks = λ steps are lies ranked.
      let seen = g.S.Steps.seen c.args.steps.now in
      let assignable = g.L.Lattice.is_assignable c.args.lattice.now in
      let merges = g.L.Lattice.merges c.args.lattice.now in
      let visits : Visits steps seen assignable merges c.loop-at.table c.loop-at.falling c.loop-at.at c.in_ok-facts.facts c.visit.new.table (Ok c.in-Ok.stack) =
      subst (λ (r : Result (Option (Vec WorldType)) ℕ). Visits steps seen assignable merges c.loop-at.table c.loop-at.falling c.loop-at.at c.in_ok-facts.facts c.visit.new.table r) c.in-Ok.is (c.in_ok-stack.ensures steps are) in
      walk_on steps seen assignable merges c.loop-at.table c.loop-at.falling c.loop-at.at c.args.size (c.loop-at.invariant.walks steps are lies ranked) ranked c.loop-at-test.true c.in_ok-facts.facts (c.in_ok-facts.ensures steps are) c.visit.new.table c.in-Ok.stack visits;
}

pub returns : goal.returns
returns g c =
    λ steps are lies ranked l agrees.
    ends steps (g.S.Steps.seen c.args.steps.now) (g.L.Lattice.is_assignable c.args.lattice.now) (g.L.Lattice.merges c.args.lattice.now) c.loop-at.table c.loop-at.falling c.loop-at.at c.args.size (c.loop-at.invariant.walks steps are lies ranked) c.loop-at-test.false l agrees
