use Rattle.std.proofs.Common.{◌+◌, length, subst, sym, arith, ◌∙◌}
use Rattle.std.proofs.lemmas.Bool.{false≢true}
use Rattle.cil_tables.specs.Headers.{LeastBelow}
use Rattle.cil_tables.proofs.HeaderLaws.{follows_is, least_none, least_kept, least_more, least_all}
use Rattle.cil_tables.proofs.headers.least_repeat.Goals as goal
use Rattle.cil_tables.proofs.headers.least_repeat.Goals.{then-eq, else-eq}

pub loop-k-init : goal.loop-k-init
loop-k-init c = record { least = least_none c.args.region.now c.args.starts.now 1 (omega arith); bound = omega arith }

pub loop-k-preserved : goal.loop-k-preserved
loop-k-preserved c =
    let region = c.args.region.now in
    let starts = c.args.starts.now in
    let told = follows_is region starts c.loop-k.k c.name_at-before.result.now c.name_at.result.now c.eq.result c.loop-k.auto.k c.name_at-before.ensures.name c.name_at.ensures.name c.eq.ensures in
    record {
      least =
          elim c.if-eq.branch [
            | then-eq w ↦ subst (LeastBelow region starts (c.loop-k.k + 1)) (sym w.least-is) (least_more region starts c.loop-k.k c.loop-k.least w.lesser.result c.loop-k.invariant.least (told.0 w.if-eq.true) w.lesser.ensures)
            | else-eq w ↦ subst (LeastBelow region starts (c.loop-k.k + 1)) (sym w.least-is) (least_kept region starts c.loop-k.k c.loop-k.least c.loop-k.invariant.least (λ follows. false≢true (sym w.if-eq.false ∙ told.1 follows)))
          ];
      bound = omega arith;
    }

pub returns : goal.returns
returns c =
    least_all c.args.region.now c.args.starts.now c.loop-k.k (length c.args.starts.now) c.loop-k.least c.loop-k.invariant.least c.loop-k-test.false c.loop-k.invariant.bound
