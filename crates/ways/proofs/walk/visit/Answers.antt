use Rattle.std.proofs.Common.{◌∙◌, sym, List, [], ◌∷◌, ◌++◌, arith, subst, refl}
use Rattle.std.specs.Prelude.{slice_set}
use Rattle.std.proofs.lemmas.List.{length-set}
use Rattle.ways.specs.declared.walk.Mark.TheVariants as mark
use Rattle.ways.specs.declared.walk.Place.{Place}
use Rattle.ways.specs.Walk.{IsWalk}
use Rattle.ways.proofs.MoveLaws.{first_opened, stays_met, set_met, stays_same, stays_twice, still_met, fresh_at}
use Rattle.ways.proofs.walk.visit.Goals as goal

pub loop-current-init : goal.loop-current-init
loop-current-init g c = record {
  size = refl;
  walks =
      let P : List Place → Type 0 = λ path. IsWalk (g.W.Ways.next c.args.ways.now) c.args.walk.now.marks.items c.args.walk.now.known path in
      let Q : List Place → Type 0 = λ path. IsWalk (g.W.Ways.next c.args.ways.now) (slice_set c.args.walk.now.marks.items c.args.root mark.Open) c.args.walk.now.known (path ++ record { node = c.args.root; taken = 0; height = 0 } ∷ []) in
      subst Q (sym c.requires.done.empty) (first_opened (g.W.Ways.next c.args.ways.now) c.args.walk.now.marks.items c.args.walk.now.known c.args.root (subst P c.requires.done.empty c.requires.done.walks) (fresh_at c.args.walk.now.marks.items c.args.root c.requires.inside c.index.result.now c.index.ensures (sym c.was_met.ensures ∙ c.if-was_met.false)));
  met = stays_same (slice_set c.args.walk.now.marks.items c.args.root mark.Open);
  root = (set_met (g.W.Ways.next c.args.ways.now) c.args.walk.now.marks.items c.args.root mark.Open c.requires.inside refl).1;
  empty = λ e. cc e;
}

pub loop-current-preserved : goal.loop-current-preserved
loop-current-preserved g c =
    let was = c.loop-current.invariant in
    let now = c.in_ok-current.ensures in
    record {
      size = now.size ∙ was.size;
      walks = now.walks;
      met = stays_twice (slice_set c.args.walk.now.marks.items c.args.root mark.Open) c.loop-current.walk.marks.items c.go_on.new.walk.marks.items was.size was.met now.met;
      root = still_met c.loop-current.walk.marks.items c.go_on.new.walk.marks.items c.args.root (omega (arith, c.requires.inside, was.size, length-set c.args.walk.now.marks.items c.args.root mark.Open)) was.root now.met;
      empty = now.empty;
    }

pub returns-clause-met : goal.returns-clause-met
returns-clause-met g c = stays_twice c.args.walk.now.marks.items (slice_set c.args.walk.now.marks.items c.args.root mark.Open) c.loop-current.walk.marks.items (length-set c.args.walk.now.marks.items c.args.root mark.Open) (stays_met (g.W.Ways.next c.args.ways.now) c.args.walk.now.marks.items c.args.root mark.Open c.requires.inside refl) c.loop-current.invariant.met
