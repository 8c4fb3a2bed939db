use Rattle.std.proofs.Common.{◌≡◌, ◌<◌, None, subst, arith, below_more}
use Rattle.board_types.specs.declared.value.Value.{Value as RamValue}
use Rattle.kept_values.specs.declared.keeping.PlaceKind.{PlaceKind}
use Rattle.kept_values.specs.Keeping.{kept_as}
use Rattle.step_calls.specs.Arguments.{value_of, IsKeptAs}
use Rattle.step_calls.proofs.arguments.keeps_all.Goals as goal

pub loop-i-init : goal.loop-i-init
loop-i-init g c = λ m f k e l i b. absurd (omega (arith, b))

pub returns-then-not-keeps_one : goal.returns-then-not-keeps_one
returns-then-not-keeps_one g c = λ m f k e l.
    let i = c.loop-i.i in
    let b : i < c.args.n = omega arith in
    record {
      index = i;
      within = b;
      none = subst (λ (kind : PlaceKind). kept_as kind (value_of f c.args.from i) ≡ None) c.place.ensures
          (subst (λ (v : RamValue). kept_as c.place.result v ≡ None) (c.argument-value.ensures m f c.args.n k e l b) c.if-not-keeps_one.ensures);
    }

pub loop-i-preserved : goal.loop-i-preserved
loop-i-preserved g c = λ m f k e l.
    let i = c.loop-i.i in
    let b : i < c.args.n = omega arith in
    below_more (λ j. IsKeptAs (g.P.Places.place c.args.places.now j) (value_of f c.args.from j)) i (c.loop-i.invariant m f k e l)
    (subst (λ (kind : PlaceKind). IsKeptAs kind (value_of f c.args.from i)) c.place.ensures
    (subst (λ (v : RamValue). IsKeptAs c.place.result v) (c.argument-value.ensures m f c.args.n k e l b) c.if-not-keeps_one.ensures))

pub returns : goal.returns
returns g c = λ m f k e l j b. c.loop-i.invariant m f k e l j (omega (arith, b))
