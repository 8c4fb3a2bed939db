use Rattle.std.proofs.Common.{◌≡◌, ◌<◌, ◌∷◌, None, length, refl, subst, arith}
use Rattle.std.specs.Prelude.{sum}
use Rattle.board_types.specs.declared.value.Value.{Value as RamValue}
use Rattle.kept_values.specs.declared.keeping.PlaceKind.{PlaceKind}
use Rattle.kept_values.specs.Keeping.{kept_as}
use Rattle.tiny_ram.specs.Memory.{RamFrame, with_frames}
use Rattle.step_calls.specs.Arguments.{AreBeside, value_of, HandedOne, HandedOver}
use Rattle.step_calls.proofs.Handing.{caller_is, none_handed, one_more}
use Rattle.step_calls.proofs.arguments.hand_over.Goals as goal

pub loop-i-init : goal.loop-i-init
loop-i-init g c = λ m y f fs k e b l n z. none_handed m y f fs (g.P.Places.place c.args.places.now) c.args.from c.args.ram.now k e

pub returns-then-not-hand_one : goal.returns-then-not-hand_one
returns-then-not-hand_one g c = λ m y f fs k e b l n z.
    let i = c.loop-i.i in
    let old = c.loop-i.invariant m y f fs k e b l n z in
    let now : RamFrame = record y { places = old.places } in
    let beside : AreBeside m.room now f fs c.args.from.frame c.args.to = record { starts = b.starts; calls = b.calls; fits = b.fits } in
    let within : i < c.args.n = omega arith in
    let to : i < sum y.sizes = omega (arith, n) in
    let is = caller_is (with_frames m (now ∷ f ∷ fs)) now f fs c.args.from.frame c.args.to refl beside in
    record {
      index = i;
      within = within;
      none = subst (λ (kind : PlaceKind). kept_as kind (value_of f c.args.from i) ≡ None) c.place.ensures
          (subst (λ (v : RamValue). kept_as c.place.result v ≡ None) (c.argument-value.ensures (with_frames m (now ∷ f ∷ fs)) f c.args.n old.keeps is l within)
          (c.if-not-hand_one.ensures (with_frames m (now ∷ f ∷ fs)) now (f ∷ fs) old.keeps refl b.starts to));
    }

pub loop-i-preserved : goal.loop-i-preserved
loop-i-preserved g c = λ m y f fs k e b l n z.
    let i = c.loop-i.i in
    let old = c.loop-i.invariant m y f fs k e b l n z in
    let now : RamFrame = record y { places = old.places } in
    let beside : AreBeside m.room now f fs c.args.from.frame c.args.to = record { starts = b.starts; calls = b.calls; fits = b.fits } in
    let within : i < c.args.n = omega arith in
    let to : i < sum y.sizes = omega (arith, n) in
    let inside : i < length y.places = omega (arith, n, z) in
    let is = caller_is (with_frames m (now ∷ f ∷ fs)) now f fs c.args.from.frame c.args.to refl beside in
    one_more m y f fs (g.P.Places.place c.args.places.now) c.args.from c.loop-i.ram c.hand_one.new.ram i old inside
    (subst (λ (kind : PlaceKind). HandedOne c.hand_one.new.ram (with_frames m (now ∷ f ∷ fs)) now (f ∷ fs) kind (value_of f c.args.from i) i) c.place.ensures
    (subst (λ (v : RamValue). HandedOne c.hand_one.new.ram (with_frames m (now ∷ f ∷ fs)) now (f ∷ fs) c.place.result v i) (c.argument-value.ensures (with_frames m (now ∷ f ∷ fs)) f c.args.n old.keeps is l within)
    (c.if-not-hand_one.ensures (with_frames m (now ∷ f ∷ fs)) now (f ∷ fs) old.keeps refl b.starts to)))

pub returns : goal.returns
returns g c = λ m y f fs k e b l n z.
    let all : c.loop-i.i ≡ c.args.n = omega arith in
    subst (λ j. HandedOver c.loop-i.ram m y f fs (g.P.Places.place c.args.places.now) c.args.from j) all (c.loop-i.invariant m y f fs k e b l n z)
