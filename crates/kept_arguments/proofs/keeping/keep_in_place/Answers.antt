use Rattle.std.proofs.Common.{◌≡◌, ◌+◌, ◌%◌, ◌<◌, ◌∷◌, None, length, refl, sym, ap, ◌∙◌, subst, arith}
use Rattle.std.specs.Prelude.{sum}
use Rattle.kept_values.specs.declared.keeping.PlaceKind.{PlaceKind}
use Rattle.kept_values.specs.Keeping.{kept_as}
use Rattle.tiny_ram.specs.Memory.{RamFrame, innermost, with_frames}
use Rattle.step_calls.specs.Arguments.{held_at}
use Rattle.kept_arguments.specs.Kept.{KeptHere, KeptInPlace}
use Rattle.kept_arguments.proofs.InPlace.{none_kept, one_more, still_held}
use Rattle.kept_arguments.proofs.keeping.keep_in_place.Goals as goal

pub loop-i-init : goal.loop-i-init
loop-i-init g c = λ m f fs k e to l few z. none_kept m f fs (g.P.Places.place c.args.places.now) c.args.from.first c.args.ram.now k e

pub returns-then-not-keep_one : goal.returns-then-not-keep_one
returns-then-not-keep_one g c = λ m f fs k e to l few z.
    let i = c.loop-i.i in
    let old = c.loop-i.invariant m f fs k e to l few z in
    let now : RamFrame = record f { places = old.places } in
    let within : i < c.args.n = omega arith in
    let at : (c.args.from.first + i) % 4294967296 ≡ c.args.from.first + i = omega (arith, l, few, within) in
    let inside : (c.args.from.first + i) % 4294967296 < sum f.sizes = omega (arith, at, l, within) in
    let number : c.args.from.frame ≡ innermost m.room (now ∷ fs) = to ∙ ap (innermost m.room) e in
    let one = c.if-not-keep_one.ensures (with_frames m (now ∷ fs)) now fs old.keeps refl number inside in
    record {
      index = i;
      within = within;
      none = subst (λ (kind : PlaceKind). kept_as kind (held_at f (c.args.from.first + i)) ≡ None) c.place.ensures
          (sym (ap (kept_as c.place.result) (ap (held_at now) at ∙ still_held m f fs (g.P.Places.place c.args.places.now) c.args.from.first c.loop-i.ram i old)) ∙ one);
    }

pub loop-i-preserved : goal.loop-i-preserved
loop-i-preserved g c = λ m f fs k e to l few z.
    let i = c.loop-i.i in
    let old = c.loop-i.invariant m f fs k e to l few z in
    let now : RamFrame = record f { places = old.places } in
    let within : i < c.args.n = omega arith in
    let at : (c.args.from.first + i) % 4294967296 ≡ c.args.from.first + i = omega (arith, l, few, within) in
    let inside : (c.args.from.first + i) % 4294967296 < sum f.sizes = omega (arith, at, l, within) in
    let there : c.args.from.first + i < length f.places = omega (arith, l, within, z) in
    let number : c.args.from.frame ≡ innermost m.room (now ∷ fs) = to ∙ ap (innermost m.room) e in
    let one = c.if-not-keep_one.ensures (with_frames m (now ∷ fs)) now fs old.keeps refl number inside in
    one_more m f fs (g.P.Places.place c.args.places.now) c.args.from.first c.loop-i.ram i old c.keep_one.new.ram there
    (subst (λ (kind : PlaceKind). KeptHere c.keep_one.new.ram (with_frames m (now ∷ fs)) now fs kind (c.args.from.first + i)) c.place.ensures
    (subst (λ n. KeptHere c.keep_one.new.ram (with_frames m (now ∷ fs)) now fs c.place.result n) at one))

pub returns : goal.returns
returns g c = λ m f fs k e to l few z.
    let all : c.loop-i.i ≡ c.args.n = omega arith in
    subst (λ j. KeptInPlace c.loop-i.ram m f fs (g.P.Places.place c.args.places.now) c.args.from.first j) all (c.loop-i.invariant m f fs k e to l few z)
