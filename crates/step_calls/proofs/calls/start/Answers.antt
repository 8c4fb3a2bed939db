use Rattle.std.proofs.Common.{◌∷◌, refl, sym, subst}
use Rattle.tiny_ram.specs.Memory.{RamFrame, fresh_frame, with_frame, with_frames}
use Rattle.tiny_ram.specs.Region.{Keeps}
use Rattle.tiny_ram.specs.declared.memory.Ram.{Ram}
use Rattle.tiny_except.proofs.Tops.{top_is}
use Rattle.step_calls.specs.Arguments.{AreBeside}
use Rattle.step_calls.proofs.Handing.{caller_is}
use Rattle.step_calls.proofs.Starting.{put_caller}
use Rattle.step_calls.proofs.Begun.{without, arguments_inside, fresh_count, frames_are, beside, begun}
use Rattle.step_calls.proofs.calls.start.Goals as goal

pub returns-in-Err : goal.returns-in-Err
returns-in-Err g c = λ m f fs k e x.
    let kinds = g.P.Places.place c.args.places.now in
    let spent = c.in-Err.ensures m k in
    let same : Keeps c.frame.new.self m = subst (λ (r : Ram). Keeps r m) (sym spent.1) k in
    let is = top_is m c.args.from.frame f fs e x.frame in
    without m f fs c.args.callee kinds c.args.from e x c.frame.new.self c.without_cells.result
    (c.without_cells.ensures m f same is x.inside) spent.0

pub returns-then-not-hand_over : goal.returns-then-not-hand_over
returns-then-not-hand_over g c = λ m f fs k e x.
    let kinds = g.P.Places.place c.args.places.now in
    let made = c.in-Ok.ensures m k in
    let y : RamFrame = fresh_frame c.args.callee.method c.args.callee.sizes in
    c.if-not-hand_over.ensures (with_frame m y) y f fs made.2
    (frames_are m f fs c.args.callee kinds c.args.from e x c.in-Ok.to made.0 made.1)
    (beside m f fs c.args.callee kinds c.args.from e x c.in-Ok.to made.0 made.1)
    x.inside
    (arguments_inside m f fs c.args.callee kinds c.args.from e x)
    (fresh_count m f fs c.args.callee kinds c.args.from e x)

pub returns-else-not-hand_over : goal.returns-else-not-hand_over
returns-else-not-hand_over g c = λ m f fs k e x.
    let kinds = g.P.Places.place c.args.places.now in
    let made = c.in-Ok.ensures m k in
    let y : RamFrame = fresh_frame c.args.callee.method c.args.callee.sizes in
    let near = beside m f fs c.args.callee kinds c.args.from e x c.in-Ok.to made.0 made.1 in
    let h = c.if-not-hand_over.ensures (with_frame m y) y f fs made.2
    (frames_are m f fs c.args.callee kinds c.args.from e x c.in-Ok.to made.0 made.1)
    near
    x.inside
    (arguments_inside m f fs c.args.callee kinds c.args.from e x)
    (fresh_count m f fs c.args.callee kinds c.args.from e x) in
    let now : RamFrame = record y { places = h.places } in
    let there : AreBeside m.room now f fs c.args.from.frame c.in-Ok.to = record { starts = near.starts; calls = near.calls; fits = near.fits } in
    let is = caller_is (with_frames m (now ∷ f ∷ fs)) now f fs c.args.from.frame c.in-Ok.to refl there in
    begun m f fs c.args.callee kinds c.args.from e x c.in-Ok.to made.0 made.1 c.hand_over.new.ram c.put_depth.new.ram h
    (put_caller c.put_depth.new.ram m now f (record f { depth = c.args.from.below }) fs c.args.from.frame near.calls near.fits
    (c.put_depth.ensures (with_frames m (now ∷ f ∷ fs)) f h.keeps is x.deep))
