use Rattle.step_ends.proofs.Going.{moved, top_of, on}
use Rattle.step_numbers.proofs.stack.go.Goals as goal

pub returns : goal.returns
returns c =
    λ p outer m s f fs g gs b.
    let top = top_of p outer m s f fs g gs b.ram_frames b.frames b.alike in
    let u = c.go_to.new.self in
    on p outer u m s f fs g gs b.alike top.frame top.callers c.args.place c.ranges.place.fits (moved u m f fs c.args.place c.cast_signed.result c.ranges.place.fits c.cast_signed.ensures (c.go_to.ensures m f fs b.keeps b.ram_frames))
