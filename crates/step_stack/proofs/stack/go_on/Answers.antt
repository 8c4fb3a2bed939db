use Rattle.step_ends.proofs.Going.{moved, top_of, on}
use Rattle.step_stack.proofs.stack.go_on.Goals as goal

pub returns-clause-nop : goal.returns-clause-nop
returns-clause-nop c =
    λ p outer m s f fs g gs b.
    let top = top_of p outer m s f fs g gs b.ram_frames b.frames b.alike in
    let u = c.go_to.new.self in
    on p outer u m s f fs g gs b.alike top.frame top.callers c.args.next c.ranges.next.fits
    (moved u m f fs c.args.next c.cast_signed.result c.ranges.next.fits c.cast_signed.ensures (c.go_to.ensures m f fs b.keeps b.ram_frames))

pub returns-clause-branch : goal.returns-clause-branch
returns-clause-branch c =
    λ behind p outer m s f fs g gs b.
    let top = top_of p outer m s f fs g gs b.ram_frames b.frames b.alike in
    let u = c.go_to.new.self in
    on p outer u m s f fs g gs b.alike top.frame top.callers c.args.next c.ranges.next.fits
    (moved u m f fs c.args.next c.cast_signed.result c.ranges.next.fits c.cast_signed.ensures (c.go_to.ensures m f fs b.keeps b.ram_frames))
