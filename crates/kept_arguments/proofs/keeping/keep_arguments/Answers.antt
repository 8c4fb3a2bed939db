use Rattle.std.proofs.Common.{arith}
use Rattle.step_ends.proofs.Going.{top_of}
use Rattle.step_calls.proofs.Handing.{deep}
use Rattle.kept_arguments.proofs.Kept.{by_result, places_are}
use Rattle.kept_arguments.proofs.keeping.keep_arguments.Goals as goal

pub returns : goal.returns
returns g c = λ p outer m s f fs h hs id of b given own places.
    let top = top_of p outer m s f fs h hs b.ram_frames b.frames b.alike in
    let d = deep c.args.ram.now m f fs b.keeps b.ram_frames in
    let most = d.most in
    let inside = d.inside in
    let first = given.first in
    let enough = given.enough in
    let count = places_are p outer s.heap m.room f fs h hs top.frame in
    by_result p outer c.keep_in_place.new.ram m s f fs h hs top.frame id of c.args.n own (g.P.Places.place c.args.places.now) places c.args.from given c.keep_in_place.result
    (c.keep_in_place.ensures m f fs b.keeps b.ram_frames given.frame (omega (arith, most, inside, first, enough)) d.few count)
