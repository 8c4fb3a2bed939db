use Rattle.std.proofs.Common.{ℕ, ◌+◌, ◌%◌, List, ap, ◌∙◌}
use Rattle.std.specs.Prelude.{slice_index, sum}
use Rattle.tiny_except.proofs.Tops.{top_is}
use Rattle.step_places.proofs.Rooms.{sizes_fit, no_wrap, first_size}
use Rattle.step_places.proofs.places.local_index.Goals as goal

pub returns : goal.returns
returns c =
    λ m f fs keeps e.
    let there = top_is m c.top.result f fs e (c.top.ensures m keeps) in
    let sizes = c.sizes.ensures m f keeps there in
    ap (λ (z : List ℕ). (slice_index z 0 + c.args.n) % 4294967296) sizes
    ∙ no_wrap (slice_index f.sizes 0) (sum f.sizes) c.args.n (first_size f) (sizes_fit c.args.ram.now m f fs keeps e) c.ranges.n.fits
