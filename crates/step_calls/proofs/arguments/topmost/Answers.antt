use Rattle.std.proofs.Common.{◌+◌, ◌-◌, ◌%◌, ℕ, List, refl, ap, ◌∙◌, arith}
use Rattle.std.specs.Prelude.{slice_index}
use Rattle.tiny_except.proofs.Tops.{top_is}
use Rattle.step_calls.proofs.Handing.{two_wrapped, deep}
use Rattle.step_calls.proofs.arguments.topmost.Goals as goal

pub returns-then-deep-n : goal.returns-then-deep-n
returns-then-deep-n c = λ m f fs k e.
    let is = top_is m c.top-frame.result f fs e (c.top-frame.ensures m k) in
    let depth = c.depth-deep.ensures m f k is in
    omega (arith, depth)

pub returns : goal.returns
returns c = λ m f fs k e.
    let is = top_is m c.top-frame.result f fs e (c.top-frame.ensures m k) in
    let depth = c.depth-deep.ensures m f k is in
    let d = deep c.args.ram.now m f fs k e in
    let most = d.most in
    let inside = d.inside in
    let few = d.few in
    record {
      frame = c.top-frame.ensures m k;
      whole = refl;
      first =
          ap (λ (z : List ℕ). ((slice_index z 0 + slice_index z 1) % 4294967296 + (c.depth-deep.result - c.args.n)) % 4294967296) (c.sizes.ensures m f k is)
          ∙ ap (λ z. ((slice_index f.sizes 0 + slice_index f.sizes 1) % 4294967296 + (z - c.args.n)) % 4294967296) depth
          ∙ two_wrapped (slice_index f.sizes 0) (slice_index f.sizes 1) (f.depth - c.args.n) (omega (arith, most, inside, few));
      below = ap (λ z. z - c.args.n) depth;
      enough = omega (arith, depth);
    }
