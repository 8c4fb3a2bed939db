use Rattle.std.proofs.Common.{List, ℕ, sym, ap, ◌∙◌}
use Rattle.std.specs.Prelude.{nat_le, slice_index}
use Rattle.tiny_except.proofs.Tops.{top_is}
use Rattle.step_calls.specs.Starts.{lacks_room_in}
use Rattle.step_calls.proofs.calls.lacks_room.Goals as goal

pub returns-then-not-gives : goal.returns-then-not-gives
returns-then-not-gives c = λ m f fs k e. sym (ap (λ b. lacks_room_in f b c.args.below) c.if-not-gives.true)

pub returns : goal.returns
returns c = λ m f fs k e.
    ap (λ (z : List ℕ). nat_le (slice_index z 2) c.args.below) (c.sizes.ensures m f k (top_is m c.top.result f fs e (c.top.ensures m k)))
    ∙ sym (ap (λ b. lacks_room_in f b c.args.below) c.if-not-gives.false)
