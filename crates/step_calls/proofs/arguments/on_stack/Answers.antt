use Rattle.std.proofs.Common.{◌≡◌, ◌+◌, ◌%◌, ◌<◌, sym, ap, ◌∙◌, subst}
use Rattle.std.specs.Prelude.{sum}
use Rattle.tiny_except.proofs.Walks.{small}
use Rattle.step_calls.specs.Arguments.{held_at}
use Rattle.step_calls.proofs.Handing.{wrapped}
use Rattle.step_calls.proofs.arguments.on_stack.Goals as goal

pub returns : goal.returns
returns c = λ m f k e l.
    let at : (c.args.from.first + c.args.i) % 4294967296 ≡ c.args.from.first + c.args.i = wrapped c.args.from.first c.args.i (sum f.sizes) l (small c.args.ram.now m c.args.from.frame f k e) in
    c.place.ensures m f k e (subst (λ n. n < sum f.sizes) (sym at) l) ∙ ap (held_at f) at
