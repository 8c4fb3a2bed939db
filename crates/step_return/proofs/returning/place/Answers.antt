use Rattle.std.proofs.Common.{◌∙◌}
use Rattle.step_return.proofs.Ended.{place_back}
use Rattle.step_return.proofs.returning.place.Goals as goal

pub returns : goal.returns
returns c = λ m f fs k e n l q. c.cast_unsigned.ensures ∙ place_back n c.place.result f.place l (c.place.ensures m f fs k e) q
