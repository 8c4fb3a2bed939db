use Rattle.std.proofs.Common.{sym, ap, ◌∙◌}
use Rattle.tiny_ram.specs.Memory.{shown}
use Rattle.step_places.proofs.Rooms.{variable_held}
use Rattle.step_places.proofs.places.value_at.Goals as goal

pub returns-in-Some : goal.returns-in-Some
returns-in-Some c =
    λ m f fs keeps e l.
    sym (ap (shown c.args.unput) (sym (variable_held f c.args.index l) ∙ sym (c.variable.ensures m f fs keeps e) ∙ c.in-Some.is))

pub returns-in-None : goal.returns-in-None
returns-in-None c =
    λ m f fs keeps e l.
    c.zero_of.ensures ∙ sym (ap (shown c.args.unput) (sym (variable_held f c.args.index l) ∙ sym (c.variable.ensures m f fs keeps e) ∙ c.in-None.is))
