use Rattle.std.proofs.Common.{◌≡◌, Bool, true, ◌∙◌, subst}
use Rattle.tiny_ram.specs.Memory.{variables, with_variable}
use Rattle.tiny_ram.specs.Region.{Done}
use Rattle.step_places.proofs.Rooms.{is_variable}
use Rattle.step_places.proofs.places.put_at.Goals as goal

pub returns : goal.returns
returns c =
    λ m f fs keeps e l.
    let there : c.put_variable.result ≡ true = c.put_variable.ensures.there m f fs keeps e ∙ is_variable c.args.index (variables f) l in
    subst (λ (b : Bool). Done c.args.ram.now c.put_variable.new.self m (with_variable f c.args.index c.args.value) fs b) there (c.put_variable.ensures.done m f fs keeps e)
