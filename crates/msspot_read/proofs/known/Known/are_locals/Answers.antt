use Rattle.std.proofs.Common.{◌∙◌, ap}
use Rattle.std.specs.Prelude.{is_some}
use Rattle.std.proofs.lemmas.Bool.{ne_eqb}
use Rattle.image_form.specs.Form.{locals_at}
use Rattle.msspot_read.specs.Held.{held_of}
use Rattle.msspot_read.proofs.KnownLaws.{locals_known}
use Rattle.msspot_read.proofs.known.Known.are_locals.Goals as goal

pub returns : goal.returns
returns c =
    let i = c.self.inside.parts.now in
    c.has.ensures
    ∙ c.self.invariant.locals c.args.at
    ∙ locals_known i c.self.invariant.texts c.args.at (ne_eqb c.args.at 65535 c.if-at-eq-NONE.false)
    ∙ ap (λ j. is_some (locals_at (held_of j) c.args.at)) c.self.view_is
