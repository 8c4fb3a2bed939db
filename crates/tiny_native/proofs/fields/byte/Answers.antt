use Rattle.std.proofs.Common.{ap, ◌∙◌, Option, ℕ}
use Rattle.std.specs.Prelude.{unwrap_or}
use Rattle.std.proofs.lemmas.Option.{unwrap_or-slice_get}
use Rattle.tiny_native.proofs.fields.byte.Goals as goal

pub returns-in-None : goal.returns-in-None
returns-in-None g c = ap (λ (o : Option ℕ). unwrap_or o 0) c.in-None.ensures ∙ unwrap_or-slice_get (g.S.Subclass.bytes c.args.types.now c.args.field) c.args.at 0
