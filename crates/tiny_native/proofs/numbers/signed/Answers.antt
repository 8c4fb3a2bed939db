use Rattle.std.proofs.Common.{◌≡◌, ◌∷◌, ap, ◌∙◌, subst, rules, w64}
use Rattle.std.specs.Int.{cast_signed, cast_unsigned}
use Rattle.tiny_native.specs.Texts.{MadeText}
use Rattle.std.specs.Fmt.{signed_decimal}
use Rattle.machine.specs.Natives.{number_signed}
use Rattle.tiny_ops.specs.Operators.{stack_value}
use Rattle.tiny_native.proofs.Made.{text_meets}
use Rattle.tiny_native.proofs.ThingKinds.{no_long}
use Rattle.tiny_native.proofs.ArrayOutcomes.{signed_long, signed_none}
use Rattle.tiny_native.proofs.numbers.signed.Goals as goal

pub returns-in-Long : goal.returns-in-Long
returns-in-Long c s more h =
    text_meets s c.signed_text.new.ram (signed_decimal c.in-Long.n) (number_signed s.program s.state s.frame s.callers s.next s.rest (stack_value s.leads c.args.value ∷ more)) c.signed_text.result h.cells
    (ap (λ v. number_signed s.program s.state s.frame s.callers s.next s.rest (stack_value s.leads v ∷ more)) c.in-Long.is ∙ signed_long s.program s.state s.frame s.callers s.next s.rest more c.in-Long.n)
    (let back : cast_signed w64 (cast_unsigned w64 c.in-Long.n) ≡ c.in-Long.n = search rules in
    subst (λ z. MadeText c.signed_text.new.ram s.memory (signed_decimal z) c.signed_text.result) back (c.signed_text.ensures s.memory h.keeps))

pub returns-in_default : goal.returns-in_default
returns-in_default c s more h = (h.keeps, signed_none s.program s.state s.frame s.callers s.next s.rest more (stack_value s.leads c.args.value) (no_long s.leads c.args.value c.in_default.not-Long))
