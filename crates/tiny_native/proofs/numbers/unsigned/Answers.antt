use Rattle.std.proofs.Common.{◌≡◌, ◌∷◌, ap, ◌∙◌, rules}
use Rattle.std.specs.Prelude.{decimal}
use Rattle.std.specs.Int.{w64, cast_unsigned}
use Rattle.machine.specs.Natives.{number_unsigned, new_text}
use Rattle.tiny_ops.specs.Operators.{stack_value}
use Rattle.tiny_native.proofs.Made.{text_meets}
use Rattle.tiny_native.proofs.ThingKinds.{no_long}
use Rattle.tiny_native.proofs.ArrayOutcomes.{unsigned_long, unsigned_none}
use Rattle.tiny_native.proofs.numbers.unsigned.Goals as goal

pub returns-in-Long : goal.returns-in-Long
returns-in-Long c s more h =
    text_meets s c.unsigned_text.new.ram (decimal c.cast_unsigned.result) (number_unsigned s.program s.state s.frame s.callers s.next s.rest (stack_value s.leads c.args.value ∷ more)) c.unsigned_text.result h.cells
    (ap (λ v. number_unsigned s.program s.state s.frame s.callers s.next s.rest (stack_value s.leads v ∷ more)) c.in-Long.is ∙ unsigned_long s.program s.state s.frame s.callers s.next s.rest more c.in-Long.n ∙ ap (λ n. new_text s.program s.state s.frame s.callers s.next s.rest (decimal n)) (let bits : cast_unsigned w64 c.in-Long.n ≡ c.cast_unsigned.result = search rules in bits))
    (c.unsigned_text.ensures s.memory h.keeps)

pub returns-in_default : goal.returns-in_default
returns-in_default c s more h = (h.keeps, unsigned_none s.program s.state s.frame s.callers s.next s.rest more (stack_value s.leads c.args.value) (no_long s.leads c.args.value c.in_default.not-Long))
