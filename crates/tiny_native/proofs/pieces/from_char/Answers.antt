use Rattle.std.proofs.Common.{◌≡◌, ◌∷◌, [], ◌%◌, ◌^◌, ap, ◌∙◌, rules, w32}
use Rattle.std.specs.Int.{cast_unsigned}
use Rattle.machine.specs.Natives.{string_from_char, new_text}
use Rattle.tiny_ops.specs.Operators.{stack_value}
use Rattle.tiny_native.proofs.Made.{text_meets}
use Rattle.tiny_native.proofs.ThingKinds.{no_int}
use Rattle.tiny_native.proofs.ArrayOutcomes.{from_char_int, from_char_none}
use Rattle.tiny_native.proofs.pieces.from_char.Goals as goal

pub returns-in-Int : goal.returns-in-Int
returns-in-Int c s more h =
    let bits : cast_unsigned w32 c.in-Int.n ≡ c.cast_unsigned.result = search rules in
    text_meets s c.single.new.ram (c.cast_unsigned.result % 2 ^ 16 ∷ []) (string_from_char s.program s.state s.frame s.callers s.next s.rest (stack_value s.leads c.args.char ∷ more)) c.single.result h.cells
    (ap (λ v. string_from_char s.program s.state s.frame s.callers s.next s.rest (stack_value s.leads v ∷ more)) c.in-Int.is
    ∙ from_char_int s.program s.state s.frame s.callers s.next s.rest more c.in-Int.n
    ∙ ap (λ n. new_text s.program s.state s.frame s.callers s.next s.rest (n % 2 ^ 16 ∷ [])) bits)
    (c.single.ensures s.memory h.keeps)

pub returns-in_default : goal.returns-in_default
returns-in_default c s more h = (h.keeps, from_char_none s.program s.state s.frame s.callers s.next s.rest more (stack_value s.leads c.args.char) (no_int s.leads c.args.char c.in_default.not-Int))
