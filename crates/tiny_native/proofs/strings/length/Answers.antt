use Rattle.std.proofs.Common.{◌≡◌, ℕ, ◌-◌, ◌%◌, ◌^◌, ◌∷◌, length, ap, ◌∙◌, sym, arith, w32}
use Rattle.std.specs.Prelude.{ℤ}
use Rattle.std.specs.Int.{cast_signed, cast_unsigned}
use Rattle.std.proofs.lemmas.Int.{of_z-to_z}
use Rattle.board_types.specs.declared.value.Shape.{Shape}
use Rattle.machine.specs.Data.{Value, Int}
use Rattle.machine.specs.Throw.{goes}
use Rattle.machine.specs.Natives.{string_length}
use Rattle.tiny_ops.specs.Operators.{stack_value}
use Rattle.tiny_native.specs.Ends.{Same}
use Rattle.tiny_native.proofs.ThingKinds.{TextNamed, text_named}
use Rattle.tiny_native.proofs.Outcomes.{length_null, length_text, length_lacks}
use Rattle.tiny_native.proofs.strings.length.Goals as goal

pub returns-in-Null : goal.returns-in-Null
returns-in-Null c s more h n = (
  h.keeps,
  ap (λ (w : Value). string_length s.program s.state s.frame s.callers s.next s.rest (w ∷ more)) (ap (stack_value s.leads) (c.in-Null.ensures s h.keeps n)) ∙ length_null s.program s.state s.frame s.callers s.next s.rest more,
)

pub returns-in-Thing : goal.returns-in-Thing
returns-in-Thing c s more h n =
    let thing : ℕ = c.in-Thing.field-0 in
    let shape : Shape = c.in-Thing.shape in
    let t : TextNamed s c.args.this thing shape = text_named s c.args.this thing shape (c.in-Thing.ensures s h.keeps n) in
    let number : length t.units % 2 ^ 32 ≡ shape.count = omega (arith, t.count) in
    let bits : cast_unsigned w32 c.cast_signed.result ≡ shape.count = ap (cast_unsigned w32) c.cast_signed.ensures ∙ of_z-to_z w32 shape.count (omega arith) in
    let value = ap (cast_signed w32) (number ∙ sym bits) in
    record {
      change = Same;
      keeps = h.keeps;
      outcome =
          ap (λ (w : Value). string_length s.program s.state s.frame s.callers s.next s.rest (w ∷ more)) t.value
          ∙ length_text s.program s.state s.frame s.callers s.next s.rest more (thing - 1) t.units t.at
          ∙ ap (λ (z : ℤ). goes s.program s.state s.frame s.callers s.next (Int z ∷ s.rest)) value;
    }

pub returns-in-Other : goal.returns-in-Other
returns-in-Other c s more h n = (h.keeps, length_lacks s.program s.state s.frame s.callers s.next s.rest more (stack_value s.leads c.args.this) (c.in-Other.ensures s h.keeps n))
