use Rattle.std.proofs.Common.{◌≡◌, ℕ, ◌-◌, ◌%◌, ◌^◌, ◌∷◌, length, ap, ◌∙◌, sym, arith, w32}
use Rattle.std.specs.Prelude.{ℤ}
use Rattle.std.specs.Int.{cast_signed, cast_unsigned}
use Rattle.std.proofs.lemmas.Int.{of_z-to_z}
use Rattle.std.proofs.lemmas.List.{length-map}
use Rattle.board_types.specs.declared.value.Shape.{Shape}
use Rattle.machine.specs.Data.{Value, Int}
use Rattle.machine.specs.Throw.{goes}
use Rattle.machine.specs.Natives.{array_length}
use Rattle.tiny_ops.specs.Operators.{stack_value}
use Rattle.tiny_native.specs.Seen.{seen}
use Rattle.tiny_native.specs.Ends.{Same}
use Rattle.tiny_native.proofs.ThingKinds.{ArrayNamed, array_named}
use Rattle.tiny_native.proofs.Held.{entry_count}
use Rattle.tiny_native.proofs.ArrayOutcomes.{array_length_null, array_length_of, array_length_lacks}
use Rattle.tiny_native.proofs.arrays.length.Goals as goal

pub returns-in-Null : goal.returns-in-Null
returns-in-Null c s more h n = (
  h.keeps,
  ap (λ (w : Value). array_length s.program s.state s.frame s.callers s.next s.rest (w ∷ more)) (ap (stack_value s.leads) (c.in-Null.ensures s h.keeps n)) ∙ array_length_null s.program s.state s.frame s.callers s.next s.rest more,
)

pub returns-in-Thing : goal.returns-in-Thing
returns-in-Thing c s more h n =
    let thing : ℕ = c.in-Thing.field-0 in
    let shape : Shape = c.in-Thing.shape in
    let t : ArrayNamed s c.args.this thing shape = array_named s c.args.this thing shape (c.in-Thing.ensures s h.keeps n) in
    let long : length t.values ≡ length t.entry.places = ap length (sym t.array.held) ∙ length-map t.entry.places (seen s.leads) in
    let size : length t.entry.places ≡ t.entry.shape.count = entry_count c.args.ram.now s.memory thing t.entry h.keeps t.is in
    let shown : shape.count ≡ t.entry.shape.count = ap (λ (x : Shape). x.count) t.same in
    let number : length t.values % 2 ^ 32 ≡ shape.count = omega (arith, long, size, shown) in
    let bits : cast_unsigned w32 c.cast_signed.result ≡ shape.count = ap (cast_unsigned w32) c.cast_signed.ensures ∙ of_z-to_z w32 shape.count (omega arith) in
    let value = ap (cast_signed w32) (number ∙ sym bits) in
    record {
      change = Same;
      keeps = h.keeps;
      outcome =
          ap (λ (w : Value). array_length s.program s.state s.frame s.callers s.next s.rest (w ∷ more)) t.value
          ∙ array_length_of s.program s.state s.frame s.callers s.next s.rest more (thing - 1) t.element t.values t.at
          ∙ ap (λ (z : ℤ). goes s.program s.state s.frame s.callers s.next (Int z ∷ s.rest)) value;
    }

pub returns-in-Other : goal.returns-in-Other
returns-in-Other c s more h n = (h.keeps, array_length_lacks s.program s.state s.frame s.callers s.next s.rest more (stack_value s.leads c.args.this) (c.in-Other.ensures s h.keeps n))
