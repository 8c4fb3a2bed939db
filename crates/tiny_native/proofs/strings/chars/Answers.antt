use Rattle.std.proofs.Common.{◌≡◌, ◌∷◌, ℕ, ◌-◌, sym, ap, ◌∙◌, subst, rules, w32}
use Rattle.std.specs.Int.{cast_signed, cast_unsigned}
use Rattle.board_types.specs.declared.value.Shape.{Shape}
use Rattle.tiny_native.specs.Copies.{unit_in_text}
use Rattle.tiny_native.specs.Ends.{Meets}
use Rattle.machine.specs.Data.{Int}
use Rattle.machine.specs.Natives.{string_chars}
use Rattle.tiny_ops.specs.Operators.{stack_value}
use Rattle.tiny_native.proofs.ThingKinds.{TextNamed, text_named, no_int}
use Rattle.tiny_native.proofs.Outcomes.{chars_null, chars_text, chars_lacks, chars_no_index}
use Rattle.tiny_native.proofs.strings.chars.Goals as goal

pub returns-in_default : goal.returns-in_default
returns-in_default c s more h n = (h.keeps, chars_no_index s.program s.state s.frame s.callers s.next s.rest more (stack_value s.leads c.args.this) (stack_value s.leads c.args.index) (no_int s.leads c.args.index c.in_default.not-Int))

pub returns-in-Null : goal.returns-in-Null
returns-in-Null c s more h n = (
  h.keeps,
  ap (λ v. string_chars s.program s.state s.frame s.callers s.next s.rest (stack_value s.leads c.args.this ∷ stack_value s.leads v ∷ more)) c.in-Int.is
      ∙ ap (λ v. string_chars s.program s.state s.frame s.callers s.next s.rest (stack_value s.leads v ∷ Int c.in-Int.index ∷ more)) (c.in-Null.ensures s h.keeps n)
      ∙ chars_null s.program s.state s.frame s.callers s.next s.rest more c.in-Int.index,
)

pub returns-in-Other : goal.returns-in-Other
returns-in-Other c s more h n = (
  h.keeps,
  ap (λ v. string_chars s.program s.state s.frame s.callers s.next s.rest (stack_value s.leads c.args.this ∷ stack_value s.leads v ∷ more)) c.in-Int.is
      ∙ chars_lacks s.program s.state s.frame s.callers s.next s.rest more c.in-Int.index (stack_value s.leads c.args.this) (c.in-Other.ensures s h.keeps n),
)

pub returns-in-Thing : goal.returns-in-Thing
returns-in-Thing c s more h n =
    let thing : ℕ = c.in-Thing.thing in
    let shape : Shape = c.in-Thing.shape in
    let t : TextNamed s c.args.this thing shape = text_named s c.args.this thing shape (c.in-Thing.ensures s h.keeps n) in
    let back : cast_signed w32 (cast_unsigned w32 c.in-Int.index) ≡ c.in-Int.index = search rules in
    let outcome : string_chars s.program s.state s.frame s.callers s.next s.rest (stack_value s.leads c.args.this ∷ stack_value s.leads c.args.index ∷ more) ≡ unit_in_text s c.in-Int.index t.units =
    ap (λ v. string_chars s.program s.state s.frame s.callers s.next s.rest (stack_value s.leads c.args.this ∷ stack_value s.leads v ∷ more)) c.in-Int.is
    ∙ ap (λ w. string_chars s.program s.state s.frame s.callers s.next s.rest (w ∷ Int c.in-Int.index ∷ more)) t.value
    ∙ chars_text s.program s.state s.frame s.callers s.next s.rest more c.in-Int.index (thing - 1) t.units t.at in
    subst (λ o. Meets s c.args.ram.now o c.unit_at.result) (sym outcome)
    (subst (λ z. Meets s c.args.ram.now (unit_in_text s z t.units) c.unit_at.result) back (c.unit_at.ensures s t.units h.keeps t.is t.count))
