use Rattle.std.proofs.Common.{◌≡◌, ◌∷◌, ℕ, ◌-◌, List, Option, length, map, sym, ap, ◌∙◌, subst, arith, rules, w32}
use Rattle.std.specs.Prelude.{ℤ, unsigned_abs}
use Rattle.std.specs.Int.{cast_signed, cast_unsigned}
use Rattle.std.proofs.lemmas.List.{length-map}
use Rattle.board_types.specs.declared.value.Shape.{Shape}
use Rattle.board_types.specs.declared.value.Value.{Value as BoardValue}
use Rattle.machine.specs.Data.{Value, Int}
use Rattle.machine.specs.Natives.{is_range, piece, string_substring}
use Rattle.tiny_ops.specs.Operators.{stack_value}
use Rattle.tiny_native.specs.Seen.{unit_place, text_entry}
use Rattle.tiny_native.specs.Copies.{unit_in, part_of}
use Rattle.tiny_native.specs.Ends.{Meets}
use Rattle.tiny_native.proofs.ThingKinds.{TextNamed, text_named, no_int}
use Rattle.tiny_native.proofs.Joined.{small_units}
use Rattle.tiny_native.proofs.Concat.{units_kind}
use Rattle.tiny_native.proofs.PieceLemmas.{text_piece}
use Rattle.tiny_native.proofs.PieceOutcomes.{substring_null, substring_text, substring_lacks, substring_no_start, substring_no_count}
use Rattle.tiny_native.proofs.pieces.substring.Goals as goal

pub returns-in_default : goal.returns-in_default
returns-in_default c s more h n = (h.keeps, substring_no_start s.program s.state s.frame s.callers s.next s.rest more (stack_value s.leads c.args.this) (stack_value s.leads c.args.start) (stack_value s.leads c.args.count) (no_int s.leads c.args.start c.in_default.not-Int))

pub returns-in_default-count : goal.returns-in_default-count
returns-in_default-count c s more h n = (
  h.keeps,
  ap (λ v. string_substring s.program s.state s.frame s.callers s.next s.rest (stack_value s.leads c.args.this ∷ stack_value s.leads v ∷ stack_value s.leads c.args.count ∷ more)) c.in-Int.is
      ∙ substring_no_count s.program s.state s.frame s.callers s.next s.rest more (stack_value s.leads c.args.this) c.in-Int.start (stack_value s.leads c.args.count) (no_int s.leads c.args.count c.in_default-count.not-Int),
)

pub returns-in-Null : goal.returns-in-Null
returns-in-Null c s more h n = (
  h.keeps,
  ap (λ v. string_substring s.program s.state s.frame s.callers s.next s.rest (stack_value s.leads c.args.this ∷ stack_value s.leads v ∷ stack_value s.leads c.args.count ∷ more)) c.in-Int.is
      ∙ ap (λ v. string_substring s.program s.state s.frame s.callers s.next s.rest (stack_value s.leads c.args.this ∷ Int c.in-Int.start ∷ stack_value s.leads v ∷ more)) c.in-Int-count.is
      ∙ ap (λ v. string_substring s.program s.state s.frame s.callers s.next s.rest (stack_value s.leads v ∷ Int c.in-Int.start ∷ Int c.in-Int-count.count ∷ more)) (c.in-Null.ensures s h.keeps n)
      ∙ substring_null s.program s.state s.frame s.callers s.next s.rest more c.in-Int.start c.in-Int-count.count,
)

pub returns-in-Other : goal.returns-in-Other
returns-in-Other c s more h n = (
  h.keeps,
  ap (λ v. string_substring s.program s.state s.frame s.callers s.next s.rest (stack_value s.leads c.args.this ∷ stack_value s.leads v ∷ stack_value s.leads c.args.count ∷ more)) c.in-Int.is
      ∙ ap (λ v. string_substring s.program s.state s.frame s.callers s.next s.rest (stack_value s.leads c.args.this ∷ Int c.in-Int.start ∷ stack_value s.leads v ∷ more)) c.in-Int-count.is
      ∙ substring_lacks s.program s.state s.frame s.callers s.next s.rest more c.in-Int.start c.in-Int-count.count (stack_value s.leads c.args.this) (c.in-Other.ensures s h.keeps n),
)

pub returns-in-Thing : goal.returns-in-Thing
returns-in-Thing c s more h n =
    let thing : ℕ = c.in-Thing.thing in
    let shape : Shape = c.in-Thing.shape in
    let i : ℤ = c.in-Int.start in
    let k : ℤ = c.in-Int-count.count in
    let t : TextNamed s c.args.this thing shape = text_named s c.args.this thing shape (c.in-Thing.ensures s h.keeps n) in
    let places : List (Option BoardValue) = map unit_place t.units in
    let long : length places ≡ length t.units = length-map t.units unit_place in
    let back_i : cast_signed w32 (cast_unsigned w32 i) ≡ i = search rules in
    let back_k : cast_signed w32 (cast_unsigned w32 k) ≡ k = search rules in
    let wanted = λ (x y : ℤ). part_of s (is_range shape.count x y) (map unit_in (piece (unsigned_abs x) (unsigned_abs y) places)) in
    let met : Meets s c.part.new.ram (wanted i k) c.part.result =
    subst (λ z. Meets s c.part.new.ram (wanted i z) c.part.result) back_k
    (subst (λ z. Meets s c.part.new.ram (wanted z (cast_signed w32 (cast_unsigned w32 k))) c.part.result) back_i
    (c.part.ensures s (text_entry t.units) h t.is (omega (arith, t.count, long)) (units_kind t.units 0 shape.count (omega (arith, t.count))))) in
    let outcome : string_substring s.program s.state s.frame s.callers s.next s.rest (stack_value s.leads c.args.this ∷ stack_value s.leads c.args.start ∷ stack_value s.leads c.args.count ∷ more) ≡ wanted i k =
    ap (λ v. string_substring s.program s.state s.frame s.callers s.next s.rest (stack_value s.leads c.args.this ∷ stack_value s.leads v ∷ stack_value s.leads c.args.count ∷ more)) c.in-Int.is
    ∙ ap (λ v. string_substring s.program s.state s.frame s.callers s.next s.rest (stack_value s.leads c.args.this ∷ Int i ∷ stack_value s.leads v ∷ more)) c.in-Int-count.is
    ∙ ap (λ (w : Value). string_substring s.program s.state s.frame s.callers s.next s.rest (w ∷ Int i ∷ Int k ∷ more)) t.value
    ∙ substring_text s.program s.state s.frame s.callers s.next s.rest more i k (thing - 1) t.units t.at
    ∙ ap (λ x. part_of s (is_range x i k) (piece (unsigned_abs i) (unsigned_abs k) t.units)) (sym t.count)
    ∙ ap (λ us. part_of s (is_range shape.count i k) us) (sym (text_piece t.units (unsigned_abs i) (unsigned_abs k) (small_units c.args.ram.now s.memory thing t.units h.keeps t.is))) in
    subst (λ o. Meets s c.part.new.ram o c.part.result) (sym outcome) met
