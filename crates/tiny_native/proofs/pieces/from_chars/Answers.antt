use Rattle.std.proofs.Common.{◌≡◌, ◌∷◌, ℕ, ◌+◌, ◌-◌, true, false, List, Option, Some, None, length, map, sym, ap, ◌∙◌, subst, arith, rules, get_or, w32}
use Rattle.std.specs.Prelude.{ℤ, unsigned_abs}
use Rattle.std.specs.Int.{cast_signed, cast_unsigned}
use Rattle.std.proofs.lemmas.List.{length-map}
use Rattle.cil_opcodes.specs.declared.shape.IntegerType.TheVariants.{U2}
use Rattle.board_types.specs.declared.value.Shape.{Shape}
use Rattle.board_types.specs.declared.value.Value.{Value as BoardValue}
use Rattle.machine.specs.Data.{Bits, Value, Int, cell_of}
use Rattle.machine.specs.Natives.{is_range, piece, unit_of, string_from_chars}
use Rattle.ram_words.specs.Elements.{type_held}
use Rattle.tiny_ops.specs.Operators.{stack_value}
use Rattle.tiny_ram.specs.Things.{Packed, layout_of}
use Rattle.tiny_native.specs.Seen.{seen}
use Rattle.tiny_native.specs.Copies.{AllHaveKind, PlaceHasKind, unit_in, is_wide, part_of}
use Rattle.tiny_native.specs.Ends.{Meets}
use Rattle.tiny_native.proofs.ThingKinds.{ArrayNamed, array_named, no_int}
use Rattle.tiny_native.proofs.Held.{Element, element_held, entry_count}
use Rattle.tiny_native.proofs.TypeLemmas.{cell_held, array_layout}
use Rattle.tiny_native.proofs.PieceLemmas.{array_piece, wide_kind}
use Rattle.tiny_native.proofs.PieceOutcomes.{from_chars_null, from_chars_array, from_chars_lacks, from_chars_no_start, from_chars_no_count, wide_cell, other_cell}
use Rattle.tiny_native.proofs.pieces.from_chars.Goals as goal

pub returns-in_default : goal.returns-in_default
returns-in_default c s more h n = (h.keeps, from_chars_no_start s.program s.state s.frame s.callers s.next s.rest more (stack_value s.leads c.args.array) (stack_value s.leads c.args.start) (stack_value s.leads c.args.count) (no_int s.leads c.args.start c.in_default.not-Int))

pub returns-in_default-count : goal.returns-in_default-count
returns-in_default-count c s more h n = (
  h.keeps,
  ap (λ v. string_from_chars s.program s.state s.frame s.callers s.next s.rest (stack_value s.leads c.args.array ∷ stack_value s.leads v ∷ stack_value s.leads c.args.count ∷ more)) c.in-Int.is
      ∙ from_chars_no_count s.program s.state s.frame s.callers s.next s.rest more (stack_value s.leads c.args.array) c.in-Int.start (stack_value s.leads c.args.count) (no_int s.leads c.args.count c.in_default-count.not-Int),
)

pub returns-in-Null : goal.returns-in-Null
returns-in-Null c s more h n = (
  h.keeps,
  ap (λ v. string_from_chars s.program s.state s.frame s.callers s.next s.rest (stack_value s.leads c.args.array ∷ stack_value s.leads v ∷ stack_value s.leads c.args.count ∷ more)) c.in-Int.is
      ∙ ap (λ v. string_from_chars s.program s.state s.frame s.callers s.next s.rest (stack_value s.leads c.args.array ∷ Int c.in-Int.start ∷ stack_value s.leads v ∷ more)) c.in-Int-count.is
      ∙ ap (λ v. string_from_chars s.program s.state s.frame s.callers s.next s.rest (stack_value s.leads v ∷ Int c.in-Int.start ∷ Int c.in-Int-count.count ∷ more)) (c.in-Null.ensures s h.keeps n)
      ∙ from_chars_null s.program s.state s.frame s.callers s.next s.rest more c.in-Int.start c.in-Int-count.count,
)

pub returns-in-Other : goal.returns-in-Other
returns-in-Other c s more h n = (
  h.keeps,
  ap (λ v. string_from_chars s.program s.state s.frame s.callers s.next s.rest (stack_value s.leads c.args.array ∷ stack_value s.leads v ∷ stack_value s.leads c.args.count ∷ more)) c.in-Int.is
      ∙ ap (λ v. string_from_chars s.program s.state s.frame s.callers s.next s.rest (stack_value s.leads c.args.array ∷ Int c.in-Int.start ∷ stack_value s.leads v ∷ more)) c.in-Int-count.is
      ∙ from_chars_lacks s.program s.state s.frame s.callers s.next s.rest more c.in-Int.start c.in-Int-count.count (stack_value s.leads c.args.array) (c.in-Other.ensures s h.keeps n),
)

pub returns-else-has_chars : goal.returns-else-has_chars
returns-else-has_chars c s more h n =
    let thing : ℕ = c.in-Thing.thing in
    let shape : Shape = c.in-Thing.shape in
    let i : ℤ = c.in-Int.start in
    let k : ℤ = c.in-Int-count.count in
    let t : ArrayNamed s c.args.array thing shape = array_named s c.args.array thing shape (c.in-Thing.ensures s h.keeps n) in
    let narrow : is_wide (Some t.array.cell) ≡ false = ap is_wide (sym t.array.packed ∙ sym (ap (λ (x : Shape). type_held x.of) t.same)) ∙ sym c.has_chars.ensures ∙ c.if-has_chars.false in
    let cell : cell_of t.element ≡ Some t.array.cell = ap cell_of (sym t.array.typed) ∙ cell_held t.entry.shape.of ∙ t.array.packed in (
      h.keeps,
      ap (λ v. string_from_chars s.program s.state s.frame s.callers s.next s.rest (stack_value s.leads c.args.array ∷ stack_value s.leads v ∷ stack_value s.leads c.args.count ∷ more)) c.in-Int.is
          ∙ ap (λ v. string_from_chars s.program s.state s.frame s.callers s.next s.rest (stack_value s.leads c.args.array ∷ Int i ∷ stack_value s.leads v ∷ more)) c.in-Int-count.is
          ∙ ap (λ (w : Value). string_from_chars s.program s.state s.frame s.callers s.next s.rest (w ∷ Int i ∷ Int k ∷ more)) t.value
          ∙ from_chars_array s.program s.state s.frame s.callers s.next s.rest more i k (thing - 1) t.element t.values t.at
          ∙ other_cell t.element t.array.cell (λ cell. part_of s (is_range (length t.values) i k) (map unit_of (piece (unsigned_abs i) (unsigned_abs k) t.values))) cell narrow,
    )

pub returns-then-has_chars : goal.returns-then-has_chars
returns-then-has_chars c s more h n =
    let thing : ℕ = c.in-Thing.thing in
    let shape : Shape = c.in-Thing.shape in
    let i : ℤ = c.in-Int.start in
    let k : ℤ = c.in-Int-count.count in
    let t : ArrayNamed s c.args.array thing shape = array_named s c.args.array thing shape (c.in-Thing.ensures s h.keeps n) in
    let places : List (Option BoardValue) = t.entry.places in
    let wide : is_wide (Some t.array.cell) ≡ true = ap is_wide (sym t.array.packed ∙ sym (ap (λ (x : Shape). type_held x.of) t.same)) ∙ sym c.has_chars.ensures ∙ c.if-has_chars.true in
    let cell : cell_of t.element ≡ Some t.array.cell = ap cell_of (sym t.array.typed) ∙ cell_held t.entry.shape.of ∙ t.array.packed in
    let layout : layout_of t.entry.shape ≡ Packed t.array.cell = array_layout t.entry.shape t.array.cell t.what t.array.packed in
    let size : length places ≡ t.entry.shape.count = entry_count c.args.ram.now s.memory thing t.entry h.keeps t.is in
    let shown : shape.count ≡ t.entry.shape.count = ap (λ (x : Shape). x.count) t.same in
    let most : shape.count ≡ length places = shown ∙ sym size in
    let long : length t.values ≡ shape.count = ap length (sym t.array.held) ∙ length-map places (seen s.leads) ∙ sym most in
    let kinds : AllHaveKind (Bits U2) places 0 shape.count = λ j l.
    let z : j ≡ 0 + j = omega arith in
    let el : Element t.array.cell (get_or places j None) = element_held c.args.ram.now s.memory thing t.entry t.array.cell h.keeps t.is layout j (omega (arith, l, most)) in
    subst (λ x. PlaceHasKind (Bits U2) (get_or places x None)) z (subst (PlaceHasKind (Bits U2)) (sym el.is) (wide_kind t.array.cell el.value wide el.fits.kind)) in
    let back_i : cast_signed w32 (cast_unsigned w32 i) ≡ i = search rules in
    let back_k : cast_signed w32 (cast_unsigned w32 k) ≡ k = search rules in
    let wanted = λ (x y : ℤ). part_of s (is_range shape.count x y) (map unit_in (piece (unsigned_abs x) (unsigned_abs y) places)) in
    let met : Meets s c.part.new.ram (wanted i k) c.part.result =
    subst (λ z. Meets s c.part.new.ram (wanted i z) c.part.result) back_k
    (subst (λ z. Meets s c.part.new.ram (wanted z (cast_signed w32 (cast_unsigned w32 k))) c.part.result) back_i
    (c.part.ensures s t.entry h t.is most kinds)) in
    let outcome : string_from_chars s.program s.state s.frame s.callers s.next s.rest (stack_value s.leads c.args.array ∷ stack_value s.leads c.args.start ∷ stack_value s.leads c.args.count ∷ more) ≡ wanted i k =
    ap (λ v. string_from_chars s.program s.state s.frame s.callers s.next s.rest (stack_value s.leads c.args.array ∷ stack_value s.leads v ∷ stack_value s.leads c.args.count ∷ more)) c.in-Int.is
    ∙ ap (λ v. string_from_chars s.program s.state s.frame s.callers s.next s.rest (stack_value s.leads c.args.array ∷ Int i ∷ stack_value s.leads v ∷ more)) c.in-Int-count.is
    ∙ ap (λ (w : Value). string_from_chars s.program s.state s.frame s.callers s.next s.rest (w ∷ Int i ∷ Int k ∷ more)) t.value
    ∙ from_chars_array s.program s.state s.frame s.callers s.next s.rest more i k (thing - 1) t.element t.values t.at
    ∙ wide_cell t.element t.array.cell (λ cell. part_of s (is_range (length t.values) i k) (map unit_of (piece (unsigned_abs i) (unsigned_abs k) t.values))) cell wide
    ∙ ap (λ x. part_of s (is_range x i k) (map unit_of (piece (unsigned_abs i) (unsigned_abs k) t.values))) long
    ∙ ap (λ us. part_of s (is_range shape.count i k) us) (ap (λ vs. map unit_of (piece (unsigned_abs i) (unsigned_abs k) vs)) (sym t.array.held) ∙ array_piece s.leads places (unsigned_abs i) (unsigned_abs k)) in
    subst (λ o. Meets s c.part.new.ram o c.part.result) (sym outcome) met
