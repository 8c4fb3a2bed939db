use Rattle.std.proofs.Common.{◌≡◌, ◌∷◌, ℕ, ◌-◌, sym, ap, ◌∙◌, subst, rules, w32}
use Rattle.std.specs.Prelude.{ℤ}
use Rattle.std.specs.Int.{cast_signed, cast_unsigned}
use Rattle.board_types.specs.declared.value.Shape.{Shape}
use Rattle.machine.specs.Data.{CliType, Value, Int}
use Rattle.machine.specs.Natives.{array_copy}
use Rattle.tiny_ops.specs.Operators.{stack_value}
use Rattle.board_ids.specs.Ids.{cli_type}
use Rattle.tiny_native.specs.Copies.{copied_onto}
use Rattle.tiny_native.specs.Ends.{Meets}
use Rattle.tiny_native.proofs.ThingKinds.{ArrayNamed, array_named, no_int}
use Rattle.tiny_native.proofs.CopyOutcomes.{onto, copy_array, copy_null, copy_lacks, copy_no_from, copy_no_to, copy_no_count}
use Rattle.tiny_native.proofs.arrays.copy.Goals as goal

pub returns-in_default : goal.returns-in_default
returns-in_default c s more h n k = (h.keeps, copy_no_from s.program s.state s.frame s.callers s.next s.rest more (stack_value s.leads c.args.source) (stack_value s.leads c.args.from) (stack_value s.leads c.args.target) (stack_value s.leads c.args.to) (stack_value s.leads c.args.count) (no_int s.leads c.args.from c.in_default.not-Int))

pub returns-in_default-to : goal.returns-in_default-to
returns-in_default-to c s more h n k = (
  h.keeps,
  ap (λ v. array_copy s.program s.state s.frame s.callers s.next s.rest (stack_value s.leads c.args.source ∷ stack_value s.leads v ∷ stack_value s.leads c.args.target ∷ stack_value s.leads c.args.to ∷ stack_value s.leads c.args.count ∷ more)) c.in-Int.is
      ∙ copy_no_to s.program s.state s.frame s.callers s.next s.rest more (stack_value s.leads c.args.source) c.in-Int.from (stack_value s.leads c.args.target) (stack_value s.leads c.args.to) (stack_value s.leads c.args.count) (no_int s.leads c.args.to c.in_default-to.not-Int),
)

pub returns-in_default-count : goal.returns-in_default-count
returns-in_default-count c s more h n k = (
  h.keeps,
  ap (λ v. array_copy s.program s.state s.frame s.callers s.next s.rest (stack_value s.leads c.args.source ∷ stack_value s.leads v ∷ stack_value s.leads c.args.target ∷ stack_value s.leads c.args.to ∷ stack_value s.leads c.args.count ∷ more)) c.in-Int.is
      ∙ ap (λ v. array_copy s.program s.state s.frame s.callers s.next s.rest (stack_value s.leads c.args.source ∷ Int c.in-Int.from ∷ stack_value s.leads c.args.target ∷ stack_value s.leads v ∷ stack_value s.leads c.args.count ∷ more)) c.in-Int-to.is
      ∙ copy_no_count s.program s.state s.frame s.callers s.next s.rest more (stack_value s.leads c.args.source) c.in-Int.from (stack_value s.leads c.args.target) c.in-Int-to.to (stack_value s.leads c.args.count) (no_int s.leads c.args.count c.in_default-count.not-Int),
)

pub returns-in-Other : goal.returns-in-Other
returns-in-Other c s more h n k = (
  h.keeps,
  ap (λ v. array_copy s.program s.state s.frame s.callers s.next s.rest (stack_value s.leads c.args.source ∷ stack_value s.leads v ∷ stack_value s.leads c.args.target ∷ stack_value s.leads c.args.to ∷ stack_value s.leads c.args.count ∷ more)) c.in-Int.is
      ∙ ap (λ v. array_copy s.program s.state s.frame s.callers s.next s.rest (stack_value s.leads c.args.source ∷ Int c.in-Int.from ∷ stack_value s.leads c.args.target ∷ stack_value s.leads v ∷ stack_value s.leads c.args.count ∷ more)) c.in-Int-to.is
      ∙ ap (λ v. array_copy s.program s.state s.frame s.callers s.next s.rest (stack_value s.leads c.args.source ∷ Int c.in-Int.from ∷ stack_value s.leads c.args.target ∷ Int c.in-Int-to.to ∷ stack_value s.leads v ∷ more)) c.in-Int-count.is
      ∙ copy_lacks s.program s.state s.frame s.callers s.next s.rest more (stack_value s.leads c.args.source) (stack_value s.leads c.args.target) c.in-Int.from c.in-Int-to.to c.in-Int-count.count (c.in-Other.ensures s h.keeps n),
)

pub returns-in-Null : goal.returns-in-Null
returns-in-Null c s more h n k =
    subst (λ o. Meets s c.args.ram.now o c.copy_from_null.result) (sym (
    ap (λ v. array_copy s.program s.state s.frame s.callers s.next s.rest (stack_value s.leads c.args.source ∷ stack_value s.leads v ∷ stack_value s.leads c.args.target ∷ stack_value s.leads c.args.to ∷ stack_value s.leads c.args.count ∷ more)) c.in-Int.is
    ∙ ap (λ v. array_copy s.program s.state s.frame s.callers s.next s.rest (stack_value s.leads c.args.source ∷ Int c.in-Int.from ∷ stack_value s.leads c.args.target ∷ stack_value s.leads v ∷ stack_value s.leads c.args.count ∷ more)) c.in-Int-to.is
    ∙ ap (λ v. array_copy s.program s.state s.frame s.callers s.next s.rest (stack_value s.leads c.args.source ∷ Int c.in-Int.from ∷ stack_value s.leads c.args.target ∷ Int c.in-Int-to.to ∷ stack_value s.leads v ∷ more)) c.in-Int-count.is
    ∙ ap (λ v. array_copy s.program s.state s.frame s.callers s.next s.rest (stack_value s.leads v ∷ Int c.in-Int.from ∷ stack_value s.leads c.args.target ∷ Int c.in-Int-to.to ∷ Int c.in-Int-count.count ∷ more)) (c.in-Null.ensures s h.keeps n)
    ∙ copy_null s.program s.state s.frame s.callers s.next s.rest more (stack_value s.leads c.args.target) c.in-Int.from c.in-Int-to.to c.in-Int-count.count))
    (c.copy_from_null.ensures s h k)

pub returns-in-Thing : goal.returns-in-Thing
returns-in-Thing c s more h n k =
    let thing : ℕ = c.in-Thing.thing in
    let shape : Shape = c.in-Thing.shape in
    let i : ℤ = c.in-Int.from in
    let j : ℤ = c.in-Int-to.to in
    let m : ℤ = c.in-Int-count.count in
    let back_i : cast_signed w32 (cast_unsigned w32 i) ≡ i = search rules in
    let back_j : cast_signed w32 (cast_unsigned w32 j) ≡ j = search rules in
    let back_m : cast_signed w32 (cast_unsigned w32 m) ≡ m = search rules in
    let t : ArrayNamed s c.args.source thing shape = array_named s c.args.source thing shape (c.in-Thing.ensures s h.keeps n) in
    let target : Value = stack_value s.leads c.args.target in
    let outcome =
    ap (λ v. array_copy s.program s.state s.frame s.callers s.next s.rest (stack_value s.leads c.args.source ∷ stack_value s.leads v ∷ stack_value s.leads c.args.target ∷ stack_value s.leads c.args.to ∷ stack_value s.leads c.args.count ∷ more)) c.in-Int.is
    ∙ ap (λ v. array_copy s.program s.state s.frame s.callers s.next s.rest (stack_value s.leads c.args.source ∷ Int c.in-Int.from ∷ stack_value s.leads c.args.target ∷ stack_value s.leads v ∷ stack_value s.leads c.args.count ∷ more)) c.in-Int-to.is
    ∙ ap (λ v. array_copy s.program s.state s.frame s.callers s.next s.rest (stack_value s.leads c.args.source ∷ Int c.in-Int.from ∷ stack_value s.leads c.args.target ∷ Int c.in-Int-to.to ∷ stack_value s.leads v ∷ more)) c.in-Int-count.is
    ∙ ap (λ (w : Value). array_copy s.program s.state s.frame s.callers s.next s.rest (w ∷ Int c.in-Int.from ∷ stack_value s.leads c.args.target ∷ Int c.in-Int-to.to ∷ Int c.in-Int-count.count ∷ more)) t.value
    ∙ copy_array s.program s.state s.frame s.callers s.next s.rest more (thing - 1) t.element t.values target i j m t.at
    ∙ ap (λ (y : CliType). onto s.program s.state s.frame s.callers s.next s.rest more y t.values target i j m) (sym t.array.typed)
    ∙ ap (λ vs. onto s.program s.state s.frame s.callers s.next s.rest more (cli_type t.entry.shape.of) vs target i j m) (sym t.array.held)
    ∙ ap (λ z. copied_onto s target t.entry z j m) (sym back_i)
    ∙ ap (λ z. copied_onto s target t.entry (cast_signed w32 (cast_unsigned w32 i)) z m) (sym back_j)
    ∙ ap (λ z. copied_onto s target t.entry (cast_signed w32 (cast_unsigned w32 i)) (cast_signed w32 (cast_unsigned w32 j)) z) (sym back_m) in
    subst (λ o. Meets s c.copy_to.new.ram o c.copy_to.result) (sym outcome)
    (c.copy_to.ensures s t.entry h (record { is = t.is; same = t.same; what = t.what; cell = t.array.cell; packed = t.array.packed }) k)
