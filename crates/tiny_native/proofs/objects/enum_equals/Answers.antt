use Rattle.std.proofs.Common.{◌≡◌, ◌∷◌, ℕ, ◌-◌, ◌<◌, Bool, true, false, Option, Some, length, sym, ap, ◌∙◌, arith}
use Rattle.board_types.specs.declared.value.Shape.{Shape}
use Rattle.machine.specs.Data.{Value, CliType}
use Rattle.machine.specs.Numbers.{of_bool}
use Rattle.machine.specs.Throw.{on_some, goes}
use Rattle.machine.specs.Natives.{equals_box, enum_equals}
use Rattle.tiny_ops.specs.Operators.{stack_value}
use Rattle.tiny_ram.specs.Memory.{shown, entry_value}
use Rattle.board_ids.specs.Ids.{cli_type}
use Rattle.tiny_native.specs.Types.{is_enum_type}
use Rattle.tiny_native.specs.Ends.{Same}
use Rattle.tiny_native.proofs.ThingKinds.{BoxNamed, box_named}
use Rattle.tiny_native.proofs.Enums.{enum_box, other_box}
use Rattle.tiny_native.proofs.BoxEquals.{equals_on, enum_equals_null, enum_equals_box, enum_equals_lacks}
use Rattle.tiny_native.proofs.objects.enum_equals.Goals as goal

pub returns-in-Null : goal.returns-in-Null
returns-in-Null c s more h n k = (
  h.keeps,
  ap (λ v. enum_equals s.program s.state s.frame s.callers s.next s.rest (stack_value s.leads v ∷ stack_value s.leads c.args.other ∷ more)) (c.in-Null.ensures s h.keeps n) ∙ enum_equals_null s.program s.state s.frame s.callers s.next s.rest more (stack_value s.leads c.args.other),
)

pub returns-in-Other : goal.returns-in-Other
returns-in-Other c s more h n k = (h.keeps, enum_equals_lacks s.program s.state s.frame s.callers s.next s.rest more (stack_value s.leads c.args.other) (stack_value s.leads c.args.this) (c.in-Other.ensures s h.keeps n))

pub returns-else-is_enum : goal.returns-else-is_enum
returns-else-is_enum c s more h n k =
    let thing : ℕ = c.in-Thing.thing in
    let shape : Shape = c.in-Thing.shape in
    let t : BoxNamed s c.args.this thing shape = box_named s c.args.this thing shape (c.in-Thing.ensures s h.keeps n) in
    let type : t.type ≡ cli_type shape.of = sym t.box.typed ∙ sym (ap (λ (x : Shape). cli_type x.of) t.same) in
    let narrow : is_enum_type t.type ≡ false = ap is_enum_type type ∙ sym c.is_enum.ensures ∙ c.if-is_enum.false in (
      h.keeps,
      ap (λ (w : Value). enum_equals s.program s.state s.frame s.callers s.next s.rest (w ∷ stack_value s.leads c.args.other ∷ more)) t.value
          ∙ enum_equals_box s.program s.state s.frame s.callers s.next s.rest more (stack_value s.leads c.args.other) (thing - 1) t.type t.held t.at
          ∙ other_box t.type t.held (equals_on s.program s.state s.frame s.callers s.next s.rest more (stack_value s.leads c.args.other)) narrow,
    )

pub returns-in-None : goal.returns-in-None
returns-in-None c s more h n k =
    let thing : ℕ = c.in-Thing.thing in
    let shape : Shape = c.in-Thing.shape in
    let t : BoxNamed s c.args.this thing shape = box_named s c.args.this thing shape (c.in-Thing.ensures s h.keeps n) in
    let type : t.type ≡ cli_type shape.of = sym t.box.typed ∙ sym (ap (λ (x : Shape). cli_type x.of) t.same) in
    let enum : is_enum_type t.type ≡ true = ap is_enum_type type ∙ sym c.is_enum.ensures ∙ c.if-is_enum.true in
    let some : 0 < length t.entry.places = omega (arith, t.box.one) in
    let value : stack_value s.leads c.unboxed-value.result ≡ t.held =
    ap (stack_value s.leads) (c.unboxed-value.ensures s.memory t.entry h.keeps t.is some ∙ ap (λ (x : Shape). shown x.of.elem (entry_value t.entry 0)) t.same) ∙ t.box.held in
    let other : Value = stack_value s.leads c.args.other in
    let asked : equals_box s.state.heap t.type t.held other ≡ equals_box s.state.heap (cli_type shape.of) (stack_value s.leads c.unboxed-value.result) other =
    ap (λ (x : CliType). equals_box s.state.heap x t.held other) type ∙ ap (λ (v : Value). equals_box s.state.heap (cli_type shape.of) v other) (sym value) in
    let start : enum_equals s.program s.state s.frame s.callers s.next s.rest (stack_value s.leads c.args.this ∷ other ∷ more) ≡ on_some (equals_box s.state.heap t.type t.held other) (λ b. goes s.program s.state s.frame s.callers s.next (of_bool b ∷ s.rest)) =
    ap (λ (w : Value). enum_equals s.program s.state s.frame s.callers s.next s.rest (w ∷ other ∷ more)) t.value
    ∙ enum_equals_box s.program s.state s.frame s.callers s.next s.rest more other (thing - 1) t.type t.held t.at
    ∙ enum_box t.type t.held (equals_on s.program s.state s.frame s.callers s.next s.rest more other) enum in
    (h.keeps, start ∙ ap (λ (o : Option Bool). on_some o (λ b. goes s.program s.state s.frame s.callers s.next (of_bool b ∷ s.rest))) (asked ∙ sym (c.in-None.ensures s h.keeps k)))

pub returns-in-Some-true : goal.returns-in-Some-true
returns-in-Some-true c s more h n k =
    let thing : ℕ = c.in-Thing.thing in
    let shape : Shape = c.in-Thing.shape in
    let t : BoxNamed s c.args.this thing shape = box_named s c.args.this thing shape (c.in-Thing.ensures s h.keeps n) in
    let type : t.type ≡ cli_type shape.of = sym t.box.typed ∙ sym (ap (λ (x : Shape). cli_type x.of) t.same) in
    let enum : is_enum_type t.type ≡ true = ap is_enum_type type ∙ sym c.is_enum.ensures ∙ c.if-is_enum.true in
    let some : 0 < length t.entry.places = omega (arith, t.box.one) in
    let value : stack_value s.leads c.unboxed-value.result ≡ t.held =
    ap (stack_value s.leads) (c.unboxed-value.ensures s.memory t.entry h.keeps t.is some ∙ ap (λ (x : Shape). shown x.of.elem (entry_value t.entry 0)) t.same) ∙ t.box.held in
    let other : Value = stack_value s.leads c.args.other in
    let asked : equals_box s.state.heap t.type t.held other ≡ equals_box s.state.heap (cli_type shape.of) (stack_value s.leads c.unboxed-value.result) other =
    ap (λ (x : CliType). equals_box s.state.heap x t.held other) type ∙ ap (λ (v : Value). equals_box s.state.heap (cli_type shape.of) v other) (sym value) in
    let start : enum_equals s.program s.state s.frame s.callers s.next s.rest (stack_value s.leads c.args.this ∷ other ∷ more) ≡ on_some (equals_box s.state.heap t.type t.held other) (λ b. goes s.program s.state s.frame s.callers s.next (of_bool b ∷ s.rest)) =
    ap (λ (w : Value). enum_equals s.program s.state s.frame s.callers s.next s.rest (w ∷ other ∷ more)) t.value
    ∙ enum_equals_box s.program s.state s.frame s.callers s.next s.rest more other (thing - 1) t.type t.held t.at
    ∙ enum_box t.type t.held (equals_on s.program s.state s.frame s.callers s.next s.rest more other) enum in
    record {
      change = Same;
      keeps = h.keeps;
      outcome = start ∙ ap (λ (o : Option Bool). on_some o (λ b. goes s.program s.state s.frame s.callers s.next (of_bool b ∷ s.rest))) (asked ∙ sym (c.in-Some-true.ensures s h.keeps k) ∙ ap Some c.in-Some-true.field-0-test);
    }

pub returns-in-Some-false : goal.returns-in-Some-false
returns-in-Some-false c s more h n k =
    let thing : ℕ = c.in-Thing.thing in
    let shape : Shape = c.in-Thing.shape in
    let t : BoxNamed s c.args.this thing shape = box_named s c.args.this thing shape (c.in-Thing.ensures s h.keeps n) in
    let type : t.type ≡ cli_type shape.of = sym t.box.typed ∙ sym (ap (λ (x : Shape). cli_type x.of) t.same) in
    let enum : is_enum_type t.type ≡ true = ap is_enum_type type ∙ sym c.is_enum.ensures ∙ c.if-is_enum.true in
    let some : 0 < length t.entry.places = omega (arith, t.box.one) in
    let value : stack_value s.leads c.unboxed-value.result ≡ t.held =
    ap (stack_value s.leads) (c.unboxed-value.ensures s.memory t.entry h.keeps t.is some ∙ ap (λ (x : Shape). shown x.of.elem (entry_value t.entry 0)) t.same) ∙ t.box.held in
    let other : Value = stack_value s.leads c.args.other in
    let asked : equals_box s.state.heap t.type t.held other ≡ equals_box s.state.heap (cli_type shape.of) (stack_value s.leads c.unboxed-value.result) other =
    ap (λ (x : CliType). equals_box s.state.heap x t.held other) type ∙ ap (λ (v : Value). equals_box s.state.heap (cli_type shape.of) v other) (sym value) in
    let start : enum_equals s.program s.state s.frame s.callers s.next s.rest (stack_value s.leads c.args.this ∷ other ∷ more) ≡ on_some (equals_box s.state.heap t.type t.held other) (λ b. goes s.program s.state s.frame s.callers s.next (of_bool b ∷ s.rest)) =
    ap (λ (w : Value). enum_equals s.program s.state s.frame s.callers s.next s.rest (w ∷ other ∷ more)) t.value
    ∙ enum_equals_box s.program s.state s.frame s.callers s.next s.rest more other (thing - 1) t.type t.held t.at
    ∙ enum_box t.type t.held (equals_on s.program s.state s.frame s.callers s.next s.rest more other) enum in
    record {
      change = Same;
      keeps = h.keeps;
      outcome = start ∙ ap (λ (o : Option Bool). on_some o (λ b. goes s.program s.state s.frame s.callers s.next (of_bool b ∷ s.rest))) (asked ∙ sym (c.in-Some-false.ensures s h.keeps k) ∙ ap Some c.in-Some-false.field-0-test);
    }
