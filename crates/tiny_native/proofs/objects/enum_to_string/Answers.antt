use Rattle.std.proofs.Common.{◌≡◌, ◌∷◌, ℕ, ◌-◌, ◌<◌, true, false, Option, length, sym, ap, ◌∙◌, subst, arith}
use Rattle.std.specs.Option.{option_map}
use Rattle.board_types.specs.declared.value.Shape.{Shape}
use Rattle.machine.specs.Data.{Value, Cell, cell_of}
use Rattle.machine.specs.Natives.{enum_to_string}
use Rattle.ram_words.specs.Elements.{cell_in}
use Rattle.tiny_ops.specs.Operators.{stack_value}
use Rattle.tiny_ram.specs.Memory.{shown, entry_value}
use Rattle.board_ids.specs.Ids.{cli_type}
use Rattle.tiny_native.specs.Types.{is_enum_type}
use Rattle.tiny_native.specs.Copies.{number_in_text}
use Rattle.tiny_native.specs.Ends.{Meets}
use Rattle.tiny_native.proofs.ThingKinds.{BoxNamed, box_named}
use Rattle.tiny_native.proofs.TypeLemmas.{cell_held}
use Rattle.tiny_native.proofs.Enums.{text_on, enum_box, other_box, to_string_null, to_string_box, to_string_lacks}
use Rattle.tiny_native.proofs.objects.enum_to_string.Goals as goal

pub returns-in-Null : goal.returns-in-Null
returns-in-Null c s more h n = (
  h.keeps,
  ap (λ v. enum_to_string s.program s.state s.frame s.callers s.next s.rest (stack_value s.leads v ∷ more)) (c.in-Null.ensures s h.keeps n) ∙ to_string_null s.program s.state s.frame s.callers s.next s.rest more,
)

pub returns-in-Other : goal.returns-in-Other
returns-in-Other c s more h n = (h.keeps, to_string_lacks s.program s.state s.frame s.callers s.next s.rest more (stack_value s.leads c.args.this) (c.in-Other.ensures s h.keeps n))

pub returns-else-is_enum : goal.returns-else-is_enum
returns-else-is_enum c s more h n =
    let thing : ℕ = c.in-Thing.thing in
    let shape : Shape = c.in-Thing.shape in
    let t : BoxNamed s c.args.this thing shape = box_named s c.args.this thing shape (c.in-Thing.ensures s h.keeps n) in
    let other : is_enum_type t.type ≡ false = ap is_enum_type (sym t.box.typed ∙ sym (ap (λ (x : Shape). cli_type x.of) t.same)) ∙ sym c.is_enum.ensures ∙ c.if-is_enum.false in (
      h.keeps,
      ap (λ (w : Value). enum_to_string s.program s.state s.frame s.callers s.next s.rest (w ∷ more)) t.value
          ∙ to_string_box s.program s.state s.frame s.callers s.next s.rest more (thing - 1) t.type t.held t.at
          ∙ other_box t.type t.held (text_on s.program s.state s.frame s.callers s.next s.rest more) other,
    )

pub returns-then-is_enum : goal.returns-then-is_enum
returns-then-is_enum c s more h n =
    let thing : ℕ = c.in-Thing.thing in
    let shape : Shape = c.in-Thing.shape in
    let t : BoxNamed s c.args.this thing shape = box_named s c.args.this thing shape (c.in-Thing.ensures s h.keeps n) in
    let type : t.type ≡ cli_type shape.of = sym t.box.typed ∙ sym (ap (λ (x : Shape). cli_type x.of) t.same) in
    let enum : is_enum_type t.type ≡ true = ap is_enum_type type ∙ sym c.is_enum.ensures ∙ c.if-is_enum.true in
    let some : 0 < length t.entry.places = omega (arith, t.box.one) in
    let value : stack_value s.leads c.unboxed-value.result ≡ t.held =
    ap (stack_value s.leads) (c.unboxed-value.ensures s.memory t.entry h.keeps t.is some ∙ ap (λ (x : Shape). shown x.of.elem (entry_value t.entry 0)) t.same) ∙ t.box.held in
    let kind : cell_of t.type ≡ option_map cell_in c.kind_of.result = ap cell_of type ∙ cell_held shape.of ∙ sym c.kind_of.ensures in
    let outcome : enum_to_string s.program s.state s.frame s.callers s.next s.rest (stack_value s.leads c.args.this ∷ more) ≡ number_in_text s (option_map cell_in c.kind_of.result) (stack_value s.leads c.unboxed-value.result) =
    ap (λ (w : Value). enum_to_string s.program s.state s.frame s.callers s.next s.rest (w ∷ more)) t.value
    ∙ to_string_box s.program s.state s.frame s.callers s.next s.rest more (thing - 1) t.type t.held t.at
    ∙ enum_box t.type t.held (text_on s.program s.state s.frame s.callers s.next s.rest more) enum
    ∙ ap (λ (k : Option Cell). number_in_text s k t.held) kind
    ∙ ap (λ (v : Value). number_in_text s (option_map cell_in c.kind_of.result) v) (sym value) in
    subst (λ o. Meets s c.number_text.new.ram o c.number_text.result) (sym outcome) (c.number_text.ensures s h)
