use Rattle.std.proofs.Common.{◌≡◌, ◌<◌, true, false, Bool, length, sym, ap, ◌∙◌, arith}
use Rattle.std.specs.Prelude.{◌&&◌}
use Rattle.board_types.specs.declared.value.Shape.{Shape}
use Rattle.machine.specs.Data.{CliType, Value, Thing, Boxed, type_eq}
use Rattle.machine.specs.Natives.{same_number_value, is_box_of}
use Rattle.tiny_ops.specs.Operators.{stack_value}
use Rattle.tiny_ram.specs.Memory.{shown, entry_value}
use Rattle.board_ids.specs.Ids.{cli_type}
use Rattle.tiny_native.specs.Seen.{IsBox, kind_of}
use Rattle.tiny_native.proofs.ThingKinds.{boxed_of}
use Rattle.tiny_native.proofs.TypeSame.{tested_types}
use Rattle.tiny_native.proofs.BoxEquals.{no_box_of}
use Rattle.tiny_native.proofs.objects.is_box_of.Goals as goal

pub returns-then-same_type : goal.returns-then-same_type
returns-then-same_type c s n keeps =
    let shape : c.shape-shape.result ≡ n.entry.shape = c.shape-shape.ensures.thing s.memory n.entry keeps n.is in
    let kind : kind_of n.object ≡ 3 = sym n.kind ∙ sym (ap (λ (x : Shape). x.what) shape) ∙ c.if-shape-eq-BOX.true in
    let t : (type : CliType) × (value : Value) × (n.object ≡ Boxed type value) × IsBox s.leads n.entry type value = boxed_of s.leads n.entry n.object n.holds kind in
    let own : t.0 ≡ cli_type c.shape-shape.result.of = sym t.3.typed ∙ sym (ap (λ (x : Shape). cli_type x.of) shape) in
    let types : type_eq t.0 (cli_type c.args.of) ≡ true = ap (λ (x : CliType). type_eq x (cli_type c.args.of)) own ∙ sym (tested_types c.shape-shape.result.of c.args.of) ∙ sym c.same_type.ensures ∙ c.if-same_type.true in
    let some : 0 < length n.entry.places = omega (arith, t.3.one) in
    let value : stack_value s.leads c.unboxed.result ≡ t.1 =
    ap (stack_value s.leads) (c.unboxed.ensures s.memory n.entry keeps n.is some ∙ ap (λ (x : Shape). shown x.of.elem (entry_value n.entry 0)) shape) ∙ t.3.held in
    c.same_number.ensures s.leads
    ∙ ap (λ (w : Value). same_number_value w (stack_value s.leads c.args.value)) value
    ∙ sym (ap (λ (b : Bool). b && same_number_value t.1 (stack_value s.leads c.args.value)) types)
    ∙ sym (ap (λ (x : Thing). is_box_of (cli_type c.args.of) (stack_value s.leads c.args.value) x) t.2)

pub returns-else-same_type : goal.returns-else-same_type
returns-else-same_type c s n keeps =
    let shape : c.shape-shape.result ≡ n.entry.shape = c.shape-shape.ensures.thing s.memory n.entry keeps n.is in
    let kind : kind_of n.object ≡ 3 = sym n.kind ∙ sym (ap (λ (x : Shape). x.what) shape) ∙ c.if-shape-eq-BOX.true in
    let t : (type : CliType) × (value : Value) × (n.object ≡ Boxed type value) × IsBox s.leads n.entry type value = boxed_of s.leads n.entry n.object n.holds kind in
    let own : t.0 ≡ cli_type c.shape-shape.result.of = sym t.3.typed ∙ sym (ap (λ (x : Shape). cli_type x.of) shape) in
    let types : type_eq t.0 (cli_type c.args.of) ≡ false = ap (λ (x : CliType). type_eq x (cli_type c.args.of)) own ∙ sym (tested_types c.shape-shape.result.of c.args.of) ∙ sym c.same_type.ensures ∙ c.if-same_type.false in
    c.if-same_type.false
    ∙ sym (ap (λ (b : Bool). b && same_number_value t.1 (stack_value s.leads c.args.value)) types)
    ∙ sym (ap (λ (x : Thing). is_box_of (cli_type c.args.of) (stack_value s.leads c.args.value) x) t.2)

pub returns-else-shape-eq-BOX : goal.returns-else-shape-eq-BOX
returns-else-shape-eq-BOX c s n keeps =
    let shape : c.shape-shape.result ≡ n.entry.shape = c.shape-shape.ensures.thing s.memory n.entry keeps n.is in
    sym (no_box_of (cli_type c.args.of) (stack_value s.leads c.args.value) n.object (λ q. c.if-shape-eq-BOX.false (ap (λ (x : Shape). x.what) shape ∙ n.kind ∙ q)))
