use Rattle.std.proofs.Common.{◌≡◌, ℕ, ◌-◌, ◌<◌, ◌==◌, ◌∷◌, List, sym, ap, ◌∙◌, subst, arith}
use Rattle.board_types.specs.declared.board.BoardType.{BoardType}
use Rattle.board_types.specs.declared.value.Shape.{Shape}
use Rattle.machine.specs.Program.{ObjectToString}
use Rattle.machine.specs.Natives.{new_text, object_to_string}
use Rattle.tiny_ops.specs.Operators.{reference, stack_value}
use Rattle.tiny_native.specs.Seen.{Named, ValueNamed, ValueTold, NameTold, kind_of}
use Rattle.tiny_native.specs.Told.{bracketed}
use Rattle.tiny_native.proofs.ThingKinds.{object_of}
use Rattle.tiny_native.proofs.Made.{text_meets}
use Rattle.tiny_native.proofs.Naming.{object_text, object_null, object_none, static_none, name_text}
use Rattle.tiny_native.proofs.names.to_string.Goals as goal

pub returns-in_default : goal.returns-in_default
returns-in_default g c s more h n told = (h.keeps, object_none s.program s.state s.frame s.callers s.next s.rest more s.leads c.args.this c.in_default.not-Ref)

pub returns-then-thing-eq0 : goal.returns-then-thing-eq0
returns-then-thing-eq0 g c s more h n told = (
  h.keeps,
  ap (λ v. object_to_string s.program s.state s.frame s.callers s.next s.rest (stack_value s.leads v ∷ more)) c.in-Ref.is
      ∙ ap (λ k. object_to_string s.program s.state s.frame s.callers s.next s.rest (reference k ∷ more)) c.if-thing-eq0.true
      ∙ object_null s.program s.state s.frame s.callers s.next s.rest more,
)

pub returns-then-shape-eq-STATIC : goal.returns-then-shape-eq-STATIC
returns-then-shape-eq-STATIC g c s more h n told =
    let thing : ℕ = c.in-Ref.thing in
    let some : 0 < thing = omega (arith, c.if-thing-eq0.false) in
    let t : Named s thing = subst (ValueNamed s) c.in-Ref.is n some in
    let shape : c.shape-shape.result ≡ t.entry.shape = c.shape-shape.ensures.thing s.memory t.entry h.keeps t.is in
    let static : kind_of t.object ≡ 5 = sym t.kind ∙ sym (ap (λ (x : Shape). x.what) shape) ∙ c.if-shape-eq-STATIC.true in (
      h.keeps,
      ap (λ v. object_to_string s.program s.state s.frame s.callers s.next s.rest (v ∷ more)) (ap (stack_value s.leads) c.in-Ref.is ∙ object_of thing some)
          ∙ object_text s.program s.state s.frame s.callers s.next s.rest more (thing - 1) t.object t.at
          ∙ static_none s.program s.state s.frame s.callers s.next s.rest more t.object static,
    )

pub returns : goal.returns
returns g c s more h n told =
    let thing : ℕ = c.in-Ref.thing in
    let some : 0 < thing = omega (arith, c.if-thing-eq0.false) in
    let t : Named s thing = subst (ValueNamed s) c.in-Ref.is n some in
    let shape : c.shape-shape.result ≡ t.entry.shape = c.shape-shape.ensures.thing s.memory t.entry h.keeps t.is in
    let name : BoardType → List ℕ = g.S.Subclass.name c.args.types.now in
    let known : NameTold s name thing = subst (ValueTold s name (g.S.Subclass.bytes c.args.types.now) ObjectToString) c.in-Ref.is told in
    let live : kind_of t.object ≡ 5 → ⊥ = λ q. c.if-shape-eq-STATIC.false (ap (λ (x : Shape). x.what) shape ∙ t.kind ∙ q) in
    let units : List ℕ = bracketed (c.shape-shape.result.what == 1) (name c.shape-shape.result.of) in
    let outcome : object_to_string s.program s.state s.frame s.callers s.next s.rest (stack_value s.leads c.args.this ∷ more) ≡ new_text s.program s.state s.frame s.callers s.next s.rest units =
    ap (λ v. object_to_string s.program s.state s.frame s.callers s.next s.rest (v ∷ more)) (ap (stack_value s.leads) c.in-Ref.is ∙ object_of thing some)
    ∙ object_text s.program s.state s.frame s.callers s.next s.rest more (thing - 1) t.object t.at
    ∙ name_text s.program s.state s.frame s.callers s.next s.rest more s.leads t.entry t.object (name t.entry.shape.of) t.kind t.holds live (λ type e. known.told t.entry t.object type t.is t.at e)
    ∙ ap (λ (x : Shape). new_text s.program s.state s.frame s.callers s.next s.rest (bracketed (x.what == 1) (name x.of))) (sym shape) in
    text_meets s c.name_text.new.ram units (object_to_string s.program s.state s.frame s.callers s.next s.rest (stack_value s.leads c.args.this ∷ more)) c.name_text.result h.cells outcome (c.name_text.ensures s.memory h.keeps)
