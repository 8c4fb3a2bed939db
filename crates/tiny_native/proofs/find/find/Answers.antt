use Rattle.std.proofs.Common.{◌≡◌, ℕ, ◌<◌, sym, ap, ◌∙◌, subst, arith}
use Rattle.board_types.specs.declared.value.Shape.{Shape}
use Rattle.machine.specs.Data.{Value}
use Rattle.tiny_ops.specs.Operators.{stack_value}
use Rattle.tiny_native.specs.Seen.{Named, ValueNamed}
use Rattle.tiny_native.specs.Copies.{Lacks}
use Rattle.tiny_native.proofs.ThingKinds.{object_of}
use Rattle.tiny_native.proofs.find.find.Goals as goal

pub returns-then-shape-what : goal.returns-then-shape-what
returns-then-shape-what c s keeps named =
    let thing : ℕ = c.in-Ref.thing in
    let some : 0 < thing = omega (arith, c.if-thing-eq0.false) in
    let n : Named s thing = subst (ValueNamed s) c.in-Ref.is named some in
    let shape : c.shape-shape.result ≡ n.entry.shape = c.shape-shape.ensures.thing s.memory n.entry keeps n.is in
    record {
      some = some;
      value = c.in-Ref.is;
      named = n;
      same = shape;
      kind = sym n.kind ∙ sym (ap (λ (x : Shape). x.what) shape) ∙ c.if-shape-what.true;
    }

pub returns-else-shape-what : goal.returns-else-shape-what
returns-else-shape-what c s keeps named =
    let thing : ℕ = c.in-Ref.thing in
    let some : 0 < thing = omega (arith, c.if-thing-eq0.false) in
    let n : Named s thing = subst (ValueNamed s) c.in-Ref.is named some in
    let shape : c.shape-shape.result ≡ n.entry.shape = c.shape-shape.ensures.thing s.memory n.entry keeps n.is in
    subst (λ (v : Value). Lacks c.args.what s.state.heap v) (sym (ap (stack_value s.leads) c.in-Ref.is ∙ object_of thing some))
    (n.object, n.at, λ q. c.if-shape-what.false (ap (λ (x : Shape). x.what) shape ∙ n.kind ∙ q))
