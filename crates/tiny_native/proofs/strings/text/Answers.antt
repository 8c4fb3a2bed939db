use Rattle.std.proofs.Common.{ℕ, None, Some, refl, ap, ◌∙◌}
use Rattle.machine.specs.Natives.{text_at, units_of}
use Rattle.machine.specs.Throw.{on_some}
use Rattle.std.specs.Option.{option_map}
use Rattle.board_types.specs.declared.value.Shape.{Shape}
use Rattle.tiny_ops.specs.Operators.{stack_value}
use Rattle.tiny_native.proofs.ThingKinds.{TextNamed, text_named, text_lacks}
use Rattle.tiny_native.proofs.strings.text.Goals as goal

pub returns-in-Null : goal.returns-in-Null
returns-in-Null c s keeps n =
    let v = c.in-Null.ensures s keeps n in
    record { text = None; at = ap (λ w. text_at s.state.heap (stack_value s.leads w)) v; value = v; is = (refl, refl) }

pub returns-in-Thing : goal.returns-in-Thing
returns-in-Thing c s keeps n =
    let thing : ℕ = c.in-Thing.thing in
    let shape : Shape = c.in-Thing.shape in
    let f = c.in-Thing.ensures s keeps n in
    let t : TextNamed s c.args.value thing shape = text_named s c.args.value thing shape f in
    record {
      text = Some t.units;
      at = ap (text_at s.state.heap) t.value ∙ ap (λ o. on_some o (λ x. option_map Some (units_of x))) t.at;
      value = f.value;
      is = (f.some, t.count, t.is);
    }

pub returns-in-Other : goal.returns-in-Other
returns-in-Other c s keeps n = text_lacks s.state.heap (stack_value s.leads c.args.value) (c.in-Other.ensures s keeps n)
