use Rattle.std.proofs.Common.{ap, ◌∙◌}
use Rattle.board_types.specs.declared.board.Known.TheVariants.{ArgumentNull}
use Rattle.machine.specs.Data.{Value}
use Rattle.machine.specs.Throw.{on_some, raise}
use Rattle.machine.specs.Rows.{on_elements}
use Rattle.machine.specs.Natives.{on_array_or_null}
use Rattle.tiny_ops.specs.Operators.{stack_value}
use Rattle.tiny_native.proofs.ThingKinds.{ArrayNamed, array_named}
use Rattle.tiny_native.proofs.arrays.copy_from_null.Goals as goal

pub returns-in-Null : goal.returns-in-Null
returns-in-Null c s h n = (h.keeps, ap (λ v. on_array_or_null s.state.heap (stack_value s.leads v) (raise s.program s.state ArgumentNull)) (c.in-Null.ensures s h.keeps n))

pub returns-in-Thing : goal.returns-in-Thing
returns-in-Thing c s h n =
    let t : ArrayNamed s c.args.target c.in-Thing.field-0 c.in-Thing.field-1 = array_named s c.args.target c.in-Thing.field-0 c.in-Thing.field-1 (c.in-Thing.ensures s h.keeps n) in
    (h.keeps, ap (λ (w : Value). on_array_or_null s.state.heap w (raise s.program s.state ArgumentNull)) t.value ∙ ap (λ o. on_some o (λ x. on_elements x (λ element values. raise s.program s.state ArgumentNull))) t.at)
