use Rattle.std.proofs.Common.{◌≡◌, ℕ, ◌-◌, [], sym, ap, ◌∙◌, subst}
use Rattle.board_types.specs.declared.value.Shape.{Shape}
use Rattle.machine.specs.Data.{CliType, Value}
use Rattle.machine.specs.Natives.{copy_elements}
use Rattle.tiny_ops.specs.Operators.{stack_value}
use Rattle.board_ids.specs.Ids.{cli_type}
use Rattle.tiny_native.specs.Copies.{elements_of, copied_onto, elements_copied}
use Rattle.tiny_native.specs.Ends.{Meets}
use Rattle.tiny_native.proofs.ThingKinds.{ArrayNamed, array_named}
use Rattle.tiny_native.proofs.CopyOutcomes.{onto_array}
use Rattle.tiny_native.proofs.arrays.copy_to.Goals as goal

pub returns-in-Null : goal.returns-in-Null
returns-in-Null c s d h a n = (h.keeps, ap (λ v. copied_onto s (stack_value s.leads v) d c.args.by.from c.args.by.to c.args.by.count) (c.in-Null.ensures s h.keeps n))

pub returns-in-Thing : goal.returns-in-Thing
returns-in-Thing c s d h a n =
    let thing : ℕ = c.in-Thing.thing in
    let shape : Shape = c.in-Thing.shape in
    let t : ArrayNamed s c.args.target thing shape = array_named s c.args.target thing shape (c.in-Thing.ensures s h.keeps n) in
    let outcome : copied_onto s (stack_value s.leads c.args.target) d c.args.by.from c.args.by.to c.args.by.count ≡ elements_copied s thing d t.entry c.args.by.from c.args.by.to c.args.by.count =
    ap (λ (w : Value). copied_onto s w d c.args.by.from c.args.by.to c.args.by.count) t.value
    ∙ onto_array s.program s.state s.frame s.callers s.next s.rest [] (thing - 1) (cli_type d.shape.of) t.element (elements_of s d) t.values c.args.by.from c.args.by.to c.args.by.count t.at
    ∙ ap (λ (y : CliType). copy_elements s.program s.state s.frame s.callers s.next s.rest (thing - 1) (cli_type d.shape.of) (elements_of s d) y t.values c.args.by.from c.args.by.to c.args.by.count) (sym t.array.typed)
    ∙ ap (λ ws. copy_elements s.program s.state s.frame s.callers s.next s.rest (thing - 1) (cli_type d.shape.of) (elements_of s d) (cli_type t.entry.shape.of) ws c.args.by.from c.args.by.to c.args.by.count) (sym t.array.held) in
    subst (λ o. Meets s c.copy_elements.new.ram o c.copy_elements.result) (sym outcome)
    (c.copy_elements.ensures s d t.entry h a (record { is = t.is; same = t.same; what = t.what; cell = t.array.cell; packed = t.array.packed }))
