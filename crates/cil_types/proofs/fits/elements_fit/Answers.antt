use Rattle.std.proofs.Common.{◌≡◌, ◌∙◌, Bool, ap, subst, sym}
use Rattle.std.specs.Prelude.{IfOk}
use Rattle.machine_typed.specs.Typing.{agrees}
use Rattle.class_table.specs.Seen.{classes_seen}
use Rattle.cil_types.specs.Rows.{base_in, type_in}
use Rattle.cil_types.proofs.FitLaws.{other_elements, reference_elements}
use Rattle.cil_types.proofs.fits.elements_fit.Goals as goal

pub returns-then-refer_inside : goal.returns-then-refer_inside
returns-then-refer_inside c =
    let told = reference_elements (classes_seen c.args.order.now.table.now) (base_in c.args.from.now) (base_in c.args.to.now) c.base_of.result c.base_of-then-refer_inside.result c.base_of.ensures c.base_of-then-refer_inside.ensures (sym c.refer_inside.ensures ∙ c.if-refer_inside.true) in
    let P : Bool → Type 0 = λ x. IfOk c.fits.result (λ answer. answer ≡ x) in
    subst P (sym told) c.fits.ensures

pub returns-else-refer_inside : goal.returns-else-refer_inside
returns-else-refer_inside c =
    c.is_agreeing.ensures
    ∙ ap (λ x. agrees x (type_in c.inside-else-refer_inside.result)) c.inside.ensures
    ∙ ap (agrees (base_in c.args.from.now)) c.inside-else-refer_inside.ensures
    ∙ sym (other_elements (classes_seen c.args.order.now.table.now) (base_in c.args.from.now) (base_in c.args.to.now) (sym c.refer_inside.ensures ∙ c.if-refer_inside.false))
