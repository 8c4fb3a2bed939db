use Rattle.std.proofs.Common.{◌≡◌, ◌∙◌, length, Some, None, sym, ap, subst, refl, arith}
use Rattle.std.specs.Prelude.{slice_get}
use Rattle.std.specs.Option.{option_copied}
use Rattle.std.specs.Result.{IfOk}
use Rattle.class_slots.specs.Own.{AreClipped, InClass}
use Rattle.class_slots.proofs.own.rows_in.Goals as goal

pub returns-in-Some : goal.returns-in-Some
returns-in-Some c =
    let f = c.args.file.now in
    let at : slice_get f.classes.items c.args.class ≡ Some c.in-Some.row.now = sym c.find_row.ensures ∙ ap option_copied c.in-Some.is in
    let k = c.in-Some.row.now in
    let long : c.len.result ≡ length f.methods.items = omega (arith, c.len.ensures, f.methods.ok) in
    subst (λ o. IfOk c.clip.result (λ r. InClass f r o)) (sym at) (subst (λ n. IfOk c.clip.result (AreClipped n k.first_method k.method_count)) long c.clip.ensures)

pub returns-in-None : goal.returns-in-None
returns-in-None c =
    let f = c.args.file.now in
    let at : slice_get f.classes.items c.args.class ≡ None = sym c.find_row.ensures ∙ ap option_copied c.in-None.is in
    subst (λ o. InClass f (record { start = 0; end = 0 }) o) (sym at) (refl, refl)
