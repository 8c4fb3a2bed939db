use Rattle.std.proofs.Common.{◌≡◌, sym, subst, OnOk}
use Rattle.std.specs.List.{flat_map}
use Rattle.cil_sig.specs.declared.sig.SigFault.TheVariants.{Bad}
use Rattle.row_rules.specs.Links.{row_at, keeps_each, Adds}
use Rattle.row_rules.specs.Named.{in_sig}
use Rattle.row_rules.proofs.LinkLaws.{adds_none}
use Rattle.row_rules.proofs.SignatureLaws.{locals_read, locals_faulty}
use Rattle.row_rules.proofs.signature.keep_locals.Goals as goal

pub returns-in-Ok : goal.returns-in-Ok
returns-in-Ok c =
    let m = c.args.tables.now in
    let file = c.args.place.file in
    let r = row_at c.args.place in
    subst (λ cs. OnOk c.keep_types.result (Adds (keeps_each r cs) c.args.rules.now c.keep_types.new.rules))
    (sym (locals_read file m c.args.blob.now c.in-Ok.types c.in-Ok.ensures.exact))
    (subst (λ ts. OnOk c.keep_types.result (Adds (keeps_each r (flat_map (in_sig file m) ts)) c.args.rules.now c.keep_types.new.rules)) c.as_slice.ensures c.keep_types.ensures)

pub returns-in-Err-Bad : goal.returns-in-Err-Bad
returns-in-Err-Bad c =
    let same : c.in-Err-Bad.field-0 ≡ Bad c.in-Err-Bad.field-0-0 = cc c.in-Err-Bad.field-0-is in
    subst (λ cs. Adds (keeps_each (row_at c.args.place) cs) c.args.rules.now c.args.rules.now)
    (sym (locals_faulty c.args.place.file c.args.tables.now c.args.blob.now c.in-Err-Bad.field-0 c.in-Err-Bad.field-0-0 same c.in-Err-Bad.ensures.exact))
    (adds_none c.args.rules.now)
