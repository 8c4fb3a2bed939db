use Rattle.std.proofs.Common.{◌≡◌, sym, subst, OnOk}
use Rattle.std.specs.List.{flat_map}
use Rattle.std.proofs.lemmas.Result.{on_ok_weaker}
use Rattle.cil_sig.specs.declared.sig.SigFault.TheVariants.{Bad}
use Rattle.row_rules.specs.Links.{row_at, keeps_each, Adds}
use Rattle.row_rules.specs.Named.{in_sig}
use Rattle.row_rules.proofs.LinkLaws.{keeps_after}
use Rattle.row_rules.proofs.SignatureLaws.{method_read, method_faulty}
use Rattle.row_rules.proofs.signature.keep_method.Goals as goal

pub returns-in_ok-keep_type-in-Ok : goal.returns-in_ok-keep_type-in-Ok
returns-in_ok-keep_type-in-Ok c =
    let m = c.args.tables.now in
    let file = c.args.place.file in
    let r = row_at c.args.place in
    let of = c.in-Ok.of in
    subst (λ cs. OnOk c.keep_types.result (Adds (keeps_each r cs) c.args.rules.now c.keep_types.new.rules))
    (sym (method_read file m c.args.blob.now of c.in-Ok.ensures.exact))
    (on_ok_weaker c.keep_types.result
    (keeps_after r (in_sig file m of.returns) (flat_map (in_sig file m) of.params) c.args.rules.now c.keep_type.new.rules c.keep_types.new.rules c.in_ok-keep_type-in-Ok.ensures)
    (subst (λ ts. OnOk c.keep_types.result (Adds (keeps_each r (flat_map (in_sig file m) ts)) c.keep_type.new.rules c.keep_types.new.rules)) c.as_slice.ensures c.keep_types.ensures))

pub returns-in-Err-Bad : goal.returns-in-Err-Bad
returns-in-Err-Bad c =
    let same : c.in-Err-Bad.field-0 ≡ Bad c.in-Err-Bad.field-0-0 = cc c.in-Err-Bad.field-0-is in
    subst (λ cs. OnOk c.keep_none.result (Adds (keeps_each (row_at c.args.place) cs) c.args.rules.now c.keep_none.new.rules))
    (sym (method_faulty c.args.place.file c.args.tables.now c.args.blob.now c.in-Err-Bad.field-0 c.in-Err-Bad.field-0-0 same c.in-Err-Bad.ensures.exact))
    c.keep_none.ensures
