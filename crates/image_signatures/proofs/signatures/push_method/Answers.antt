use Rattle.std.proofs.Common.{◌≡◌, ◌++◌, subst, OnOk}
use Rattle.cil_sig.specs.declared.sig.SigFault.TheVariants.{Bad}
use Rattle.image_signatures.proofs.SpellLaws.{method_read, method_faulty}
use Rattle.kept_marks.specs.Masks.{masks_of}
use Rattle.image_signatures.proofs.signatures.push_method.Goals as goal

pub returns-in-Ok : goal.returns-in-Ok
returns-in-Ok c =
    subst (λ bs. OnOk c.push_read.result (c.push_read.new.out.items ≡ c.args.out.now.items ++ bs))
    (method_read (masks_of c.args.choice.now) c.args.tables.now c.args.blob.now c.in-Ok.of c.in-Ok.ensures.exact)
    c.push_read.ensures

pub returns-in-Err-Bad : goal.returns-in-Err-Bad
returns-in-Err-Bad c =
    let same : c.in-Err-Bad.field-0 ≡ Bad c.in-Err-Bad.field-0-0 = cc c.in-Err-Bad.field-0-is in
    subst (λ bs. OnOk c.push_unread.result (c.push_unread.new.out.items ≡ c.args.out.now.items ++ bs))
    (method_faulty (masks_of c.args.choice.now) c.args.tables.now c.args.blob.now c.in-Err-Bad.field-0 c.in-Err-Bad.field-0-0 same c.in-Err-Bad.ensures.exact)
    c.push_unread.ensures
