use Rattle.std.proofs.Common.{sym, subst, OnOk}
use Rattle.row_rules.specs.Links.{row_at, keeps_each, Adds}
use Rattle.row_rules.proofs.SignatureLaws.{spec_read, spec_faulty}
use Rattle.row_rules.proofs.signature.keep_spec.Goals as goal

pub returns-in-Ok : goal.returns-in-Ok
returns-in-Ok c =
    subst (λ cs. OnOk c.keep_type.result (Adds (keeps_each (row_at c.args.place) cs) c.args.rules.now c.keep_type.new.rules))
    (sym (spec_read c.args.place.file c.args.tables.now c.args.blob.now c.in-Ok.of c.in-Ok.ensures.exact))
    c.keep_type.ensures

pub returns-in-Err : goal.returns-in-Err
returns-in-Err c =
    subst (λ cs. OnOk c.keep_none.result (Adds (keeps_each (row_at c.args.place) cs) c.args.rules.now c.keep_none.new.rules))
    (sym (spec_faulty c.args.place.file c.args.tables.now c.args.blob.now c.in-Err.field-0 c.in-Err.ensures.exact))
    c.keep_none.ensures
