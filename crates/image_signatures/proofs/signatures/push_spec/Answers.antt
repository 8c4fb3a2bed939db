use Rattle.std.proofs.Common.{◌≡◌, ◌++◌, subst, OnOk}
use Rattle.image_signatures.proofs.SpellLaws.{spec_read, spec_faulty}
use Rattle.kept_marks.specs.Masks.{masks_of}
use Rattle.image_signatures.proofs.signatures.push_spec.Goals as goal

pub returns-in-Ok : goal.returns-in-Ok
returns-in-Ok c =
    subst (λ bs. OnOk c.push_type.result (c.push_type.new.out.items ≡ c.args.out.now.items ++ bs))
    (spec_read (masks_of c.args.choice.now) c.args.tables.now c.args.blob.now c.in-Ok.of c.in-Ok.ensures.exact)
    c.push_type.ensures

pub returns-in-Err : goal.returns-in-Err
returns-in-Err c =
    subst (λ bs. OnOk c.push_none.result (c.push_none.new.out.items ≡ c.args.out.now.items ++ bs))
    (spec_faulty (masks_of c.args.choice.now) c.args.tables.now c.args.blob.now c.in-Err.field-0 c.in-Err.ensures.exact)
    c.push_none.ensures
