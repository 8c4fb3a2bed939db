use Rattle.std.proofs.Common.{subst}
use Rattle.world_rows.specs.Looked.{named_by_types}
use Rattle.looked_rows.specs.Looked.{Looks}
use Rattle.looked_rows.proofs.SignatureLaws.{method_marked}
use Rattle.looked_rows.proofs.signature.mark_method.Goals as goal

pub returns-in-Ok : goal.returns-in-Ok
returns-in-Ok c =
    method_marked c.args.blob.now c.in-Ok.of c.args.looked.now c.mark_type.new.looked c.mark_types.new.looked c.in-Ok.ensures.exact c.mark_type.ensures
    (subst (λ ts. Looks (named_by_types ts) c.mark_type.new.looked c.mark_types.new.looked) c.as_slice.ensures c.mark_types.ensures)
