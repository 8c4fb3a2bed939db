use Rattle.std.proofs.Common.{Some, ap, ◌∙◌}
use Rattle.std.specs.Prelude.{nat_eq, not}
use Rattle.boot_scan.proofs.SeenLaws.{viewed_none, viewed_size, viewed_entry}
use Rattle.boot_scan.proofs.image.image_at.Goals as goal

pub returns-in-Err-clause-size : goal.returns-in-Err-clause-size
returns-in-Err-clause-size c = viewed_none c.args.bytes.now c.in-Err.ensures

pub returns-in-Ok-clause-size : goal.returns-in-Ok-clause-size
returns-in-Ok-clause-size c = ap Some c.size.ensures ∙ viewed_size c.args.bytes.now c.in-Ok.image c.in-Ok.ensures

pub returns-in-Ok-clause-entry : goal.returns-in-Ok-clause-entry
returns-in-Ok-clause-entry c = ap (λ n. not (nat_eq n 65535)) c.entry.ensures ∙ viewed_entry c.args.bytes.now c.in-Ok.image c.in-Ok.ensures
