use Rattle.std.proofs.Common.{◌≡◌, sym, ◌∙◌, ap, subst, Option, IfOk}
use Rattle.plain_types.specs.declared.fault.Fault.{Fault}
use Rattle.profile_order.specs.Told.{tables_told}
use Rattle.profile_order.proofs.OrderLaws.{file_kept, file_broken}
use Rattle.profile_order.proofs.order.file_fault.Goals as goal

pub returns-in-Some : goal.returns-in-Some
returns-in-Some c =
    let files = c.args.judge.now.subject.now.world.now in
    sym (file_broken files c.args.file c.args.phase c.in-Some.fault c.requires.file (ap (tables_told files c.args.file) (sym c.tables.ensures) ∙ (sym c.in_ok-fault.ensures ∙ c.in-Some.is)))

pub returns-in-None : goal.returns-in-None
returns-in-None c =
    let files = c.args.judge.now.subject.now.world.now in
    subst (λ (told : Option Fault). IfOk c.whole_fault.result (λ fault. fault ≡ told))
    (sym (file_kept files c.args.file c.args.phase c.requires.file (ap (tables_told files c.args.file) (sym c.tables.ensures) ∙ (sym c.in_ok-fault.ensures ∙ c.in-None.is))))
    c.whole_fault.ensures
