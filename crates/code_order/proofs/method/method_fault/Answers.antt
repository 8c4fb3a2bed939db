use Rattle.std.proofs.Common.{◌<◌, Some, sym, ap, ◌∙◌, subst}
use Rattle.std.proofs.lemmas.Result.{IfOk-weaker}
use Rattle.code_order.proofs.PhaseLaws.{count_is, sound_told, unsound_told}
use Rattle.code_order.proofs.method.method_fault.Goals as goal

pub method_body-requires-clause-row : goal.method_body-requires-clause-row
method_body-requires-clause-row c =
    subst (λ k. c.args.n < k) (sym (count_is c.args.judge.now.subject.now.world.now c.args.file c.tables-tables.result.now c.tables-tables.ensures)) c.requires.row

pub returns-in_ok-listing-in-Some-clause-told : goal.returns-in_ok-listing-in-Some-clause-told
returns-in_ok-listing-in-Some-clause-told c =
    let files = c.args.judge.now.subject.now.world.now in
    IfOk-weaker c.listing_fault.result _ _
    (λ fault told.
    sound_told files c.args.file c.args.n c.args.sections.now c.tables-tables.result.now c.requires.sections c.tables-tables.ensures c.method_body.result c.method_body.ensures.body _ fault (c.in-Some.is ∙ ap Some (sym c.in_ok-listing-in-Some.ensures)) told)
    c.listing_fault.ensures

pub returns-in-None-clause-told : goal.returns-in-None-clause-told
returns-in-None-clause-told c =
    let files = c.args.judge.now.subject.now.world.now in
    unsound_told files c.args.file c.args.n c.args.sections.now c.tables-tables.result.now c.requires.sections c.tables-tables.ensures c.method_body.result c.method_body.ensures.body c.refusal.result c.in-None.is c.refusal.ensures
