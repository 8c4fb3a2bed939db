use Rattle.std.proofs.Common.{ap, ◌∙◌}
use Rattle.std.proofs.lemmas.Result.{IfOk-weaker}
use Rattle.verdict_rules.specs.World.{world_of}
use Rattle.code_order.specs.Told.{has_code}
use Rattle.code_order.proofs.PhaseLaws.{no_code, some_code}
use Rattle.code_order.proofs.method.row_fault.Goals as goal

pub returns-then-has_code-clause-told : goal.returns-then-has_code-clause-told
returns-then-has_code-clause-told c =
    let files = c.args.judge.now.subject.now.world.now in
    IfOk-weaker c.method_fault.result _ _
    (λ fault told judged.
    some_code files c.args.file c.args.n c.requires.file c.requires.row c.has_code.result fault c.if-has_code.true
    (λ x. c.has_code.ensures files x c.requires.judge.subject.table ∙ ap (λ f. has_code (world_of files) f x c.args.n) c.from.ensures)
    told judged)
    c.method_fault.ensures.told

pub returns-else-has_code-clause-told : goal.returns-else-has_code-clause-told
returns-else-has_code-clause-told c =
    let files = c.args.judge.now.subject.now.world.now in
    λ judged.
    no_code files c.args.file c.args.n c.requires.file c.requires.row c.has_code.result c.if-has_code.false
    (λ x. c.has_code.ensures files x c.requires.judge.subject.table ∙ ap (λ f. has_code (world_of files) f x c.args.n) c.from.ensures)
