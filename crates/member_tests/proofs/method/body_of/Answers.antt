use Rattle.std.proofs.Common.{sym, ◌∙◌}
use Rattle.class_table.specs.Seen.{method_seen}
use Rattle.member_tests.proofs.MethodLaws.{body_coded, body_own}
use Rattle.member_tests.proofs.method.body_of.Goals as goal

pub returns-then-is_internal : goal.returns-then-is_internal
returns-then-is_internal c = λ file n. body_coded c.args.row.now (method_seen file n c.args.method.now) (sym c.is_internal.ensures ∙ c.if-is_internal.true)

pub returns-else-is_internal : goal.returns-else-is_internal
returns-else-is_internal c = λ file n. body_own c.args.row.now (method_seen file n c.args.method.now) (sym c.is_internal.ensures ∙ c.if-is_internal.false)
