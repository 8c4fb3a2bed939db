use Rattle.std.proofs.Common.{subst, ◌≤◌}
use Rattle.tiny_clauses.proofs.ClauseLaws.{none_there}
use Rattle.tiny_clauses.proofs.clauses.clause.Goals as goal

pub returns-else-method-rows : goal.returns-else-method-rows
returns-else-method-rows c = none_there c.args.image.now c.has_rows.ensures c.args.method c.args.k (subst (λ n. n ≤ c.args.method) c.rows.ensures c.if-method-rows.false)
