use Rattle.std.proofs.Common.{sym, ap, ◌∙◌}
use Rattle.tiny_members.specs.Rows.{token_seen}
use Rattle.tiny_clauses.specs.declared.clauses.ClauseKind.{ClauseKind}
use Rattle.tiny_clauses.specs.Clauses.{kind_seen}
use Rattle.set_names.specs.Names.{seen_all}
use Rattle.bound_answers.specs.Told.{class_taken, type_at}
use Rattle.bound_answers.proofs.SetLaws.{named_there}
use Rattle.bound_answers.proofs.clauses.class_taken.Goals as goal

pub type_at-requires : goal.type_at-requires
type_at-requires c = named_there (seen_all c.args.set.now) c.args.file (token_seen c.in-Catch.token) c.named.result c.named.ensures

pub returns-in-Catch : goal.returns-in-Catch
returns-in-Catch c = c.type_at.ensures ∙ ap type_at c.named.ensures ∙ ap (λ (k : ClauseKind). class_taken (seen_all c.args.set.now) c.args.file (kind_seen k)) (sym c.in-Catch.is)
