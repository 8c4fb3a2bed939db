use Rattle.std.proofs.Common.{◌∙◌, sym}
use Rattle.member_keys.specs.Seen.{class_seen}
use Rattle.class_targets.proofs.RowLaws.{owner_at, not_listed, listed_at}
use Rattle.class_targets.proofs.rows.owned_method.Goals as goal

pub returns-then-has_method : goal.returns-then-has_method
returns-then-has_method c = (
  owner_at c.args.table.now (class_seen c.args.method) c.in_ok-row.row.now (sym c.in_ok-row.ensures) c.in_ok-row-2.field-0 c.in_ok-row-2.was,
  listed_at c.args.table.now (class_seen c.args.method) c.in_ok-row.row.now (sym c.in_ok-row.ensures) c.in_ok-row-2.field-0 c.in_ok-row-2.was c.in_ok-class.class.now (sym c.in_ok-class.ensures) (sym c.has_method.ensures ∙ c.if-has_method.true),
)

pub returns-else-has_method : goal.returns-else-has_method
returns-else-has_method c = not_listed c.args.table.now (class_seen c.args.method) c.in_ok-row.row.now (sym c.in_ok-row.ensures) c.in_ok-row-2.field-0 c.in_ok-row-2.was c.in_ok-class.class.now (sym c.in_ok-class.ensures) (sym c.has_method.ensures ∙ c.if-has_method.false)
