use Rattle.std.proofs.Common.{◌∙◌, sym}
use Rattle.member_keys.specs.Seen.{class_seen}
use Rattle.method_facts.proofs.FieldLaws.{owner_at, not_listed, listed_at}
use Rattle.method_facts.proofs.field.owned_field.Goals as goal

pub returns-then-has_field : goal.returns-then-has_field
returns-then-has_field c = (
  owner_at c.args.table.now (class_seen c.args.field) c.in_ok-row.row (sym c.in_ok-row.ensures) c.in_ok-row-2.field-0 c.in_ok-row-2.was,
  listed_at c.args.table.now (class_seen c.args.field) c.in_ok-row.row (sym c.in_ok-row.ensures) c.in_ok-row-2.field-0 c.in_ok-row-2.was c.in_ok-class.class.now (sym c.in_ok-class.ensures) (sym c.has_field.ensures ∙ c.if-has_field.true),
)

pub returns-else-has_field : goal.returns-else-has_field
returns-else-has_field c = not_listed c.args.table.now (class_seen c.args.field) c.in_ok-row.row (sym c.in_ok-row.ensures) c.in_ok-row-2.field-0 c.in_ok-row-2.was c.in_ok-class.class.now (sym c.in_ok-class.ensures) (sym c.has_field.ensures ∙ c.if-has_field.false)
