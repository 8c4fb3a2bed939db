use Rattle.member_keys.specs.Seen.{class_seen}
use Rattle.member_references.specs.Resolved.{field_id, field_resolved}
use Rattle.operand_facts.proofs.RowLaws.{row_back}
use Rattle.operand_facts.proofs.operand.find_field.Goals as goal

pub returns-in-Ok : goal.returns-in-Ok
returns-in-Ok c =
    row_back field_id (field_resolved c.args.world.now c.args.file c.args.token) c.in-Ok.field (class_seen c.field_row.result) c.in-Ok.ensures c.field_row.ensures
