use Rattle.member_keys.specs.Seen.{class_seen}
use Rattle.member_references.specs.Resolved.{method_id, method_resolved}
use Rattle.operand_facts.proofs.RowLaws.{row_back}
use Rattle.operand_facts.proofs.operand.find_method.Goals as goal

pub returns-in-Ok : goal.returns-in-Ok
returns-in-Ok c =
    row_back method_id (method_resolved c.args.world.now c.args.file c.args.token) c.in-Ok.method (class_seen c.method_row.result) c.in-Ok.ensures c.method_row.ensures
