use Rattle.member_keys.specs.Seen.{class_seen}
use Rattle.type_names.specs.Resolved.{type_id, type_resolved}
use Rattle.operand_facts.proofs.RowLaws.{row_back}
use Rattle.method_pass.proofs.begins.find_class.Goals as goal

pub returns-in-Ok : goal.returns-in-Ok
returns-in-Ok c =
    row_back type_id (type_resolved c.args.world.now c.args.file c.args.token) c.in-Ok.of (class_seen c.class_of.result) c.in-Ok.ensures c.class_of.ensures
