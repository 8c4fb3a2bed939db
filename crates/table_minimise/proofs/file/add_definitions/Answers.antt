use Rattle.std.proofs.Common.{◌++◌}
use Rattle.std.proofs.lemmas.Result.{on_ok_weaker}
use Rattle.row_rules.proofs.LinkLaws.{adds_after}
use Rattle.definition_rules.specs.Definitions.{type_definitions, type_ref_count, field_definitions, field_ref_count, method_definitions, method_ref_count}
use Rattle.table_minimise.proofs.file.add_definitions.Goals as goal

pub returns : goal.returns
returns c =
    let files = c.args.world.now in
    let f = c.args.file in
    on_ok_weaker c.add_method_definitions.result
    (λ last x at.
    let types = type_definitions files f (type_ref_count x.metadata) in
    let fields = field_definitions files f (field_ref_count x.metadata) in
    let methods = method_definitions files f (method_ref_count x.metadata) in
    adds_after types (fields ++ methods) c.args.rules.now c.add_type_definitions.new.rules c.add_method_definitions.new.rules (c.in_ok-add_type_definitions.ensures x at)
    (adds_after fields methods c.add_type_definitions.new.rules c.add_field_definitions.new.rules c.add_method_definitions.new.rules (c.in_ok-add_field_definitions.ensures x at) (last x at)))
    c.add_method_definitions.ensures
