use Rattle.std.proofs.Common.{sym, ap, ◌∙◌}
use Rattle.std.specs.Option.{option_map}
use Rattle.machine.specs.Throw.{on_some}
use Rattle.world_rows.specs.Tokens.{table_of}
use Rattle.member_references.specs.Resolved.{method_of, method_id, method_checked}
use Rattle.member_references.proofs.ThereLaws.{method_is_there}
use Rattle.member_references.proofs.reference.References.resolve_method.Goals as goal

pub returns-in-Some : goal.returns-in-Some
returns-in-Some c =
    let files = c.args.names.now in
    sym c.ok_or.ensures.ok_part
    ∙ c.method_id.ensures
    ∙ ap (λ o. on_some o (method_checked files)) c.in-Some.ensures
    ∙ method_is_there files c.args.file c.split_token.result.table c.split_token.result.row
    ∙ ap (λ t. option_map method_id (method_of files c.args.file t c.split_token.result.row)) c.split_token.ensures.table
    ∙ ap (λ r. option_map method_id (method_of files c.args.file (table_of c.args.token) r)) c.split_token.ensures.row
