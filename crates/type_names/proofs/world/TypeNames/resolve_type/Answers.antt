use Rattle.std.proofs.Common.{sym, ap, ◌∙◌}
use Rattle.std.specs.Option.{option_map}
use Rattle.machine.specs.Throw.{on_some}
use Rattle.world_rows.specs.Tokens.{table_of}
use Rattle.type_names.specs.Resolved.{type_id, checked, class_of}
use Rattle.type_names.proofs.Resolving.{class_there, named_is}
use Rattle.type_names.proofs.world.TypeNames.resolve_type.Goals as goal

pub returns-in-Some : goal.returns-in-Some
returns-in-Some c =
    let files = c.args.self.now in
    sym c.ok_or.ensures.ok_part
    ∙ c.find_id.ensures
    ∙ ap (λ o. on_some o (checked files)) c.in-Some.ensures
    ∙ class_there files c.args.file c.split_token.result.table c.split_token.result.row
    ∙ ap (λ t. option_map type_id (class_of files c.args.file t c.split_token.result.row)) c.split_token.ensures.table
    ∙ ap (λ r. option_map type_id (class_of files c.args.file (table_of c.args.token) r)) c.split_token.ensures.row
    ∙ ap (option_map type_id) (sym (named_is files c.args.file c.args.token))
