use Rattle.std.proofs.Common.{ap, ◌∙◌}
use Rattle.kept_rules.specs.Row.{by_type}
use Rattle.body_rules.proofs.TokenLaws.{type_is}
use Rattle.body_rules.proofs.tokens.type_row.Goals as goal

pub returns : goal.returns
returns c =
    c.type_place.ensures
    ∙ ap (by_type c.args.file) (type_is c.args.tables.now c.args.token c.split_number.result.table c.split_number.result.row c.split_number.ensures.table c.split_number.ensures.row)
