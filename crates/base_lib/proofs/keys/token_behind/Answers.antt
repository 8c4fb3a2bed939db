use Rattle.std.proofs.Common.{◌+◌, ◌*◌, ◌∙◌, ap}
use Rattle.cil_layout.specs.Asked.{token_of}
use Rattle.base_tables.specs.Shape.{items_of}
use Rattle.base_lib.specs.Keys.{row_behind}
use Rattle.base_lib.proofs.keys.token_behind.Goals as goal

pub returns : goal.returns
returns c =
    ap (λ n. c.table_of_item-table.result * 16777216 + n) c.row_for.ensures.row
    ∙ ap (λ t. token_of t (row_behind (items_of c.args.before.now) t)) c.table_of_item-table.ensures.table
