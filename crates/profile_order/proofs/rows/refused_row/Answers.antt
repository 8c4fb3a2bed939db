use Rattle.std.proofs.Common.{◌∙◌, sym, suc, ap}
use Rattle.verdict_rules.specs.Order.{first_fault}
use Rattle.verdict_rules.specs.World.{world_of}
use Rattle.profile_order.specs.Tables.{number_of}
use Rattle.profile_order.proofs.OrderLaws.{tests_by}
use Rattle.profile_order.proofs.RowLaws.{missing_told}
use Rattle.profile_order.proofs.rows.refused_row.Goals as goal

pub returns : goal.returns
returns c =
    let files = c.args.judge.now.subject.now.world.now in
    tests_by files c.args.file c.args.table c.args.n _ c.requires.row.file_there c.requires.row.row_there
    (λ x row e at.
    c.refuse.ensures
    ∙ (missing_told c.place_of.result c.args.file (number_of c.args.table) c.args.n c.place_of.ensures c.args.rule
    ∙ ap (λ tests. first_fault c.args.file (number_of c.args.table) (suc c.args.n) (tests c.args.n row)) (sym (c.requires.refused (world_of files) c.args.file x))))
