use Rattle.std.proofs.Common.{◌∙◌}
use Rattle.world_rows.specs.Tokens.{fields}
use Rattle.profile_order.specs.declared.tables.ProfileTable.TheVariants.{Fields}
use Rattle.profile_order.proofs.OrderLaws.{tests_by}
use Rattle.profile_order.proofs.RowLaws.{row_is_at, member_told}
use Rattle.profile_order.proofs.rows.field_row.Goals as goal

pub returns : goal.returns
returns c =
    let files = c.args.judge.now.subject.now.world.now in
    tests_by files c.args.file Fields c.args.n _ c.requires.row.file_there c.requires.row.row_there
    (λ x row e at.
    c.refuse_member.ensures
    ∙ member_told c.place_of-place.result c.args.file fields c.args.n c.place_of-place.ensures 28 _ _ _ _ _ _
    (c.field_wrong-wrong.ensures x row e (row_is_at files c.args.file fields c.args.n x row e at))
    c.field_well-is_well.ensures
    c.field_apart-is_apart.ensures)
