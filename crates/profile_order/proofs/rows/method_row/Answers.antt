use Rattle.std.proofs.Common.{◌∙◌}
use Rattle.world_rows.specs.Tokens.{methods}
use Rattle.profile_order.specs.declared.tables.ProfileTable.TheVariants.{Methods}
use Rattle.profile_order.proofs.OrderLaws.{tests_by}
use Rattle.profile_order.proofs.RowLaws.{row_is_at, member_told}
use Rattle.profile_order.proofs.rows.method_row.Goals as goal

pub returns : goal.returns
returns c =
    let files = c.args.judge.now.subject.now.world.now in
    tests_by files c.args.file Methods c.args.n _ c.requires.row.file_there c.requires.row.row_there
    (λ x row e at.
    c.refuse_member.ensures
    ∙ member_told c.place_of-place.result c.args.file methods c.args.n c.place_of-place.ensures 29 _ _ _ _ _ _
    (c.in_ok-wrong.ensures x row e (row_is_at files c.args.file methods c.args.n x row e at))
    (c.method_well-is_well.ensures x row e (row_is_at files c.args.file methods c.args.n x row e at))
    (c.in_ok-is_apart.ensures x e))
