use Rattle.std.proofs.Common.{◌∙◌}
use Rattle.world_rows.specs.Tokens.{locals_signatures}
use Rattle.profile_order.specs.declared.tables.ProfileTable.TheVariants.{LocalsSignatures}
use Rattle.profile_order.proofs.OrderLaws.{tests_by}
use Rattle.profile_order.proofs.RowLaws.{row_is_at, signature_told}
use Rattle.profile_order.proofs.rows.locals_row.Goals as goal

pub returns : goal.returns
returns c =
    let files = c.args.judge.now.subject.now.world.now in
    tests_by files c.args.file LocalsSignatures c.args.n _ c.requires.row.file_there c.requires.row.row_there
    (λ x row e at.
    c.refuse_signature.ensures
    ∙ signature_told c.place_of-place.result c.args.file locals_signatures c.args.n c.place_of-place.ensures _ _
    (c.in_ok-wrong.ensures x row e (row_is_at files c.args.file locals_signatures c.args.n x row e at)))
