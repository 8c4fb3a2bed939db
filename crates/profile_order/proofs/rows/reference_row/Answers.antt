use Rattle.std.proofs.Common.{◌≡◌, ◌∙◌, ap, Some, None, slice_get}
use Rattle.std.specs.Prelude.{if◌then◌else◌, unwrap_or, false, slice_index}
use Rattle.world_rows.specs.Tokens.{member_refs, bytes_at}
use Rattle.verdict_rules.specs.World.{world_of}
use Rattle.verdict_rules.specs.Members.{reference_wrong}
use Rattle.profile_order.specs.declared.tables.ProfileTable.TheVariants.{MemberRefs}
use Rattle.profile_order.proofs.OrderLaws.{tests_by}
use Rattle.profile_order.proofs.RowLaws.{row_is_at, bit_is, signature_told}
use Rattle.profile_order.proofs.rows.reference_row.Goals as goal

pub returns : goal.returns
returns c =
    let files = c.args.judge.now.subject.now.world.now in
    tests_by files c.args.file MemberRefs c.args.n _ c.requires.row.file_there c.requires.row.row_there
    (λ x row e at.
    let bits = c.columns-columns.result.now.looked.members.items in
    let bit : c.bit_at-is_looked_at.result ≡ unwrap_or (slice_get bits c.args.n) false = c.bit_at-is_looked_at.ensures ∙ ap (λ xs. unwrap_or (slice_get xs c.args.n) false) c.as_slice.ensures.value in
    c.refuse_signature.ensures
    ∙ signature_told c.place_of-place.result c.args.file member_refs c.args.n c.place_of-place.ensures _ _
    (c.in_ok-wrong.ensures x row e (row_is_at files c.args.file member_refs c.args.n x row e at)
    ∙ ap (λ b. if b then reference_wrong (world_of files) c.args.file x.metadata row else None) (bit_is x member_refs c.args.n row bits c.bit_at-is_looked_at.result (c.columns-columns.ensures.members x e) at bit)))
