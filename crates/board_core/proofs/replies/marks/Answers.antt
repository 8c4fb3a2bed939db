use Rattle.std.proofs.Common.{◌+◌, Bool, if◌then◌else◌, ap, ◌∙◌}
use Rattle.std.specs.Prelude.{◌||◌}
use Rattle.wire_packets.specs.declared.payload.TheConstants.{FIRST_MARK, SECOND_MARK}
use Rattle.deploy_model.specs.Banks.{holds, image_marker, bank_marker}
use Rattle.board_core.proofs.replies.marks.Goals as goal

pub returns : goal.returns
returns c =
    ap (λ n. n + c.mark-2.result) (c.mark.ensures.value ∙ ap (λ (b : Bool). if b then FIRST_MARK else 0) c.has_front_marker-first.ensures)
    ∙ ap (λ n. (if holds image_marker 0 c.args.content.now || holds bank_marker 0 c.args.content.now then FIRST_MARK else 0) + n)
    (c.mark-2.ensures.value ∙ ap (λ (b : Bool). if b then SECOND_MARK else 0) c.has_second_marker-second.ensures)
