use Rattle.std.proofs.lemmas.Result.{on_ok_weaker}
use Rattle.class_table.specs.Seen.{body_seen}
use Rattle.kept_rules.specs.Row.{in_option, enclosing_row}
use Rattle.row_rules.specs.Links.{row_at}
use Rattle.row_rules.proofs.LinkLaws.{keeps_after}
use Rattle.member_rules.specs.Members.{thrown_by}
use Rattle.member_rules.proofs.members.keep_method.Goals as goal

pub returns : goal.returns
returns c =
    λ cs is.
    let m = c.args.method.now in
    on_ok_weaker c.keep_thrown.result
    (keeps_after (row_at c.args.place) (in_option (enclosing_row c.args.place.file) m.owner) (thrown_by cs (body_seen m.body)) c.args.rules.now c.keep_type.new.rules c.keep_thrown.new.rules c.in_ok-keep_type.ensures)
    (c.keep_thrown.ensures cs is)
