use Rattle.std.proofs.Common.{◌++◌}
use Rattle.std.proofs.lemmas.Result.{on_ok_weaker}
use Rattle.row_rules.proofs.LinkLaws.{adds_after}
use Rattle.member_rules.specs.Members.{field_links, method_links, part_links}
use Rattle.member_rules.proofs.members.add_members.Goals as goal

pub returns : goal.returns
returns c =
    λ cs is.
    let f = c.args.file in
    let x = c.args.rows.now in
    on_ok_weaker c.add_parts.result
    (λ parts.
    adds_after (field_links f x) (method_links cs f x ++ part_links f x) c.args.rules.now c.add_fields.new.rules c.add_parts.new.rules c.in_ok-add_fields.ensures
    (adds_after (method_links cs f x) (part_links f x) c.add_fields.new.rules c.add_methods.new.rules c.add_parts.new.rules (c.in_ok-add_methods.ensures cs is) parts))
    c.add_parts.ensures
