use Rattle.std.proofs.Common.{ap, ◌∙◌, map}
use Rattle.member_keys.specs.Seen.{class_seen}
use Rattle.set_table.proofs.SubjectLaws.{none_added, unfound_added, found_added}
use Rattle.set_table.proofs.types.add_interface.Goals as goal

pub returns-in_default : goal.returns-in_default
returns-in_default c = none_added c.args.subject.now c.args.n _ c.in_default.ensures

pub returns-in_default-find_named : goal.returns-in_default-find_named
returns-in_default-find_named c = unfound_added c.args.subject.now c.args.n _ _ c.in-Some.ensures c.in_default-find_named.ensures

pub returns : goal.returns
returns c = ap (map class_seen) c.in_ok-push.ensures.items ∙ found_added c.args.subject.now c.args.n _ _ _ c.in-Some.ensures c.in-Some-find_named.ensures
