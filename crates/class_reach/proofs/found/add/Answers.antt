use Rattle.std.proofs.Common.{◌∙◌, sym, refl}
use Rattle.std.specs.BTreeSet.{contains}
use Rattle.std.proofs.lemmas.Bool.{not-true, not-false}
use Rattle.class_reach.specs.Found.{class_order}
use Rattle.class_reach.proofs.FoundLaws.{added, stayed, if_not}
use Rattle.class_reach.proofs.found.add.Goals as goal

pub returns-in_ok-push : goal.returns-in_ok-push
returns-in_ok-push c = added c.args.found.now _ c.args.class c.requires (not-true (contains class_order c.args.found.now.seen c.args.class) (sym c.in_ok-insert.ensures.added ∙ c.if-branch.true)) c.in_ok-insert.ensures.updates c.in_ok-push.ensures.items

pub returns-else-branch : goal.returns-else-branch
returns-else-branch c = stayed c.args.found.now _ c.args.class c.requires (not-false (contains class_order c.args.found.now.seen c.args.class) (sym c.in_ok-insert.ensures.added ∙ c.if-branch.false)) (if_not c.in_ok-insert.field-0 c.if-branch.false c.in_ok-insert.ensures.unchanged) refl
