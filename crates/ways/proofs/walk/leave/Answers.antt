use Rattle.std.proofs.Common.{◌≡◌, ◌∙◌, sym, ap, arith, length, List, subst}
use Rattle.ways.specs.declared.walk.Mark.{Mark}
use Rattle.ways.specs.Walk.{AreEnded}
use Rattle.ways.proofs.MoveLaws.{written_whole}
use Rattle.ways.proofs.walk.leave.Goals as goal

pub returns-clause-marks : goal.returns-clause-marks
returns-clause-marks c =
    let size : length c.give_up.new.marks ≡ length c.args.walk.now.marks.items = c.give_up.ensures.size ∙ ap (λ (ms : List Mark). length ms) c.deref_mut.ensures.value in
    let ended : AreEnded c.args.walk.now.path.items c.args.walk.now.marks.items c.give_up.new.marks =
    subst (λ path. AreEnded path c.args.walk.now.marks.items c.give_up.new.marks) c.deref.ensures.value
    (subst (λ marks. AreEnded c.deref.result.now marks c.give_up.new.marks) c.deref_mut.ensures.value c.give_up.ensures.marks) in
    subst (λ marks. AreEnded c.args.walk.now.path.items c.args.walk.now.marks.items marks) (sym (written_whole c.args.walk.now.marks.len c.give_up.new.marks c.args.walk.now.marks.items size (omega (arith, size, c.args.walk.now.marks.ok)))) ended
