use Rattle.std.proofs.Common.{Bool, List, ◌∷◌, Option, sym, ap, ◌∙◌}
use Rattle.machine.specs.Data.{Value, State}
use Rattle.machine.specs.Numbers.{branch_compare}
use Rattle.machine.specs.Rows.{on_two}
use Rattle.machine.specs.Step.{branch_if}
use Rattle.tiny_ram.specs.Memory.{with_frames, popped}
use Rattle.step_numbers.specs.Taken.{stacked, with_top}
use Rattle.step_numbers.proofs.Sights.{nowhere, branch_compare_seen}
use Rattle.step_numbers.proofs.Ending.{two_are, no_two_are, same_branch, moved_ends}
use Rattle.step_numbers.proofs.branches.branch_compare_on.Goals as goal

pub returns-in_default : goal.returns-in_default
returns-in_default c =
    λ p outer m s f fs g gs b.
    let go : Value → Value → List Value → Option State = λ v w rest. branch_if p s g gs c.args.next c.args.on c.args.target (branch_compare c.args.comparison v w) rest in
    no_two_are g.stack go (c.in_default.ensures p outer m s f fs g gs b)

pub returns : goal.returns
returns c =
    λ p outer m s f fs g gs b.
    let go : Value → Value → List Value → Option State = λ v w rest. branch_if p s g gs c.args.next c.args.on c.args.target (branch_compare c.args.comparison v w) rest in
    let t = c.in-Some.ensures p outer m s f fs g gs b in
    let h = stacked g t.rest in
    let after = with_top s h gs in
    let x = c.in-Some.taken.first in
    let y = c.in-Some.taken.second in
    moved_ends p outer m s h gs c.branch-ram.new.ram (branch_if p after h gs c.args.next c.args.on c.args.target c.branch_compare.result t.rest) (on_two g.stack go) c.branch-ram.result
    (same_branch p s g gs t.rest c.args.next c.args.on c.args.target c.branch_compare.result t.rest ∙ ap (λ (o : Option Bool). branch_if p s g gs c.args.next c.args.on c.args.target o t.rest) (c.branch_compare.ensures nowhere ∙ branch_compare_seen nowhere x t.first t.seen y t.second t.seen_second c.args.comparison) ∙ sym (two_are g.stack t.first t.second t.rest go t.stack))
    (c.branch-ram.ensures p outer (with_frames m (popped (popped f) ∷ fs)) after (popped (popped f)) fs h gs t.below)
