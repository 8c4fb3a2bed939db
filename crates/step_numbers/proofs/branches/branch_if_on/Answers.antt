use Rattle.std.proofs.Common.{Bool, List, ◌∷◌, Option, sym, ap, ◌∙◌}
use Rattle.machine.specs.Data.{Value, State}
use Rattle.machine.specs.Numbers.{truth}
use Rattle.machine.specs.Rows.{on_top}
use Rattle.machine.specs.Step.{branch_if}
use Rattle.tiny_ram.specs.Memory.{with_frames, popped}
use Rattle.step_numbers.specs.Taken.{stacked, with_top}
use Rattle.step_numbers.proofs.Sights.{nowhere, truth_seen}
use Rattle.step_numbers.proofs.Ending.{top_is, no_top_is, same_branch, moved_ends}
use Rattle.step_numbers.proofs.branches.branch_if_on.Goals as goal

pub returns-in_default : goal.returns-in_default
returns-in_default c =
    λ p outer m s f fs g gs b.
    let go : Value → List Value → Option State = λ v rest. branch_if p s g gs c.args.next c.args.on c.args.target (truth v) rest in
    no_top_is g.stack go (c.in_default.ensures p outer m s f fs g gs b)

pub returns : goal.returns
returns c =
    λ p outer m s f fs g gs b.
    let go : Value → List Value → Option State = λ v rest. branch_if p s g gs c.args.next c.args.on c.args.target (truth v) rest in
    let t = c.in-Some.ensures p outer m s f fs g gs b in
    let h = stacked g t.rest in
    let after = with_top s h gs in
    moved_ends p outer m s h gs c.branch-ram.new.ram (branch_if p after h gs c.args.next c.args.on c.args.target c.truth.result t.rest) (on_top g.stack go) c.branch-ram.result
    (same_branch p s g gs t.rest c.args.next c.args.on c.args.target c.truth.result t.rest ∙ ap (λ (o : Option Bool). branch_if p s g gs c.args.next c.args.on c.args.target o t.rest) (c.truth.ensures nowhere ∙ truth_seen nowhere c.in-Some.x t.value t.seen) ∙ sym (top_is g.stack t.value t.rest go t.stack))
    (c.branch-ram.ensures p outer (with_frames m (popped f ∷ fs)) after (popped f) fs h gs t.below)
