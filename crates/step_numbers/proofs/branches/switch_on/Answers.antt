use Rattle.std.specs.Int.{w32, cast_unsigned}
use Rattle.std.specs.Prelude.{slice_get, unwrap_or}
use Rattle.std.proofs.Common.{◌≡◌, ℕ, ℤ, List, ◌∷◌, Option, Some, None, sym, ap, ◌∙◌}
use Rattle.machine.specs.Data.{Value, State}
use Rattle.machine.specs.Numbers.{as_int}
use Rattle.machine.specs.Rows.{on_top}
use Rattle.machine.specs.Throw.{on_some, goes}
use Rattle.tiny_ops.specs.Operators.{stack_value}
use Rattle.tiny_ram.specs.Memory.{with_frames, popped}
use Rattle.step_ends.specs.declared.acted.Acted.TheVariants.{Done}
use Rattle.step_numbers.specs.Taken.{stacked, with_top}
use Rattle.step_numbers.proofs.Sights.{nowhere, int_seen, int_none, int_some}
use Rattle.step_numbers.proofs.Ending.{top_is, no_top_is, same_goes, moved_ends}
use Rattle.step_numbers.proofs.branches.switch_on.Goals as goal

pub returns-in_default : goal.returns-in_default
returns-in_default g c =
    λ p outer m s f fs h gs b.
    let go : Value → List Value → Option State = λ v rest. on_some (as_int v) (λ n. goes p s h gs (unwrap_or (slice_get (g.T.Targets.targets c.args.targets.now) (cast_unsigned w32 n)) c.args.next) rest) in
    no_top_is h.stack go (c.in_default.ensures p outer m s f fs h gs b)

pub returns-in_default-number_of : goal.returns-in_default-number_of
returns-in_default-number_of g c =
    λ p outer m s f fs h gs b.
    let go : Value → List Value → Option State = λ v rest. on_some (as_int v) (λ n. goes p s h gs (unwrap_or (slice_get (g.T.Targets.targets c.args.targets.now) (cast_unsigned w32 n)) c.args.next) rest) in
    let t = c.in-Some.ensures p outer m s f fs h gs b in
    let none : as_int t.value ≡ None = sym (int_seen nowhere c.in-Some.x t.value t.seen) ∙ int_none (as_int (stack_value nowhere c.in-Some.x)) (c.in_default-number_of.ensures nowhere) in
    top_is h.stack t.value t.rest go t.stack ∙ ap (λ (o : Option ℤ). on_some o (λ n. goes p s h gs (unwrap_or (slice_get (g.T.Targets.targets c.args.targets.now) (cast_unsigned w32 n)) c.args.next) t.rest)) none

pub returns : goal.returns
returns g c =
    λ p outer m s f fs h gs b.
    let go : Value → List Value → Option State = λ v rest. on_some (as_int v) (λ n. goes p s h gs (unwrap_or (slice_get (g.T.Targets.targets c.args.targets.now) (cast_unsigned w32 n)) c.args.next) rest) in
    let t = c.in-Some.ensures p outer m s f fs h gs b in
    let k = stacked h t.rest in
    let after = with_top s k gs in
    let n = int_some (as_int (stack_value nowhere c.in-Some.x)) c.in-Some-number_of.n (c.in-Some-number_of.ensures nowhere) in
    let is : as_int t.value ≡ Some n.0 = sym (int_seen nowhere c.in-Some.x t.value t.seen) ∙ n.1 in
    let to : List ℕ = g.T.Targets.targets c.args.targets.now in
    let place : c.unwrap_or.result ≡ unwrap_or (slice_get to (cast_unsigned w32 n.0)) c.args.next = c.unwrap_or.ensures ∙ ap (λ (o : Option ℕ). unwrap_or o c.args.next) (c.target.ensures ∙ ap (slice_get to) n.2) in
    moved_ends p outer m s k gs c.go.new.ram (goes p after k gs c.unwrap_or.result t.rest) (on_top h.stack go) Done
    (same_goes p s h gs t.rest c.unwrap_or.result t.rest ∙ ap (λ (i : ℕ). goes p s h gs i t.rest) place ∙ sym (ap (λ (o : Option ℤ). on_some o (λ z. goes p s h gs (unwrap_or (slice_get to (cast_unsigned w32 z)) c.args.next) t.rest)) is) ∙ sym (top_is h.stack t.value t.rest go t.stack))
    (c.go.ensures p outer (with_frames m (popped f ∷ fs)) after (popped f) fs k gs t.below)
