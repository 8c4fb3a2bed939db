-- The states of a run.
use Rattle.std.proofs.Common.{◌≡◌, ℕ, zero, suc, Bool, true, false, List, [], Option, Some, None, refl, sym, ap, ◌∙◌, subst}
use Rattle.std.specs.Prelude.{if◌then◌else◌}
use Rattle.std.specs.Option.{option_map}
use Rattle.machine.specs.Data.{Id, State, End, Going, Returned, Threw}
use Rattle.machine.specs.Program.{Program, Line}
use Rattle.machine.specs.Throw.{on_some}
use Rattle.machine.specs.Step.{step}
use Rattle.machine.specs.Trace.{passes, MemorySpent, StepsSpent, NoCase, NoStart, Trace, at_end, top_place, trace_from, start, trace, on_going, next_state, state_after}
use Rattle.machine_rename.specs.Rename.{Renaming, Answers, state_to, end_to}
use Rattle.machine_rename.proofs.Base.{some_law}
use Rattle.machine_rename.proofs.StepLaws.{step_law}
use Rattle.machine_rename.proofs.TraceLaws.{start_law}
use Rattle.machine_rename.proofs.Wider.{some_inv, step_wide, start_wide}

module _ (r : Renaming) (low high : Program) (a : Answers r low high) where
  on_going_law : (e : End) (o' o : Option State) → o' ≡ option_map (state_to r) o → on_going (end_to r e) o' ≡ option_map (state_to r) (on_going e o)
  on_going_law Going o' o h = h
  on_going_law (Returned n) o' o h = refl
  on_going_law (Threw c) o' o h = refl

  next_state_law : (s : State) → next_state high (state_to r s) ≡ option_map (state_to r) (next_state low s)
  next_state_law s = on_going_law s.end _ _ (step_law r low high a s)

  pub state_after_law : (n : ℕ) → state_after high n ≡ option_map (state_to r) (state_after low n)
  state_after_law zero = start_law r low high a
  state_after_law (suc n) = some_law (state_to r) (state_to r) _ _ _ _ (state_after_law n) next_state_law

module _ (p : Program) (more : Id → ℕ → Option Line) (h : (m : Id) (at : ℕ) (l : Line) → p.fetch m at ≡ Some l → more m at ≡ Some l) where
  abbrev wide : Program
  wide = record p { fetch = more }

  next_state_wide : (s u : State) → next_state p s ≡ Some u → next_state wide s ≡ Some u
  next_state_wide s u e = at s.end e
    where
      at : (q : End) → on_going q (step p s) ≡ Some u → on_going q (step wide s) ≡ Some u
      at Going e = step_wide p more h s u e
      at (Returned k) e = absurd (cc e)
      at (Threw c) e = absurd (cc e)

  pub state_after_wide : (n : ℕ) (u : State) → state_after p n ≡ Some u → state_after wide n ≡ Some u
  state_after_wide zero u e = start_wide p more h ∙ e
  state_after_wide (suc n) u e =
      let s = some_inv (state_after p n) (next_state p) u e in
      subst (λ o. on_some o (next_state wide) ≡ Some u) (sym (state_after_wide n s.0 s.1)) (next_state_wide s.0 u s.2)

pub twin_states : (r : Renaming) (board ecma : Program) (board_starts ecma_starts : Id → ℕ → Option Line) → Answers r (record board { fetch = board_starts }) (record ecma { fetch = ecma_starts }) → ((m : Id) (at : ℕ) (l : Line) → board_starts m at ≡ Some l → board.fetch m at ≡ Some l) → ((m : Id) (at : ℕ) (l : Line) → ecma_starts m at ≡ Some l → ecma.fetch m at ≡ Some l) → (n : ℕ) (s : State) → state_after (record board { fetch = board_starts }) n ≡ Some s → (state_after board n ≡ Some s) × (state_after ecma n ≡ Some (state_to r s))
twin_states r board ecma board_starts ecma_starts a more more' n s e = (
  state_after_wide (record board { fetch = board_starts }) board.fetch more n s e,
  state_after_wide (record ecma { fetch = ecma_starts }) ecma.fetch more' n (state_to r s)
      (state_after_law r (record board { fetch = board_starts }) (record ecma { fetch = ecma_starts }) a n ∙ ap (option_map (state_to r)) e),
)

-- the same, from a state
abbrev after_steps : Program → ℕ → State → Option State
after_steps p zero s = Some s
after_steps p (suc n) s = on_some (after_steps p n s) (next_state p)

later : (p : Program) (n : ℕ) (s t : State) → next_state p s ≡ Some t → after_steps p (suc n) s ≡ after_steps p n t
later p zero s t e = e
later p (suc n) s t e = ap (λ o. on_some o (next_state p)) (later p n s t e)

from_start : (p : Program) (n : ℕ) (s : State) → start p ≡ Some s → state_after p n ≡ after_steps p n s
from_start p zero s e = e
from_start p (suc n) s e = ap (λ o. on_some o (next_state p)) (from_start p n s e)

module _ (p : Program) (most : ℕ) where
  -- a state that a run shows
  pub record Shown (o : Option State) (x : Trace) : Type 0 where
    pub state : State
    pub is : o ≡ Some state
    pub going : state.end ≡ Going
    pub shown : state.output ≡ x.output
    pub fits : passes p state most ≡ false

  spent_from : (n : ℕ) (before : List ℕ) (s : State) → (trace_from p most n before s).finish ≡ StepsSpent → Shown (after_steps p n s) (trace_from p most n before s)
  spent_from zero before s e = at (passes p s most) refl s.end refl e
    where
      at : (b : Bool) → passes p s most ≡ b → (q : End) → s.end ≡ q → (if b then record { output = before; finish = MemorySpent } else at_end p s q (record { output = s.output; finish = StepsSpent })).finish ≡ StepsSpent → Shown (Some s) (if b then record { output = before; finish = MemorySpent } else at_end p s q (record { output = s.output; finish = StepsSpent }))
      at true x q y e = absurd (cc e)
      at false x (Returned k) y e = absurd (cc e)
      at false x (Threw c) y e = absurd (cc e)
      at false x Going y e = record { state = s; is = refl; going = y; shown = refl; fits = x }
  spent_from (suc n) before s e = at (passes p s most) s.end refl (step p s) refl (λ t g. spent_from n s.output t g) e
    where
      next : Option State → Trace
      next o = elim o as (λ _. Trace) [ None ↦ record { output = s.output; finish = NoCase (top_place s.frames) } | Some t ↦ trace_from p most n s.output t ]

      at : (b : Bool) (q : End) → s.end ≡ q → (o : Option State) → step p s ≡ o → ((t : State) → (trace_from p most n s.output t).finish ≡ StepsSpent → Shown (after_steps p n t) (trace_from p most n s.output t)) → (if b then record { output = before; finish = MemorySpent } else at_end p s q (next o)).finish ≡ StepsSpent → Shown (after_steps p (suc n) s) (if b then record { output = before; finish = MemorySpent } else at_end p s q (next o))
      at true q x o y ih e = absurd (cc e)
      at false (Returned k) x o y ih e = absurd (cc e)
      at false (Threw c) x o y ih e = absurd (cc e)
      at false Going x None y ih e = absurd (cc e)
      at false Going x (Some t) y ih e =
          subst (λ o. Shown o (trace_from p most n s.output t)) (sym (later p n s t (ap (λ q. on_going q (step p s)) x ∙ y))) (ih t e)

pub spent_state : (p : Program) (n most : ℕ) → (trace p n most).finish ≡ StepsSpent → (s : State) × (state_after p n ≡ Some s) × (s.end ≡ Going) × (s.output ≡ (trace p n most).output) × (passes p s most ≡ false)
unfolding trace
spent_state p n most e = at (start p) refl e
  where
    show : Option State → Trace
    show o = elim o as (λ _. Trace) [ None ↦ record { output = []; finish = NoStart } | Some s ↦ trace_from p most n [] s ]

    at : (o : Option State) → start p ≡ o → (show o).finish ≡ StepsSpent → (s : State) × (state_after p n ≡ Some s) × (s.end ≡ Going) × (s.output ≡ (show o).output) × (passes p s most ≡ false)
    at None x e = absurd (cc e)
    at (Some s) x e =
        let w = spent_from p most n [] s e in
        (w.state, from_start p n s x ∙ w.is, w.going, w.shown, w.fits)
