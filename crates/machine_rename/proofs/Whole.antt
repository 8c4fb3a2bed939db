-- The laws of runs joined.
use Rattle.std.proofs.Common.{◌≡◌, ℕ, false, Option, Some, sym, ap, ◌∙◌}
use Rattle.machine.specs.Data.{Id, State}
use Rattle.machine.specs.Program.{Program, Line}
use Rattle.machine.specs.Trace.{Trace, StepsSpent, is_stuck, trace, state_after}
use Rattle.machine_rename.specs.Rename.{Renaming, Answers, state_to}
use Rattle.machine_rename.proofs.TraceLaws.{trace_law, is_stuck_law, trace_same}
use Rattle.machine_rename.proofs.Wider.{trace_wide}
use Rattle.machine_rename.proofs.StateLaws.{twin_states, spent_state}

module _ (r : Renaming) (board ecma : Program) (board_starts ecma_starts : Id → ℕ → Option Line) (a : Answers r (record board { fetch = board_starts }) (record ecma { fetch = ecma_starts })) (more : (m : Id) (at : ℕ) (l : Line) → board_starts m at ≡ Some l → board.fetch m at ≡ Some l) (more' : (m : Id) (at : ℕ) (l : Line) → ecma_starts m at ≡ Some l → ecma.fetch m at ≡ Some l) (n most : ℕ) (fine : is_stuck (trace (record ecma { fetch = ecma_starts }) n most).finish ≡ false) where
  abbrev low : Program
  low = record board { fetch = board_starts }

  abbrev high : Program
  high = record ecma { fetch = ecma_starts }

  low_fine : is_stuck (trace low n most).finish ≡ false
  low_fine = sym (is_stuck_law r (trace low n most) (trace high n most) (trace_law r low high a n most)) ∙ fine

  pub same : trace board n most ≡ trace ecma n most
  same =
      trace_wide low board.fetch more n most low_fine
      ∙ sym (trace_same r low high a n most low_fine)
      ∙ sym (trace_wide high ecma.fetch more' n most fine)

  pub runs : is_stuck (trace board n most).finish ≡ false
  runs = ap (λ (x : Trace). is_stuck x.finish) (trace_wide low board.fetch more n most low_fine) ∙ low_fine

  pub states : (trace board n most).finish ≡ StepsSpent → (s : State) × (state_after board n ≡ Some s) × (state_after ecma n ≡ Some (state_to r s))
  states e =
      let w = spent_state low n most (ap (λ (x : Trace). x.finish) (sym (trace_wide low board.fetch more n most low_fine)) ∙ e) in
      let z = twin_states r board ecma board_starts ecma_starts a more more' n w.0 w.1 in
      (w.0, z.0, z.1)
