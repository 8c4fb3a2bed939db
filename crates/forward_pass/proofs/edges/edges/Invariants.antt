use Rattle.std.proofs.Common.{◌≡◌, ℕ, Bool, List, Some, length, take}
use Rattle.code_rules.specs.Pass.{Lattice, Entry, Step, edges}
use Rattle.forward_pass.specs.Seen.{Agrees, AllNeeded, Keeps, seen_stack, step_at}
use Rattle.forward_pass.specs.Told.{Leaves}
use Rattle.forward_pass.proofs.edges.edges.Given as goal

abbrev pub invariant-loop-branch : goal.invariant-loop-branch
invariant-loop-branch g l = record {
  leaves : (listed : List Step) → g.S.Steps.are_steps l.steps listed → (s : Step) (m : Lattice) (needed : ℕ → Bool) (entries : List Entry) → step_at listed l.from ≡ Some s → l.branches ≡ length s.goes → Agrees (g.S.Steps.seen l.steps) (g.L.Lattice.is_assignable l.lattice) (g.L.Lattice.merges l.lattice) m → AllNeeded needed s.goes → Keeps (g.S.Steps.seen l.steps) needed l.initial.table entries → Leaves (g.S.Steps.seen l.steps) needed l.table l.lowest (edges m l.from (seen_stack (g.S.Steps.seen l.steps) l.stack) (take l.branch s.goes) entries);
}
