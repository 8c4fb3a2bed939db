use Rattle.std.proofs.Common.{◌≡◌, Ok, take}
use Rattle.ecma_types.specs.declared.stack.StackType.{StackType as WorldType}
use Rattle.machine_typed.specs.Typing.{StackType}
use Rattle.code_rules.specs.Pass.{Lattice, merge_all}
use Rattle.forward_pass.specs.Seen.{Agrees, seen_stack}
use Rattle.forward_pass.proofs.join.merged.Given as goal

abbrev pub invariant-loop-place : goal.invariant-loop-place
invariant-loop-place g l = record {
  merged : (seen : WorldType → StackType) (m : Lattice) → Agrees seen (g.L.Lattice.is_assignable l.lattice) (g.L.Lattice.merges l.lattice) m → merge_all m (seen_stack seen (take l.place l.there)) (seen_stack seen (take l.place l.stack)) ≡ Ok (seen_stack seen l.both.items);
}
