use Rattle.std.proofs.Common.{◌≡◌, ◌+◌, ◌*◌, ◌++◌, map}
use Rattle.std.specs.List.{range_with_len}
use Rattle.cil_code.specs.Sections.{clause_at, clause_len}
use Rattle.cil_code.proofs.sections.push_clauses.Given as goal

abbrev pub invariant-loop-k : goal.invariant-loop-k
invariant-loop-k l =
    l.all.items ≡ l.fn.all.items ++ map (λ k. clause_at l.section.form l.bytes (4 + clause_len l.section.form * k)) (range_with_len 0 l.k)
