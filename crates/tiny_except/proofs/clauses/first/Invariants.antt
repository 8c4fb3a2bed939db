use Rattle.std.proofs.Common.{◌≡◌, drop}
use Rattle.memory_states.specs.Told.{Told, told}
use Rattle.tiny_except.specs.Clauses.{first_sought}
use Rattle.tiny_except.proofs.clauses.first.Given as goal

-- the first is looked for from here on
abbrev pub invariant-loop-number : goal.invariant-loop-number
invariant-loop-number g l =
    let t : Told = told (g.S.Subclass.sub l.types) (g.S.Subclass.clauses l.types) in
    first_sought t l.sought l.number (drop l.number (t.clauses l.method)) ≡ first_sought t l.sought l.from (drop l.from (t.clauses l.method))
