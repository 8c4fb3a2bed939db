use Rattle.std.proofs.Common.{take}
use Rattle.std.specs.List.{flat_map}
use Rattle.kept_rules.specs.Row.{in_clause}
use Rattle.world_rows.specs.Lines.{raw_clause}
use Rattle.row_rules.specs.Links.{row_at, keeps_each, Adds}
use Rattle.body_rules.proofs.code.keep_clauses.Given as goal

abbrev pub invariant-loop-clause : goal.invariant-loop-clause
invariant-loop-clause l = Adds (keeps_each (row_at l.place) (flat_map (λ c. in_clause l.place.file (raw_clause l.tables c)) (take l.clause-index l.clauses))) l.fn.rules l.rules
