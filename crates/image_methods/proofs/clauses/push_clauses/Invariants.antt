use Rattle.std.proofs.Common.{◌≡◌, ◌++◌, map, take}
use Rattle.code_shrink.specs.Starts.{way}
use Rattle.kept_marks.specs.Masks.{masks_of}
use Rattle.image_methods.specs.Methods.{clause_made}
use Rattle.image_methods.proofs.clauses.push_clauses.Given as goal

abbrev pub invariant-loop-clause : goal.invariant-loop-clause
invariant-loop-clause l = l.out.items ≡ l.fn.out.items ++ map (clause_made (masks_of l.choice) l.tables (way l.places)) (take l.clause-index l.clauses)
