use Rattle.std.proofs.Common.{◌≡◌, ◌≤◌, ◌-◌, ◌++◌, length}
use Rattle.cil_code.specs.Walk.{walk_from, instructions_of}
use Rattle.code_shrink.specs.Starts.{way}
use Rattle.kept_bodies.specs.Literals.{literals_of}
use Rattle.kept_bodies.proofs.literals.push_of_code.Given as goal

abbrev pub invariant-walk : goal.invariant-walk
invariant-walk l = record {
  inside : l.at ≤ length l.code;
  rest : l.out.items ++ literals_of l.tables l.method (way l.places) (walk_from l.code l.at).met ≡ l.fn.out.items ++ literals_of l.tables l.method (way l.places) (instructions_of l.code);
}

abbrev pub decreases-walk : goal.decreases-walk
decreases-walk l = length l.code - l.at
