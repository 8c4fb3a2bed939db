use Rattle.std.proofs.Common.{◌≡◌, map, drop}
use Rattle.machine.specs.Program.{Program}
use Rattle.machine_typed.specs.Typing.{all_assignable, loaded}
use Rattle.place_types.specs.Types.{Agrees, place_of, stack_of}
use Rattle.stack_acts.proofs.judge.all_fit.Given as goal

abbrev pub invariant-loop-i : goal.invariant-loop-i
invariant-loop-i g l =
    (p : Program) → Agrees (g.T.Lattice.is_assignable l.lattice) p.fits
    → all_assignable p (map stack_of l.from) (map loaded (map place_of l.to)) ≡ all_assignable p (map stack_of (drop l.i l.from)) (map loaded (map place_of (drop l.i l.to)))
