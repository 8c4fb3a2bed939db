-- What a board shows of a run of the machine that runs the files themselves.
use Rattle.std.specs.Prelude.{◌≡◌}
use Rattle.machine.specs.Trace.{Finish, WithNumber, WithClass, MemorySpent, StepsSpent, NoCase, NoStart, Trace}
use Rattle.board_program.specs.Trace.{BoardFinish, Returned, Threw, Spent, Stopped, BoardTrace}

-- each end of the one is one of the other, but that a state has no case or a run no start
abbrev pub EndsAs : Finish → BoardFinish → Type 0
EndsAs (WithNumber number) f = f ≡ Returned number
EndsAs (WithClass name) f = f ≡ Threw name
EndsAs MemorySpent f = f ≡ Spent
EndsAs StepsSpent f = f ≡ Stopped
EndsAs (NoCase at) f = ⊥
EndsAs NoStart f = ⊥

pub record Shows (t : Trace) (b : BoardTrace) : Type 0 where
  pub output : b.output ≡ t.output
  pub finish : EndsAs t.finish b.finish
