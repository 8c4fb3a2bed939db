-- The calls beside the machine's steps.
use Rattle.std.specs.Prelude.{◌≡◌, ℕ, ◌<◌, Bool, Option, Some, None}
use Rattle.board_types.specs.declared.board.TypeAt.{TypeAt}
use Rattle.machine.specs.Data.{Id, State, Threw}
use Rattle.machine.specs.Program.{Program}
use Rattle.machine.specs.Trace.{cells}
use Rattle.tiny_ram.specs.Memory.{Memory}
use Rattle.memory_states.specs.Values.{id_of}
use Rattle.memory_states.specs.States.{StandsFor}
use Rattle.tiny_except.specs.Unwinding.{After}

-- an exception changes nothing but objects, frames and the end
pub record KeepsRest (s u : State) : Type 0 where
  pub literals : u.literals ≡ s.literals
  pub statics : u.statics ≡ s.statics
  pub started : u.started ≡ s.started
  pub output : u.output ≡ s.output

abbrev pub EndsAlike : State → State → Option TypeAt → Type 0
EndsAlike s u None = u.end ≡ s.end
EndsAlike s u (Some class) = u.end ≡ Threw (id_of class)

module _ (p : Program) (outer : Id → ℕ → ℕ → Bool) (s : State) where
  pub record Alike (m : Memory) (u : State) : Type 0 where
    pub stands : StandsFor p outer m u
    pub rest : KeepsRest s u

  -- a throw of the machine never lacks a case; the memory's lacks cells where the machine's state after it has too many
  abbrev pub ThrowsAlike : ℕ → Option After → Option State → Type 0
  ThrowsAlike room (Some a) (Some u) = Alike a.memory u × EndsAlike s u a.class
  ThrowsAlike room None (Some u) = room < cells p u
  ThrowsAlike room (Some a) None = ⊥
  ThrowsAlike room None None = ⊥

  -- the one has a case where the other has one
  abbrev pub GoesAlike : Option Memory → Option State → Type 0
  GoesAlike (Some m) (Some u) = Alike m u × (u.end ≡ s.end)
  GoesAlike None None = Unit {0}
  GoesAlike (Some m) None = ⊥
  GoesAlike None (Some u) = ⊥
