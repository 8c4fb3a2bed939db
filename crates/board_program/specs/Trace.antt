-- What a run of a bound set shows.
use Rattle.std.specs.Prelude.{ℕ, ℤ, Bool, true, false, List, Option, Some, None}
use Rattle.machine.specs.Trace.{CodePlace, Finish, WithNumber, WithClass, MemorySpent, StepsSpent, NoCase, NoStart, Trace, trace}
use Rattle.deploy_model.specs.Banks.{Image}
use Rattle.board_program.specs.Parts.{set_parts}
use Rattle.board_program.specs.Program.{board_program}
use Rattle.board_program.specs.Places.{image_at, flash_place, entry_image}

pub data BoardFinish : Type 0 where
  Returned : (number : Option ℤ) → BoardFinish
  Threw : (name : List ℕ) → BoardFinish
  Spent : BoardFinish
  Stopped : BoardFinish
  -- at this place of the flash
  BadCode : (at : ℕ) → BoardFinish

abbrev pub is_bad : BoardFinish → Bool
is_bad (BadCode at) = true
is_bad _ = false

pub record BoardTrace : Type 0 where
  pub output : List ℕ
  pub finish : BoardFinish

-- a state without frames, which no run comes to, is told at the entry's image
abbrev pub bad_place : List Image → Option CodePlace → ℕ
bad_place images (Some c) = flash_place images c
bad_place images None = image_at images (entry_image images)

-- a state that has no case is bad code at its instruction, and an entry method that no run starts with at its image
abbrev pub finish_at : List Image → Finish → BoardFinish
finish_at images (WithNumber number) = Returned number
finish_at images (WithClass name) = Threw name
finish_at images MemorySpent = Spent
finish_at images StepsSpent = Stopped
finish_at images (NoCase at) = BadCode (bad_place images at)
finish_at images NoStart = BadCode (image_at images (entry_image images))

-- the same run, with the places of the flash
abbrev pub placed_trace : List Image → Trace → BoardTrace
placed_trace images t = record { output = t.output; finish = finish_at images t.finish }

-- at most n steps in so many cells, over a found set
unfoldable pub board_trace : List Image → ℕ → ℕ → BoardTrace
board_trace images n most = placed_trace images (trace (board_program (set_parts images)) n most)
