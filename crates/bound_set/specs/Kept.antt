-- What a bound set keeps, as contracts see it: places, what rows name, and the classes that are needed by their names.
use Rattle.std.specs.Prelude.{ℕ, List, Option}
use Rattle.board_types.specs.declared.board.Known.{Known}
use Rattle.plain_types.specs.declared.elem.Elem.{Elem}
use Rattle.machine.specs.Data.{Id}

pub record Kept : Type 0 where
  -- where the images begin in the flash
  pub places : List ℕ
  -- what a row of an assembly's table of references names
  pub named : ℕ → ℕ → ℕ → Option Id
  pub known : Known → Option Id
  pub basic : Elem → Option Id
  pub array : Option Id
