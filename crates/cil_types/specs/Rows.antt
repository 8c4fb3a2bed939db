-- Types of the world with rows from 0.
use Rattle.std.specs.Prelude.{◌≡◌}
use Rattle.ecma_types.specs.declared.stack.PlaceType.{PlaceType as WorldPlace}
use Rattle.ecma_types.specs.declared.stack.StackType.{StackType as WorldType}
use Rattle.machine.specs.Data.{CliType}
use Rattle.machine.specs.Program.{Program}
use Rattle.place_types.specs.Types.{base_type, stack_in, stack_of, stack_up, type_down, type_of}
use Rattle.classes.specs.Classes.{Classes}
use Rattle.classes.specs.Queries.{fits}

-- the type that a place holds, or to which its pointers lead
abbrev pub type_in : WorldPlace → CliType
type_in t = type_down (type_of t)

-- the same without array brackets
abbrev pub base_in : WorldPlace → CliType
base_in t = type_down (base_type t.elem t.of)

-- its class has a row, so that it is told from what it is with rows from 0
abbrev pub HasRow : WorldType → Type 0
HasRow t = stack_up (stack_in t) ≡ stack_of t

-- a program whose references fit as those of its classes do
abbrev pub FitsAs : Classes → Program → Type 0
FitsAs cs p = (a b : CliType) → p.fits a b ≡ fits cs a b
