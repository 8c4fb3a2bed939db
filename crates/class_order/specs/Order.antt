-- What the order of classes stands on, and where steps up from a class lead.
use Rattle.std.specs.Prelude.{◌≡◌, ℕ, zero, suc, true, Option, Some, None, slice_get}
use Rattle.machine.specs.Data.{Id}
use Rattle.machine.specs.Throw.{on_some}
use Rattle.classes.specs.Classes.{Classes}
use Rattle.classes.specs.Queries.{above, ends, interfaces_of, is_interface, superclass_of}

-- no chain of superclasses goes in a circle (24)
abbrev pub ChainsEnd : Classes → Type 0
ChainsEnd cs = (c : Id) → ends cs.size (above cs) c ≡ true

-- what classes keep: of interfaces, none has a superclass, and they alone are implemented (24, 25)
pub record InOrder (cs : Classes) : Type 0 where
  pub ends_above : ChainsEnd cs
  pub no_super : (c : Id) → is_interface cs c ≡ true → superclass_of cs c ≡ None
  pub interfaces_only : (c k : Id) (n : ℕ) → slice_get (interfaces_of cs c) n ≡ Some k → is_interface cs k ≡ true

-- so many steps up the superclasses
abbrev pub climbed : ℕ → Classes → Id → Option Id
climbed zero cs c = Some c
climbed (suc n) cs c = on_some (superclass_of cs c) (climbed n cs)
