-- What a class adds to the nearest class above it of which objects are made, and when the slots of that have bodies.
use Rattle.std.specs.Prelude.{◌≡◌, ℕ, true, false, Bool, ◌&&◌, ◌||◌, not, Option, Some, slice_get}
use Rattle.std.specs.List.{find}
use Rattle.machine.specs.Data.{Id}
use Rattle.machine.specs.Throw.{on_some}
use Rattle.classes.specs.Classes.{Class, Classes, OwnMethod}
use Rattle.classes.specs.Queries.{above, chain, ends, is_interface, methods_of, parents, superclass_of}
use Rattle.class_rules.specs.Facts.{is_reference_class}
use Rattle.class_rules.specs.Rules.{all_reached, fills, holds_some}
use Rattle.class_reach.specs.Until.{parents_until}

-- objects are made of the class: it is neither an interface nor abstract, or it is a value type, of which a box is made
abbrev pub is_made : Classes → Id → Class → Bool
is_made cs c k = not (k.is_interface || (k.is_abstract && is_reference_class cs c))

abbrev pub has_objects : Classes → Id → Bool
has_objects cs c = holds_some (cs.class c) (is_made cs c)

-- the nearest such class from a class upwards, and above it
abbrev pub made_from : Classes → Id → Option Id
made_from cs c = find (has_objects cs) (chain cs c)

abbrev pub made_above : Classes → Id → Option Id
made_above cs c = on_some (superclass_of cs c) (made_from cs)

-- each slot has a body at the class of what it reaches up to before that one: itself, the abstract classes between and the
-- interfaces of these
abbrev pub adds_filled : Classes → Id → Bool
adds_filled cs c = all_reached cs.size (parents_until cs (made_above cs c)) (fills cs c) c

-- the same asked only of a class of which objects are made
abbrev pub added_filled : Classes → Id → Class → Bool
added_filled cs c k = k.is_interface || ((k.is_abstract && is_reference_class cs c) || adds_filled cs c)

-- what the way up stands on: neither superclasses nor interfaces go in a circle (24, 25), an interface has no superclass (24),
-- and a virtual method is not static (29)
pub record GoUp (cs : Classes) : Type 0 where
  pub chains : (c : Id) (k : Class) → cs.class c ≡ Some k → ends cs.size (above cs) c ≡ true
  pub ways : (c : Id) (k : Class) → cs.class c ≡ Some k → ends cs.size (parents cs) c ≡ true
  pub no_super : (c d : Id) → superclass_of cs c ≡ Some d → is_interface cs c ≡ false
  pub virtual : (c : Id) (i : ℕ) (m : OwnMethod) → slice_get (methods_of cs c) i ≡ Some m → m.is_virtual ≡ true → m.is_static ≡ false
