-- A slot that has a body, and the methods of a table where slots are looked at.
use Rattle.std.specs.Prelude.{◌≡◌, ℕ, Bool, Some, slice_get}
use Rattle.machine.specs.Data.{Id}
use Rattle.classes.specs.Classes.{Classes, OwnMethod}
use Rattle.classes.specs.Queries.{method_at, methods_of}
use Rattle.class_table.specs.Seen.{classes_seen}
use Rattle.member_search.specs.declared.sort.Sort.TheVariants.{Method}
use Rattle.member_search.specs.Shown.{Indexed}
use Rattle.class_rules.specs.Rules.{has_body_at, is_slot, only_if}
use Rattle.class_targets.specs.Virtual.{AreApart}
use Rattle.class_targets.specs.Bodied.{AreBodied}

-- each method belongs to the class that lists it, and is found there by its number: the rows of types stand well (rule 12)
abbrev pub AreOwned : Classes → Type 0
AreOwned cs = (c : Id) (i : ℕ) (m : OwnMethod) → slice_get (methods_of cs c) i ≡ Some m → (cs.method_owner m.id ≡ Some c) × (method_at cs m.id ≡ Some m)

-- no class has two methods of one name and signature, each has a body unless it is abstract, and each is its class's
pub record MethodsStand (cs : Classes) : Type 0 where
  pub apart : AreApart cs
  pub bodied : AreBodied cs
  pub owned : AreOwned cs

-- an index of methods, and these stand well
pub record StandWell (x : Indexed) : Type 0 where
  pub sort : x.sort ≡ Method
  pub methods : MethodsStand (classes_seen x.table)

-- where the method is a slot of what is below its owner, a call of it finds a body
abbrev pub slot_filled : Classes → Id → Id → OwnMethod → Bool
slot_filled cs c owner m = only_if (is_slot cs owner m) (has_body_at cs c m)
