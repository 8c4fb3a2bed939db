-- Virtual methods by name and signature.
use Rattle.std.specs.Prelude.{◌≡◌, ℕ, ◌<◌, false, Bool, Some, slice_get}
use Rattle.std.specs.Option.{option_map}
use Rattle.machine.specs.Data.{Id}
use Rattle.classes.specs.Classes.{Class, Classes, OwnMethod}
use Rattle.classes.specs.Queries.{is_named}
use Rattle.member_keys.specs.declared.keys.MemberKey.{MemberKey}
use Rattle.member_keys.specs.Seen.{class_seen, signature_seen}
use Rattle.class_targets.specs.declared.own.Virtual.{Virtual}

-- no class has two methods of one name and signature: rule 30
abbrev pub AreApart : Classes → Type 0
AreApart cs = (c : Id) (k : Class) (i j : ℕ) (x y : OwnMethod) → cs.class c ≡ Some k → i < j → slice_get k.methods i ≡ Some x → slice_get k.methods j ≡ Some y → is_named y.name y.signature x ≡ false

-- the key is the method's name and signature
pub record IsKeyOf (key : MemberKey) (m : OwnMethod) : Type 0 where
  pub name : m.name ≡ key.name.now
  pub signature : m.signature ≡ option_map signature_seen key.signature

-- what counts of a virtual method on the way from class to class
pub record Slot : Type 0 where
  pub id : Id
  pub is_newslot : Bool

abbrev pub slot_of : OwnMethod → Slot
slot_of m = record { id = m.id; is_newslot = m.is_newslot }

abbrev pub slot_seen : Virtual → Slot
slot_seen v = record { id = class_seen v.method; is_newslot = v.is_newslot }
