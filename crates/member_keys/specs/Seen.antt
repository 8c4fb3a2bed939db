-- Names and signatures as keys, seen as the members that they are (ECMA-335 II.23.2).
use Rattle.std.specs.Prelude.{◌≡◌, ℕ, zero, suc, Bool, ◌&&◌, if◌then◌else◌, List, map, Option, Some}
use Rattle.std.specs.List.{position}
use Rattle.std.specs.Option.{option_map}
use Rattle.std.specs.declared.cmp.Ordering.{Ordering}
use Rattle.std.specs.BTreeMap.{BTreeMap, get}
use Rattle.machine.specs.Data.{Id}
use Rattle.machine.specs.Texts.{same_text}
use Rattle.classes.specs.Classes.{SigType, Spelt, ClassToken, ValueToken, ArraySig, SigPlace, Direct, ByRef, Signature}
use Rattle.classes.specs.Queries.{method_signature_eq}
use Rattle.member_keys.specs.declared.keys.ClassId.{ClassId}
use Rattle.member_keys.specs.declared.keys.ElementKey.{ElementKey}
use Rattle.member_keys.specs.declared.keys.ElementKey.TheVariants as element
use Rattle.member_keys.specs.declared.keys.TypeKey.{TypeKey}
use Rattle.member_keys.specs.declared.keys.PlaceKey.{PlaceKey}
use Rattle.member_keys.specs.declared.keys.SignatureKey.{SignatureKey}
use Rattle.member_keys.specs.declared.keys.MemberKey.{MemberKey}
use Rattle.member_keys.specs.contracts.keys.MemberKeyOrd.TheImpl as member_ord

abbrev pub class_seen : ClassId → Id
class_seen c = record { file = c.file; row = c.row }

abbrev pub element_seen : ElementKey → SigType
element_seen (element.Spelt e) = Spelt e
element_seen (element.Class c) = ClassToken (class_seen c)
element_seen (element.Value c) = ValueToken (class_seen c)

abbrev pub arrays : ℕ → SigType → SigType
arrays zero s = s
arrays (suc n) s = ArraySig (arrays n s)

abbrev pub type_seen : TypeKey → SigType
type_seen t = arrays t.ranks (element_seen t.element)

abbrev pub place_seen : PlaceKey → SigPlace
place_seen p = if p.by_ref then ByRef (type_seen p.of) else Direct (type_seen p.of)

abbrev pub signature_seen : SignatureKey → Signature
signature_seen s = record { has_this = s.has_this; returns = option_map type_seen s.returns; parameters = map place_seen s.parameters.items }

-- a member of a name and a signature
abbrev pub is_member : List ℕ → Option Signature → MemberKey → Bool
is_member name signature k = same_text k.name.now name && method_signature_eq (option_map signature_seen k.signature) signature

-- the order of keys
abbrev pub member_order : MemberKey → MemberKey → Ordering
member_order = (member_ord.ghosts).cmp

-- at each name and signature the place of the first member that has them
abbrev pub FindsMembers : List MemberKey → BTreeMap MemberKey ℕ → Type 0
FindsMembers keys places =
    (wanted : MemberKey) (s : SignatureKey) → wanted.signature ≡ Some s → get member_order places wanted ≡ position (is_member wanted.name.now (Some (signature_seen s))) keys
