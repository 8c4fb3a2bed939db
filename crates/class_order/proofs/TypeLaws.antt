-- Types without arrays, as the code and as the machine has them.
use Rattle.std.proofs.Common.{◌≡◌, Bool, true, false, ◌↔◌, refl, sym, ap, ◌∙◌}
use Rattle.std.specs.Prelude.{◌||◌, IsTrue}
use Rattle.plain_types.specs.declared.elem.Elem.TheVariants as elem
use Rattle.machine.specs.Data.{Id, CliType, Basic, EnumOf, ClassOf, ValueOf, ArrayOf, type_eq}
use Rattle.machine_typed.proofs.Types.{type_same, type_here}
use Rattle.classes.specs.Classes.{Classes}
use Rattle.classes.specs.Queries.{class_of, classes_fit, fits, is_object}
use Rattle.member_keys.specs.declared.keys.ClassId.{ClassId}
use Rattle.class_order.specs.declared.types.BaseType.{BaseType}
use Rattle.class_order.specs.declared.types.BaseType.TheVariants as base
use Rattle.class_order.specs.Types.{base_seen}

class_back : Id → ClassId
class_back c = record { file = c.file; row = c.row }

base_back : CliType → BaseType
unfolding class_back
base_back (Basic e) = base.Basic e
base_back (EnumOf e c) = base.EnumOf e (class_back c)
base_back (ClassOf c) = base.ClassOf (class_back c)
base_back (ValueOf c) = base.ValueOf (class_back c)
base_back (ArrayOf a) = base.Basic elem.Void

seen_back : (b : BaseType) → base_back (base_seen b) ≡ b
unfolding base_back class_back
seen_back (base.Basic e) = refl
seen_back (base.EnumOf e c) = refl
seen_back (base.ClassOf c) = refl
seen_back (base.ValueOf c) = refl

pub base_alike : (a b : BaseType) → type_eq (base_seen a) (base_seen b) ≡ true → a ≡ b
base_alike a b e = sym (seen_back a) ∙ ap base_back (type_same (base_seen a) (base_seen b) e) ∙ seen_back b

-- a test that tells equal ones tells equal types
pub same_base : (r : Bool) (a b : BaseType) → (IsTrue r ↔ (a ≡ b)) → r ≡ type_eq (base_seen a) (base_seen b)
same_base true a b e = sym (ap (λ x. type_eq (base_seen x) (base_seen b)) (e.0 refl) ∙ type_here (base_seen b))
same_base false a b e = at (type_eq (base_seen a) (base_seen b)) refl
  where
    at : (c : Bool) → type_eq (base_seen a) (base_seen b) ≡ c → false ≡ c
    at false h = refl
    at true h = e.1 (base_alike a b h)

-- what fits, where neither type is an array
pub base_fits : (cs : Classes) (a b : BaseType) → fits cs (base_seen a) (base_seen b) ≡ (type_eq (base_seen a) (base_seen b) || (is_object cs (base_seen b) || classes_fit cs (class_of cs (base_seen a)) (class_of cs (base_seen b))))
base_fits cs (base.Basic e) (base.Basic g) = refl
base_fits cs (base.Basic e) (base.EnumOf g d) = refl
base_fits cs (base.Basic e) (base.ClassOf d) = refl
base_fits cs (base.Basic e) (base.ValueOf d) = refl
base_fits cs (base.EnumOf e c) (base.Basic g) = refl
base_fits cs (base.EnumOf e c) (base.EnumOf g d) = refl
base_fits cs (base.EnumOf e c) (base.ClassOf d) = refl
base_fits cs (base.EnumOf e c) (base.ValueOf d) = refl
base_fits cs (base.ClassOf c) (base.Basic g) = refl
base_fits cs (base.ClassOf c) (base.EnumOf g d) = refl
base_fits cs (base.ClassOf c) (base.ClassOf d) = refl
base_fits cs (base.ClassOf c) (base.ValueOf d) = refl
base_fits cs (base.ValueOf c) (base.Basic g) = refl
base_fits cs (base.ValueOf c) (base.EnumOf g d) = refl
base_fits cs (base.ValueOf c) (base.ClassOf d) = refl
base_fits cs (base.ValueOf c) (base.ValueOf d) = refl
