-- The rules of refusal on classes and their members, each a test of one class (of one member where that is looked at by itself).
-- Rules 23 to 31; what only rows tell (an Extends or a type of a signature that doesn't resolve, a class layout, two types of one
-- name) is a test on rows, and leaves here a superclass, an interface or a signature that isn't there.
use Rattle.std.specs.Prelude.{◌≡◌, codes, ℕ, zero, suc, Bool, true, false, ◌&&◌, ◌||◌, not, nat_le, nat_eq, if◌then◌else◌, List, [], ◌∷◌, Option, Some, None, is_some}
use Rattle.std.specs.List.{list_all, list_any}
use Rattle.plain_types.specs.declared.elem.Elem.{Elem}
use Rattle.plain_types.specs.declared.elem.Elem.TheVariants as elem
use Rattle.machine.specs.Data.{Id, Basic, elem_cell, elem_number, type_eq}
use Rattle.machine.specs.Program.{Body, Native}
use Rattle.machine.specs.Texts.{same_text}
use Rattle.machine.specs.Trace.{strings}
use Rattle.machine_typed.specs.Typing.{is_number, has_body}
use Rattle.classes.specs.Classes.{Classes, Class, OwnField, OwnMethod, Signature, SigType, Spelt, ClassToken, ValueToken, ArraySig, SigPlace, Direct, ByRef, FieldKind, DataField, TypeKind, Enumeration, OtherValue}
use Rattle.classes.specs.Code.{Sources}
use Rattle.classes.specs.Queries.{listed, ends, above, enclosing_of, interfaces_of, parents, is_interface, is_sub, some_eq, basic, array, library_class, type_of, type_of_class, own_instance_fields, is_instance, is_instance_kind, is_static_kind, is_named, is_field_named, methods_of, method_at, target, flag_eq, is_integer, kind_of}
use Rattle.classes.specs.Listed.{is_constructor}
use Rattle.class_rules.specs.Facts.{is_reference_class}

abbrev pub holds_some : {A : Type 0} → Option A → (A → Bool) → Bool
holds_some None test = false
holds_some (Some x) test = test x

-- the class is in a file of the user's, behind the base library's two
abbrev pub is_user : Id → Bool
is_user c = nat_le 2 c.file

-- where the first holds, the second does
abbrev pub only_if : Bool → Bool → Bool
only_if true b = b
only_if false b = true

-- ---- 24: the superclass. `n` is the number of all types: a chain that is longer goes in a circle

-- neither Array nor String nor a value type
abbrev pub may_be_extended : Classes → Id → Bool
may_be_extended cs d = not (some_eq (Some d) (array cs)) && (not (some_eq (Some d) (basic cs elem.String)) && is_reference_class cs d)

abbrev pub is_module : Class → Bool
is_module k = same_text k.namespace [] && (same_text k.name (codes "<Module>") && not (is_some k.enclosing))

abbrev pub superclass_fits : Classes → Id → Class → Option Id → Bool
superclass_fits cs c k None = k.is_interface || (some_eq (Some c) (basic cs elem.Object) || is_module k)
superclass_fits cs c k (Some d) = not k.is_interface && (is_some (cs.class d) && (not (is_interface cs d) && only_if (is_user c) (may_be_extended cs d)))

abbrev pub extends_well : ℕ → Classes → Id → Class → Bool
extends_well n cs c k = superclass_fits cs c k k.superclass && ends n (above cs) c

-- ---- 25: what it implements

abbrev pub may_be_implemented : ℕ → Classes → Id → Bool
may_be_implemented n cs i = is_interface cs i && ends n (interfaces_of cs) i

abbrev pub implements_well : ℕ → Classes → Class → Bool
implements_well n cs k = list_all (may_be_implemented n cs) k.interfaces

-- ---- 26: value types

abbrev pub is_spelt : Elem → Option SigType → Bool
is_spelt e (Some (Spelt g)) = nat_eq (elem_number e) (elem_number g)
is_spelt e _ = false

abbrev pub is_one_of : Elem → List OwnField → Bool
is_one_of e (f ∷ []) = is_spelt e f.signature
is_one_of e _ = false

abbrev pub is_none_there : {A : Type 0} → List A → Bool
is_none_there [] = true
is_none_there (x ∷ xs) = false

-- an enum has one integer as its instance field; another value type of the user's has no field that isn't a data field
abbrev pub value_well : Classes → Id → TypeKind → Bool
value_well cs c (Enumeration e) = is_integer e && is_one_of e (own_instance_fields cs c)
value_well cs c OtherValue = only_if (is_user c) (is_none_there (own_instance_fields cs c))
value_well cs c _ = true

abbrev pub is_enclosed_well : ℕ → Classes → Id → Bool
is_enclosed_well n cs c = ends n (λ d. listed (enclosing_of cs d)) c

-- ---- 27: signatures. 12 names a class or an interface, 11 an enum (a primitive too); a handle only as a parameter in the library,
-- a data type only of a data field

abbrev pub sig_fits : Classes → SigType → Bool
sig_fits cs (Spelt e) = is_some (elem_cell e)
sig_fits cs (ClassToken c) = is_reference_class cs c
sig_fits cs (ValueToken c) = is_number (type_of_class cs c)
sig_fits cs (ArraySig s) = sig_fits cs s

abbrev pub is_data_kind : FieldKind → Bool
is_data_kind (DataField bytes) = true
is_data_kind _ = false

-- a value type of the user's that is no enum
abbrev pub is_data_type : Id → TypeKind → Bool
is_data_type c OtherValue = is_user c
is_data_type c _ = false

abbrev pub data_sig_fits : Classes → SigType → Bool
data_sig_fits cs (ValueToken c) = is_number (type_of_class cs c) || holds_some (kind_of cs c) (is_data_type c)
data_sig_fits cs (ArraySig s) = data_sig_fits cs s
data_sig_fits cs s = sig_fits cs s

abbrev pub field_signature_fits : Classes → OwnField → Bool
field_signature_fits cs f = holds_some f.signature (λ s. if is_data_kind f.kind then data_sig_fits cs s else sig_fits cs s)

abbrev pub is_handle : Classes → SigType → Bool
is_handle cs (ValueToken c) = some_eq (Some c) (library_class cs (codes "RuntimeFieldHandle"))
is_handle cs (ArraySig s) = is_handle cs s
is_handle cs _ = false

abbrev pub sig_of_place : SigPlace → SigType
sig_of_place (Direct s) = s
sig_of_place (ByRef s) = s

abbrev pub result_fits : Classes → Option SigType → Bool
result_fits cs None = true
result_fits cs (Some s) = sig_fits cs s

abbrev pub signature_fits : Classes → Id → Signature → Bool
signature_fits cs c s = result_fits cs s.returns && list_all (λ p. sig_fits cs (sig_of_place p) || (nat_eq c.file 0 && is_handle cs (sig_of_place p))) s.parameters

abbrev pub method_signature_fits : Classes → Id → OwnMethod → Bool
method_signature_fits cs c m = holds_some m.signature (signature_fits cs c)

-- ---- 28: fields

abbrev pub field_stands_well : Id → Class → OwnField → Bool
field_stands_well c k f =
    not (is_instance f && k.is_interface)
    && not (is_data_type c k.kind && (is_instance_kind f.kind || is_static_kind f.kind))

-- ---- 29: methods

abbrev pub is_native : Body → Bool
is_native (Native name) = true
is_native _ = false

abbrev pub is_void : Option SigType → Bool
is_void None = true
is_void (Some s) = false

abbrev pub under_object : Classes → Id → Bool
under_object cs c = holds_some (basic cs elem.Object) (is_sub cs c)

-- a constructor; one of a class that isn't under Object makes no object
abbrev pub constructor_fits : Classes → Id → Class → OwnMethod → Bool
constructor_fits cs c k m =
    not m.is_static && (not m.is_virtual && (holds_some m.signature (λ s. s.has_this && is_void s.returns) && (k.is_interface || under_object cs c)))

abbrev pub is_initialiser_name : OwnMethod → Bool
is_initialiser_name m = same_text m.name (codes ".cctor")

abbrev pub initialiser_fits : OwnMethod → Bool
initialiser_fits m = m.is_static && holds_some m.signature (λ s. not s.has_this && (is_none_there s.parameters && is_void s.returns))

abbrev pub method_stands_well : Classes → Id → Class → OwnMethod → Bool
method_stands_well cs c k m =
    not (is_user c && is_native m.body)
    && (not (m.is_static && m.is_virtual)
    && (only_if m.is_abstract m.is_virtual
    && (only_if m.is_abstract k.is_abstract
    && (flag_eq (has_body m.body) (not m.is_abstract)
    && (only_if (is_constructor m) (constructor_fits cs c k m)
    && only_if (is_initialiser_name m) (initialiser_fits m))))))

-- ---- 30: no two of one name and signature

abbrev pub fields_apart : List OwnField → Bool
fields_apart [] = true
fields_apart (f ∷ fs) = not (list_any (is_field_named f.name f.signature) fs) && fields_apart fs

abbrev pub methods_apart : List OwnMethod → Bool
methods_apart [] = true
methods_apart (m ∷ ms) = not (list_any (is_named m.name m.signature) ms) && methods_apart ms

-- ---- 31: slots

-- whether a test holds of a class and of all that it reaches
abbrev pub all_reached : ℕ → (Id → List Id) → (Id → Bool) → Id → Bool
all_reached zero next test c = test c
all_reached (suc n) next test c = test c && list_all (all_reached n next test) (next c)

abbrev pub has_body_at : Classes → Id → OwnMethod → Bool
has_body_at cs c m = holds_some (target cs c m.id) (λ b. holds_some (method_at cs b) (λ x. has_body x.body))

-- a virtual method of a class, and a method of an interface, unless it is static
abbrev pub is_slot : Classes → Id → OwnMethod → Bool
is_slot cs k m = not m.is_static && (m.is_virtual || is_interface cs k)

abbrev pub fills : Classes → Id → Id → Bool
fills cs c k = list_all (λ m. only_if (is_slot cs k m) (has_body_at cs c m)) (methods_of cs k)

abbrev pub is_filled : Classes → Id → Bool
is_filled cs c = all_reached cs.size (parents cs) (fills cs c) c

-- interfaces and abstract classes are passed over, but no value type, of which a box is made
abbrev pub slots_filled : Classes → Id → Class → Bool
slots_filled cs c k = k.is_interface || ((k.is_abstract && is_reference_class cs c) || is_filled cs c)

-- ---- 23: the entry

abbrev pub main_takes : Classes → List SigPlace → Bool
main_takes cs [] = true
main_takes cs (Direct s ∷ []) = type_eq (type_of cs s) strings
main_takes cs _ = false

abbrev pub main_gives : Classes → Option SigType → Bool
main_gives cs None = true
main_gives cs (Some s) = type_eq (type_of cs s) (Basic elem.I4)

abbrev pub is_main : Classes → Id → OwnMethod → Bool
is_main cs owner m = is_user owner && (m.is_static && holds_some m.signature (λ s. not s.has_this && (main_takes cs s.parameters && main_gives cs s.returns)))

-- a method of a type's
abbrev pub entry_fits : Sources → Bool
entry_fits x = holds_some x.entry (λ id. holds_some (x.classes.method_owner id) (λ owner. holds_some (method_at x.classes id) (is_main x.classes owner)))

-- ---- the whole

pub record Keeps (n : ℕ) (cs : Classes) : Type 0 where
  pub extends : (c : Id) (k : Class) → cs.class c ≡ Some k → extends_well n cs c k ≡ true
  pub implements : (c : Id) (k : Class) → cs.class c ≡ Some k → implements_well n cs k ≡ true
  pub values : (c : Id) (k : Class) → cs.class c ≡ Some k → value_well cs c k.kind ≡ true
  pub field_signatures : (c : Id) (k : Class) → cs.class c ≡ Some k → list_all (field_signature_fits cs) k.fields ≡ true
  pub method_signatures : (c : Id) (k : Class) → cs.class c ≡ Some k → list_all (method_signature_fits cs c) k.methods ≡ true
  pub fields : (c : Id) (k : Class) → cs.class c ≡ Some k → list_all (field_stands_well c k) k.fields ≡ true
  pub methods : (c : Id) (k : Class) → cs.class c ≡ Some k → list_all (method_stands_well cs c k) k.methods ≡ true
  pub slots : (c : Id) (k : Class) → cs.class c ≡ Some k → slots_filled cs c k ≡ true
