-- What the machine and the verdict ask of classes: chains, assignability, members, slots. All are total, on any classes.
use Rattle.std.specs.Prelude.{codes, nat_eq, ℕ, zero, suc, Bool, true, false, ◌&&◌, ◌||◌, not, if◌then◌else◌, List, [], ◌∷◌, ◌++◌, Option, Some, None, unwrap_or}
use Rattle.std.specs.List.{list_any, list_all, find, filter}
use Rattle.std.specs.Option.{option_map}
use Rattle.board_types.specs.declared.board.Known.{Known}
use Rattle.board_types.specs.declared.board.Known.TheVariants as exception
use Rattle.plain_types.specs.declared.elem.Elem.{Elem}
use Rattle.plain_types.specs.declared.elem.Elem.TheVariants as elem
use Rattle.machine.specs.Data.{Id, id_eq, CliType, Basic, EnumOf, ClassOf, ValueOf, ArrayOf, PlaceType, Plain, To, Cell, Bits, Refers, cell_of, type_eq, elem_number}
use Rattle.machine.specs.Program.{Initialiser}
use Rattle.machine.specs.Numbers.{same_width}
use Rattle.machine.specs.Texts.{same_text}
use Rattle.machine.specs.Throw.{on_some}
use Rattle.classes.specs.Classes.{SigType, Spelt, ClassToken, ValueToken, ArraySig, SigPlace, Direct, ByRef, Signature, FieldKind, InstanceField, StaticField, DataField, OwnField, OwnMethod, TypeKind, Reference, Builtin, Enumeration, OtherValue, Class, Classes}

abbrev pub listed : {A : Type 0} → Option A → List A
listed None = []
listed (Some x) = x ∷ []

-- ---- ways from class to class

-- whether a class is reached in at most so many steps
abbrev pub reaches : ℕ → (Id → List Id) → Id → Id → Bool
reaches zero next a b = id_eq a b
reaches (suc n) next a b = id_eq a b || list_any (λ c. reaches n next c b) (next a)

-- whether each way on ends within so many steps: none goes in a circle
abbrev pub ends : ℕ → (Id → List Id) → Id → Bool
ends zero next a = false
ends (suc n) next a = list_all (ends n next) (next a)

abbrev pub superclass_of : Classes → Id → Option Id
superclass_of cs c = on_some (cs.class c) (λ k. k.superclass)

abbrev pub enclosing_of : Classes → Id → Option Id
enclosing_of cs c = on_some (cs.class c) (λ k. k.enclosing)

abbrev pub interfaces_of : Classes → Id → List Id
interfaces_of cs c = unwrap_or (option_map (λ k. k.interfaces) (cs.class c)) []

abbrev pub above : Classes → Id → List Id
above cs c = listed (superclass_of cs c)

abbrev pub parents : Classes → Id → List Id
parents cs c = above cs c ++ interfaces_of cs c

-- whether the class is the other one, or below it
abbrev pub is_sub : Classes → Id → Id → Bool
is_sub cs a b = reaches cs.size (above cs) a b

-- whether it is the other one, below it, or implements it
abbrev pub is_or_implements : Classes → Id → Id → Bool
is_or_implements cs a b = reaches cs.size (parents cs) a b

-- the class, its superclass, that one's, and so on
abbrev pub chain_within : ℕ → Classes → Id → List Id
chain_within zero cs c = c ∷ []
chain_within (suc n) cs c = c ∷ unwrap_or (option_map (chain_within n cs) (superclass_of cs c)) []

abbrev pub chain : Classes → Id → List Id
chain cs c = chain_within cs.size cs c

-- the nearest class that is above both, or one of them
abbrev pub common_superclass : Classes → Id → Id → Option Id
common_superclass cs a b = find (λ c. is_sub cs b c) (chain cs a)

-- ---- types of places

abbrev pub type_by_kind : Option TypeKind → Id → CliType
type_by_kind (Some (Builtin e)) c = Basic e
type_by_kind (Some (Enumeration e)) c = EnumOf e c
type_by_kind (Some OtherValue) c = ValueOf c
type_by_kind (Some Reference) c = ClassOf c
type_by_kind None c = ClassOf c

-- what the number of an enum may be: no bool and no char
abbrev pub is_integer : Elem → Bool
is_integer elem.I1 = true
is_integer elem.U1 = true
is_integer elem.I2 = true
is_integer elem.U2 = true
is_integer elem.I4 = true
is_integer elem.U4 = true
is_integer elem.I8 = true
is_integer elem.U8 = true
is_integer _ = false

abbrev pub kind_of : Classes → Id → Option TypeKind
kind_of cs c = option_map (λ k. k.kind) (cs.class c)

-- the type of places that a class gives
abbrev pub type_of_class : Classes → Id → CliType
type_of_class cs c = type_by_kind (kind_of cs c) c

abbrev pub type_of : Classes → SigType → CliType
type_of cs (Spelt e) = Basic e
type_of cs (ClassToken c) = type_of_class cs c
type_of cs (ValueToken c) = type_of_class cs c
type_of cs (ArraySig s) = ArrayOf (type_of cs s)

abbrev pub place_of : Classes → SigPlace → PlaceType
place_of cs (Direct s) = Plain (type_of cs s)
place_of cs (ByRef s) = To (type_of cs s)

-- `this` of a method of a class: a reference, or of a value type a pointer
abbrev pub this_by : Option Cell → CliType → PlaceType
this_by (Some Refers) type = Plain type
this_by _ type = To type

abbrev pub this_of : Classes → Id → PlaceType
this_of cs c = this_by (cell_of (type_of_class cs c)) (type_of_class cs c)

-- ---- names and members

abbrev pub sig_type_eq : SigType → SigType → Bool
sig_type_eq (Spelt e) (Spelt g) = nat_eq (elem_number e) (elem_number g)
sig_type_eq (ClassToken c) (ClassToken d) = id_eq c d
sig_type_eq (ValueToken c) (ValueToken d) = id_eq c d
sig_type_eq (ArraySig s) (ArraySig t) = sig_type_eq s t
sig_type_eq _ _ = false

abbrev pub sig_place_eq : SigPlace → SigPlace → Bool
sig_place_eq (Direct s) (Direct t) = sig_type_eq s t
sig_place_eq (ByRef s) (ByRef t) = sig_type_eq s t
sig_place_eq _ _ = false

abbrev pub sig_places_eq : List SigPlace → List SigPlace → Bool
sig_places_eq [] [] = true
sig_places_eq (p ∷ ps) (q ∷ qs) = sig_place_eq p q && sig_places_eq ps qs
sig_places_eq _ _ = false

abbrev pub result_eq : Option SigType → Option SigType → Bool
result_eq None None = true
result_eq (Some s) (Some t) = sig_type_eq s t
result_eq _ _ = false

abbrev pub flag_eq : Bool → Bool → Bool
flag_eq true b = b
flag_eq false b = not b

abbrev pub signature_eq : Signature → Signature → Bool
signature_eq a b = flag_eq a.has_this b.has_this && (result_eq a.returns b.returns && sig_places_eq a.parameters b.parameters)

-- a signature that has no form equals none, itself neither
abbrev pub field_signature_eq : Option SigType → Option SigType → Bool
field_signature_eq (Some s) (Some t) = sig_type_eq s t
field_signature_eq _ _ = false

abbrev pub method_signature_eq : Option Signature → Option Signature → Bool
method_signature_eq (Some s) (Some t) = signature_eq s t
method_signature_eq _ _ = false

-- whether a method has that name and signature
abbrev pub is_named : List ℕ → Option Signature → OwnMethod → Bool
is_named name signature m = same_text m.name name && method_signature_eq m.signature signature

abbrev pub is_field_named : List ℕ → Option SigType → OwnField → Bool
is_field_named name signature f = same_text f.name name && field_signature_eq f.signature signature

abbrev pub methods_of : Classes → Id → List OwnMethod
methods_of cs c = unwrap_or (option_map (λ k. k.methods) (cs.class c)) []

abbrev pub fields_of : Classes → Id → List OwnField
fields_of cs c = unwrap_or (option_map (λ k. k.fields) (cs.class c)) []

abbrev pub method_at : Classes → Id → Option OwnMethod
method_at cs id = on_some (cs.method_owner id) (λ c. find (λ m. id_eq m.id id) (methods_of cs c))

abbrev pub field_at : Classes → Id → Option OwnField
field_at cs id = on_some (cs.field_owner id) (λ c. find (λ f. id_eq f.id id) (fields_of cs c))

abbrev pub or_else : {A : Type 0} → Option A → Option A → Option A
or_else (Some x) other = Some x
or_else None other = other

-- the first that is there
abbrev pub first_some : {A B : Type 0} → (A → Option B) → List A → Option B
first_some look [] = None
first_some look (x ∷ xs) = or_else (look x) (first_some look xs)

-- a member reference: searched in the class and then up its superclasses (II.22.25)
abbrev pub find_method : Classes → Id → List ℕ → Option Signature → Option OwnMethod
find_method cs c name signature = first_some (λ d. find (is_named name signature) (methods_of cs d)) (chain cs c)

abbrev pub find_field : Classes → Id → List ℕ → Option SigType → Option OwnField
find_field cs c name signature = first_some (λ d. find (is_field_named name signature) (fields_of cs d)) (chain cs c)

-- ---- the body that a virtual call finds (I.12.2.1, II.10.3)

abbrev pub is_virtual_named : OwnMethod → OwnMethod → Bool
is_virtual_named m x = x.is_virtual && is_named m.name m.signature x

-- the class's virtual method of the name and signature
abbrev pub own_virtual : Classes → OwnMethod → Id → Option OwnMethod
own_virtual cs m c = find (is_virtual_named m) (methods_of cs c)

-- the nearest virtual method of the name and signature above a class
abbrev pub nearest : Classes → OwnMethod → Id → Option OwnMethod
nearest cs m c = first_some (own_virtual cs m) (unwrap_or (option_map (chain_within cs.size cs) (superclass_of cs c)) [])

-- a search from the method's class down: the body so far, and whether a new slot of the same name has ended it
pub data Search : Type 0 where
  Open : (body : Id) → Search
  Ended : (body : Id) → Search

abbrev pub search_body : Search → Id
search_body (Open body) = body
search_body (Ended body) = body

abbrev pub overridden : Option OwnMethod → Search → Search
overridden None s = s
overridden (Some x) (Ended body) = Ended body
overridden (Some x) (Open body) = if x.is_newslot then Ended body else Open x.id

-- from a class's chain: none where the method's class isn't in it
abbrev pub slot_search : Classes → Id → OwnMethod → List Id → Option Search
slot_search cs owner m [] = None
slot_search cs owner m (c ∷ cs') =
    if id_eq c owner then Some (Open m.id) else option_map (overridden (own_virtual cs m c)) (slot_search cs owner m cs')

-- of an interface method the first of its name from the object's class upwards, where that is a class that implements the interface
abbrev pub target_by : Classes → Bool → Bool → Id → OwnMethod → List Id → Option Id
target_by cs true implements owner m up = if implements then option_map (λ x. x.id) (first_some (own_virtual cs m) up) else None
target_by cs false implements owner m up = if m.is_virtual then option_map search_body (slot_search cs owner m up) else Some m.id

abbrev pub is_interface : Classes → Id → Bool
is_interface cs c = unwrap_or (option_map (λ k. k.is_interface) (cs.class c)) false

abbrev pub target : Classes → Id → Id → Option Id
target cs c id =
    on_some (cs.method_owner id) (λ owner. on_some (method_at cs id) (λ m. target_by cs (is_interface cs owner) (is_or_implements cs c owner && not (is_interface cs c)) owner m (chain cs c)))

-- ---- fields

abbrev pub is_instance_kind : FieldKind → Bool
is_instance_kind InstanceField = true
is_instance_kind _ = false

abbrev pub is_static_kind : FieldKind → Bool
is_static_kind StaticField = true
is_static_kind _ = false

abbrev pub data_of : FieldKind → Option (List ℕ)
data_of (DataField bytes) = Some bytes
data_of _ = None

abbrev pub is_instance : OwnField → Bool
is_instance f = is_instance_kind f.kind

abbrev pub own_instance_fields : Classes → Id → List OwnField
own_instance_fields cs c = filter is_instance (fields_of cs c)

-- the instance fields, inherited ones first
abbrev pub instance_fields_within : ℕ → Classes → Id → List OwnField
instance_fields_within zero cs c = own_instance_fields cs c
instance_fields_within (suc n) cs c =
    unwrap_or (option_map (instance_fields_within n cs) (superclass_of cs c)) [] ++ own_instance_fields cs c

abbrev pub instance_fields : Classes → Id → List OwnField
instance_fields cs c = instance_fields_within cs.size cs c

abbrev pub cons_some : {A : Type 0} → Option A → Option (List A) → Option (List A)
cons_some (Some x) (Some xs) = Some (x ∷ xs)
cons_some _ _ = None

abbrev pub field_types : Classes → List OwnField → Option (List CliType)
field_types cs [] = Some []
field_types cs (f ∷ fs) = cons_some (option_map (type_of cs) f.signature) (field_types cs fs)

abbrev pub fields : Classes → Id → Option (List CliType)
fields cs c = on_some (cs.class c) (λ k. field_types cs (instance_fields cs c))

abbrev pub static : Classes → Id → Option CliType
static cs id = on_some (field_at cs id) (λ f. if is_static_kind f.kind then option_map (type_of cs) f.signature else None)

abbrev pub bytes : Classes → Id → Option (List ℕ)
bytes cs id = on_some (field_at cs id) (λ f. data_of f.kind)

-- ---- classes by name

abbrev pub has_name : Classes → List ℕ → Id → Bool
has_name cs name c = unwrap_or (option_map (λ k. same_text k.namespace (codes "System") && same_text k.name name) (cs.class c)) false

-- the first class of the base library with that name
abbrev pub library_class : Classes → List ℕ → Option Id
library_class cs name = find (has_name cs name) cs.library

abbrev pub known_name : Known → List ℕ
known_name exception.NullReference = codes "NullReferenceException"
known_name exception.IndexOutOfRange = codes "IndexOutOfRangeException"
known_name exception.Overflow = codes "OverflowException"
known_name exception.Arithmetic = codes "ArithmeticException"
known_name exception.DivideByZero = codes "DivideByZeroException"
known_name exception.InvalidCast = codes "InvalidCastException"
known_name exception.ArrayTypeMismatch = codes "ArrayTypeMismatchException"
known_name exception.Argument = codes "ArgumentException"
known_name exception.ArgumentNull = codes "ArgumentNullException"
known_name exception.ArgumentOutOfRange = codes "ArgumentOutOfRangeException"

abbrev pub knowns : List Known
knowns =
    exception.NullReference ∷ exception.IndexOutOfRange ∷ exception.Overflow ∷ exception.Arithmetic ∷ exception.DivideByZero ∷ exception.InvalidCast
    ∷ exception.ArrayTypeMismatch ∷ exception.Argument ∷ exception.ArgumentNull ∷ exception.ArgumentOutOfRange ∷ []

abbrev pub basic_name : Elem → Option (List ℕ)
basic_name elem.Bool = Some (codes "Boolean")
basic_name elem.Char = Some (codes "Char")
basic_name elem.I1 = Some (codes "SByte")
basic_name elem.U1 = Some (codes "Byte")
basic_name elem.I2 = Some (codes "Int16")
basic_name elem.U2 = Some (codes "UInt16")
basic_name elem.I4 = Some (codes "Int32")
basic_name elem.U4 = Some (codes "UInt32")
basic_name elem.I8 = Some (codes "Int64")
basic_name elem.U8 = Some (codes "UInt64")
basic_name elem.String = Some (codes "String")
basic_name elem.Object = Some (codes "Object")
basic_name elem.Void = None
basic_name elem.Class = None
basic_name elem.Value = None

-- the elements that have classes
abbrev pub elements : List Elem
elements =
    elem.Bool ∷ elem.Char ∷ elem.I1 ∷ elem.U1 ∷ elem.I2 ∷ elem.U2 ∷ elem.I4 ∷ elem.U4 ∷ elem.I8 ∷ elem.U8 ∷ elem.String ∷ elem.Object ∷ []

abbrev pub known : Classes → Known → Option Id
known cs k = library_class cs (known_name k)

abbrev pub basic : Classes → Elem → Option Id
basic cs e = on_some (basic_name e) (library_class cs)

abbrev pub array : Classes → Option Id
array cs = library_class cs (codes "Array")

abbrev pub exception_class : Classes → Option Id
exception_class cs = library_class cs (codes "Exception")

-- a type's own part of its full name, and the whole
abbrev pub own_name : Class → List ℕ
own_name k = if same_text k.namespace [] then k.name else k.namespace ++ (codes "." ++ k.name)

abbrev pub full_name_within : ℕ → Classes → Id → List ℕ
full_name_within zero cs c = unwrap_or (option_map own_name (cs.class c)) []
full_name_within (suc n) cs c =
    unwrap_or (option_map (λ outer. full_name_within n cs outer ++ codes "+") (enclosing_of cs c)) [] ++ unwrap_or (option_map own_name (cs.class c)) []

abbrev pub full_name : Classes → Id → List ℕ
full_name cs c = full_name_within cs.size cs c

-- the initialiser of a class (II.10.5.3)
abbrev pub is_initialiser : OwnMethod → Bool
is_initialiser m = m.is_static && same_text m.name (codes ".cctor")

abbrev pub initialiser : Classes → Id → Option Initialiser
initialiser cs c = option_map (λ m. record { class = c; method = m.id }) (find is_initialiser (methods_of cs c))

-- ---- assignable references (I.8.7, III.1.8.1.2)

-- the class of objects of the type, where it isn't an array
abbrev pub class_of : Classes → CliType → Option Id
class_of cs (Basic e) = basic cs e
class_of cs (EnumOf e c) = Some c
class_of cs (ClassOf c) = Some c
class_of cs (ValueOf c) = Some c
class_of cs (ArrayOf a) = None

abbrev pub some_eq : Option Id → Option Id → Bool
some_eq (Some a) (Some b) = id_eq a b
some_eq _ _ = false

-- Object, also where it is spelt by its class
abbrev pub is_object : Classes → CliType → Bool
is_object cs type = type_eq type (Basic elem.Object) || some_eq (class_of cs type) (basic cs elem.Object)

abbrev pub classes_fit : Classes → Option Id → Option Id → Bool
classes_fit cs (Some a) (Some b) = is_or_implements cs a b
classes_fit cs _ _ = false

-- elements of arrays: references by assignability, numbers by their width
abbrev pub elements_by : Option Cell → Option Cell → Bool → Bool
elements_by (Some (Bits a)) (Some (Bits b)) below = same_width (Bits a) (Bits b)
elements_by (Some Refers) (Some Refers) below = below
elements_by _ _ below = false

abbrev pub fits : Classes → CliType → CliType → Bool
fits cs (ArrayOf a) (ArrayOf b) = type_eq a b || elements_by (cell_of a) (cell_of b) (fits cs a b)
fits cs (ArrayOf a) b = is_object cs b || some_eq (class_of cs b) (array cs)
fits cs a (ArrayOf b) = false
fits cs a b = type_eq a b || (is_object cs b || classes_fit cs (class_of cs a) (class_of cs b))
