-- When what is known of an instruction (rows from 1) is what its method and the classes of the world say (rows from 0).
use Rattle.std.specs.Prelude.{◌≡◌, ℕ, ℤ, Bool, true, false, ◌||◌, not, List, [], map, Option, Some, None, is_some, slice_get}
use Rattle.std.specs.List.{position}
use Rattle.std.specs.Option.{option_map}
use Rattle.plain_types.specs.declared.elem.Elem.{Elem}
use Rattle.plain_types.specs.declared.elem.Elem.TheVariants as elem
use Rattle.ecma_types.specs.declared.stack.PlaceType.{PlaceType as WorldPlace}
use Rattle.cil_opcodes.specs.declared.shape.Shape.{Shape}
use Rattle.cil_opcodes.specs.declared.shape.Shape.TheVariants as shape
use Rattle.file_tables.specs.Bytes.{has_bit}
use Rattle.machine.specs.Data.{Id, id_eq, CliType, PlaceType, Plain, elem_cell}
use Rattle.machine.specs.Program.{Method, Code}
use Rattle.machine_typed.specs.Typing.{is_plain, loaded, has_body}
use Rattle.classes.specs.Classes.{Classes, Class, OwnField, OwnMethod, SigType, Signature, FieldKind, InstanceField, StaticField, LiteralField, DataField, TypeKind, Builtin, Enumeration, OtherValue, Reference}
use Rattle.classes.specs.Code.{Operand as CodeOperand, Sources}
use Rattle.classes.specs.Queries.{basic, array, some_eq, is_integer, kind_of, is_instance_kind, is_static_kind, instance_fields, fields, method_at, field_at}
use Rattle.classes.specs.Queries.{type_of as type_in, place_of as place_in}
use Rattle.classes.specs.Listed.{number_of, target_of, targets_of, type_of_operand, field_of, method_of, text_of, is_constructor}
use Rattle.place_types.specs.Types.{id_of, type_of, place_of, id_up, type_up, place_up}
use Rattle.place_types.specs.Held.{has_arrays}
use Rattle.verify_ops.specs.declared.facts.Facts.{Facts}
use Rattle.verify_ops.specs.declared.facts.Operand.{Operand}
use Rattle.verify_ops.specs.declared.facts.FieldOperand.{FieldOperand}
use Rattle.verify_ops.specs.declared.facts.MethodOperand.{MethodOperand}
use Rattle.verify_ops.specs.Facts.{type_named, field_named, method_named, names_text, result_of, is_string}
use Rattle.verify_ops.specs.Facts.{kind_of as kind_by_flags}
use Rattle.verify_ops.specs.Effects.{is_never}

-- ---- the class that has a member

-- the element of a type, where a signature spells its places
abbrev pub elem_of : Option TypeKind → Elem
elem_of (Some (Builtin e)) = e
elem_of (Some (Enumeration e)) = e
elem_of (Some OtherValue) = elem.Value
elem_of (Some Reference) = elem.Class
elem_of None = elem.Class

-- a class as the type of a place, with its row also where it has an element of its own
pub record IsClass (cs : Classes) (c : Id) (t : WorldPlace) : Type 0 where
  pub single : t.ranks ≡ 0
  pub element : t.elem ≡ elem_of (kind_of cs c)
  pub row : id_of t.of ≡ id_up c

-- the library's classes of elements are those of primitives, String and Object (the base library), an enum has an integer (26)
abbrev pub kind_fits : Option TypeKind → Bool
kind_fits (Some (Builtin e)) = is_some (elem_cell e)
kind_fits (Some (Enumeration e)) = is_integer e
kind_fits _ = true

-- ---- what a token names

abbrev pub without_bytes : FieldKind → FieldKind
without_bytes (DataField bytes) = DataField []
without_bytes InstanceField = InstanceField
without_bytes StaticField = StaticField
without_bytes LiteralField = LiteralField

pub record IsField (cs : Classes) (id : Id) (f : FieldOperand) : Type 0 where
  pub owner : Id
  pub own : OwnField
  pub signature : SigType
  pub owner_is : cs.field_owner id ≡ Some owner
  pub own_is : field_at cs id ≡ Some own
  pub signed : own.signature ≡ Some signature
  pub class : IsClass cs owner f.class
  pub type : type_of f.of ≡ type_up (type_in cs signature)
  pub kind : kind_by_flags f ≡ without_bytes own.kind
  -- what the rules of classes give
  pub owner_fits : kind_fits (kind_of cs owner) ≡ true
  -- a field that isn't a data field is of a primitive, an enum or a reference type (27)
  pub plain : is_instance_kind own.kind ≡ true → is_plain (type_in cs signature) ≡ true
  pub plain_static : is_static_kind own.kind ≡ true → is_plain (type_in cs signature) ≡ true
  -- an instance field stands among its class's, at the place of its row (tables), and each of them has a signature (27)
  pub place : ℕ
  pub types : List CliType
  pub place_is : is_instance_kind own.kind ≡ true → position (λ g. id_eq g.id id) (instance_fields cs owner) ≡ Some place
  pub types_are : is_instance_kind own.kind ≡ true → fields cs owner ≡ Some types
  pub type_there : is_instance_kind own.kind ≡ true → slice_get types place ≡ Some (type_in cs signature)

-- `newobj` makes no object of it: it is abstract, or the class of arrays (III.4.21)
abbrev pub is_unmade : Option Id → Id → Class → Bool
is_unmade arrays c k = k.is_abstract || some_eq (Some c) arrays

pub record IsMethod (cs : Classes) (id : Id) (m : MethodOperand) : Type 0 where
  pub owner : Id
  pub class : Class
  pub own : OwnMethod
  pub signature : Signature
  pub owner_is : cs.method_owner id ≡ Some owner
  pub class_is : cs.class owner ≡ Some class
  pub own_is : method_at cs id ≡ Some own
  pub signed : own.signature ≡ Some signature
  pub place : IsClass cs owner m.class
  pub unmade : has_bit m.class_flags 7 ≡ is_unmade (array cs) owner class
  pub interface : has_bit m.class_flags 5 ≡ class.is_interface
  pub constructor : m.constructor ≡ is_constructor own
  pub this : m.this ≡ signature.has_this
  pub params : map place_of m.params.now ≡ map place_up (map (place_in cs) signature.parameters)
  pub returns : result_of m.returns ≡ option_map place_up (option_map (λ s. Plain (type_in cs s)) signature.returns)
  pub static : has_bit m.flags 4 ≡ own.is_static
  pub abstract : has_bit m.flags 10 ≡ own.is_abstract
  -- what the rules of classes give
  pub owner_fits : kind_fits (kind_of cs owner) ≡ true
  -- a value has the type that is given back (27)
  pub value : (s : SigType) → signature.returns ≡ Some s → is_plain (type_in cs s) ≡ true
  -- a method has a body unless it is abstract (29)
  pub body : has_body own.body ≡ not own.is_abstract
  -- a constructor has code, and gives nothing back (29, and the base library)
  pub code : is_constructor own ≡ true → own.body ≡ Code
  pub nothing : is_constructor own ≡ true → signature.returns ≡ None
  -- String is the class of its element alone (the base library)
  pub string : is_string (elem_of (kind_of cs owner)) ≡ some_eq (Some owner) (basic cs elem.String)
  -- each field has a signature (27)
  pub fields : is_some (fields cs owner) ≡ true

-- both name something, and what they name is related; or neither does
abbrev pub Both : {A B : Type 0} → (A → B → Type 0) → Option A → Option B → Type 0
Both R None None = Unit {0}
Both R (Some a) (Some b) = R a b
Both R None (Some b) = ⊥
Both R (Some a) None = ⊥

pub record IsOperand (cs : Classes) (o : CodeOperand) (p : Operand) : Type 0 where
  pub type : option_map type_of (type_named p) ≡ option_map type_up (type_of_operand cs o)
  pub field : Both (IsField cs) (field_of o) (field_named p)
  pub method : Both (IsMethod cs) (method_of o) (method_named p)
  pub text : names_text p ≡ is_some (text_of o)
  -- an array of the type can be spelt
  pub arrays : (t : WorldPlace) → type_named p ≡ Some t → has_arrays t ≡ true

-- ---- the whole

-- what an instruction has beside its token: a number, or where it goes to
abbrev pub IsWhole : Shape → CodeOperand → ℤ → Type 0
IsWhole (shape.LoadArgument None) o n = number_of o ≡ Some n
IsWhole shape.LoadArgumentAddress o n = number_of o ≡ Some n
IsWhole shape.StoreArgument o n = number_of o ≡ Some n
IsWhole (shape.LoadLocal None) o n = number_of o ≡ Some n
IsWhole (shape.StoreLocal None) o n = number_of o ≡ Some n
IsWhole shape.LoadLocalAddress o n = number_of o ≡ Some n
IsWhole (shape.LoadInt32 None) o n = number_of o ≡ Some n
IsWhole shape.LoadInt64 o n = number_of o ≡ Some n
IsWhole shape.Branch o n = is_some (target_of o) ≡ true
IsWhole (shape.BranchIf on) o n = is_some (target_of o) ≡ true
IsWhole (shape.BranchCompare comparison on) o n = is_some (target_of o) ≡ true
IsWhole shape.Switch o n = is_some (targets_of o) ≡ true
IsWhole shape.Leave o n = is_some (target_of o) ≡ true
IsWhole _ o n = Unit {0}

-- a value is loaded from each place of an argument or a local: none is of void (27, 43)
abbrev pub AllLoaded : List PlaceType → Type 0
AllLoaded ks = (n : ℕ) (k : PlaceType) → slice_get ks n ≡ Some k → is_never (loaded k) ≡ false

pub record IsKnown (x : Sources) (exception : CliType) (m : Method) (o : CodeOperand) (f : Facts) : Type 0 where
  pub arguments : map place_of f.arguments.now ≡ map place_up m.arguments
  pub locals : map place_of f.locals.now ≡ map place_up m.locals
  pub result : result_of f.result ≡ option_map place_up m.returns
  pub exception_type : type_of f.exception ≡ type_up exception
  pub max_stack : f.max_stack ≡ m.max_stack
  pub operand : IsOperand x.classes o f.operand
  pub arguments_loaded : AllLoaded m.arguments
  pub locals_loaded : AllLoaded m.locals
