-- The classes of a program as its files tell them: rows with every token replaced by what it names.
use Rattle.std.specs.Prelude.{ℕ, Bool, List, Option}
use Rattle.plain_types.specs.declared.elem.Elem.{Elem}
use Rattle.machine.specs.Data.{Id}
use Rattle.machine.specs.Program.{Body}

-- a type as a signature spells it, with each token replaced by the type that it names (II.23.2.12). `0E` and `12 System.String`
-- are two spellings, and so different here; as types of places they are one (`type_of`)
pub data SigType : Type 0 where
  -- a byte alone: 02 to 0B, 0E, 1C
  Spelt : (elem : Elem) → SigType
  -- 12 and 11
  ClassToken : (class : Id) → SigType
  ValueToken : (class : Id) → SigType
  -- 1D
  ArraySig : (element : SigType) → SigType

-- a parameter: a type, or a managed pointer to one (10)
pub data SigPlace : Type 0 where
  Direct : (type : SigType) → SigPlace
  ByRef : (type : SigType) → SigPlace

pub record Signature : Type 0 where
  pub has_this : Bool
  -- none is void
  pub returns : Option SigType
  pub parameters : List SigPlace

pub data FieldKind : Type 0 where
  InstanceField : FieldKind
  -- neither literal nor a data field
  StaticField : FieldKind
  LiteralField : FieldKind
  -- with its bytes
  DataField : (bytes : List ℕ) → FieldKind

-- a field of a class; its signature is none where that has no form, or a type in it doesn't resolve
pub record OwnField : Type 0 where
  pub id : Id
  pub name : List ℕ
  pub signature : Option SigType
  pub kind : FieldKind

-- a method of a class
pub record OwnMethod : Type 0 where
  pub id : Id
  pub name : List ℕ
  pub signature : Option Signature
  -- the flags (II.23.1.10)
  pub is_static : Bool
  pub is_virtual : Bool
  pub is_newslot : Bool
  pub is_abstract : Bool
  pub body : Body

-- what a type is as the type of a place
pub data TypeKind : Type 0 where
  -- a class or an interface
  Reference : TypeKind
  -- the class of a primitive, String or Object
  Builtin : (elem : Elem) → TypeKind
  -- an enum, with the element of its number
  Enumeration : (elem : Elem) → TypeKind
  -- another value type
  OtherValue : TypeKind

pub record Class : Type 0 where
  pub namespace : List ℕ
  pub name : List ℕ
  pub enclosing : Option Id
  pub superclass : Option Id
  -- those that its own rows name
  pub interfaces : List Id
  pub kind : TypeKind
  pub is_interface : Bool
  pub is_abstract : Bool
  -- beforefieldinit
  pub is_lazy : Bool
  -- in the order of their rows
  pub fields : List OwnField
  pub methods : List OwnMethod

pub record Classes : Type 0 where
  -- at least the number of all types: a chain of superclasses, interfaces or enclosing types that is longer goes in a circle
  pub size : ℕ
  pub class : Id → Option Class
  -- the class that has the method, the field
  pub method_owner : Id → Option Id
  pub field_owner : Id → Option Id
  -- the types of the base library's file, in the order of their rows
  pub library : List Id
