-- Assemblies as rows that name one another by numbers. A file of a world and an image of a set are both seen so: names are texts,
-- signatures and code are read, and only tokens are still numbers.
use Rattle.std.specs.Prelude.{ℕ, ℤ, Bool, List, Option}
use Rattle.plain_types.specs.declared.elem.Elem.{Elem}
use Rattle.cil_opcodes.specs.declared.shape.Shape.{Shape}
use Rattle.machine.specs.Program.{Body}
use Rattle.classes.specs.Classes.{FieldKind, TypeKind}

-- a type row, a type reference, or a type specification
pub data TypeToken : Type 0 where
  TypeDef : (row : ℕ) → TypeToken
  TypeRef : (row : ℕ) → TypeToken
  TypeSpec : (row : ℕ) → TypeToken

-- a member row, or a member reference
pub data MemberToken : Type 0 where
  Own : (row : ℕ) → MemberToken
  Reference : (row : ℕ) → MemberToken

pub data Scope : Type 0 where
  OfAssembly : (row : ℕ) → Scope
  Inside : (row : ℕ) → Scope
  Nowhere : Scope

pub data RawType : Type 0 where
  RawSpelt : (elem : Elem) → RawType
  RawClass : (token : TypeToken) → RawType
  RawValue : (token : TypeToken) → RawType
  RawArray : (element : RawType) → RawType

pub data RawPlace : Type 0 where
  RawDirect : (type : RawType) → RawPlace
  RawByRef : (type : RawType) → RawPlace

pub record RawSignature : Type 0 where
  pub has_this : Bool
  pub returns : Option RawType
  pub parameters : List RawPlace

pub record AssemblyRow : Type 0 where
  pub name : List ℕ
  pub version : List ℕ

pub record TypeRefRow : Type 0 where
  pub scope : Scope
  pub namespace : List ℕ
  pub name : List ℕ

pub record FieldRefRow : Type 0 where
  pub parent : TypeToken
  pub name : List ℕ
  pub signature : RawType

pub record MethodRefRow : Type 0 where
  pub parent : TypeToken
  pub name : List ℕ
  pub signature : RawSignature

-- ranges are the first row and how many
pub record TypeRow : Type 0 where
  pub namespace : List ℕ
  pub name : List ℕ
  pub enclosing : Option ℕ
  pub extends : Option TypeToken
  pub interfaces : List TypeToken
  pub kind : TypeKind
  pub is_interface : Bool
  pub is_abstract : Bool
  pub is_lazy : Bool
  pub first_field : ℕ
  pub field_count : ℕ
  pub first_method : ℕ
  pub method_count : ℕ

pub record FieldRow : Type 0 where
  pub name : List ℕ
  pub signature : RawType
  pub kind : FieldKind

pub data RawOperand : Type 0 where
  RawNothing : RawOperand
  RawNumber : (n : ℤ) → RawOperand
  RawTargets : (to : List ℤ) → RawOperand
  RawTypeOf : (token : TypeToken) → RawOperand
  RawField : (token : MemberToken) → RawOperand
  RawMethod : (token : MemberToken) → RawOperand
  RawText : (units : List ℕ) → RawOperand

pub record RawLine : Type 0 where
  pub at : ℕ
  pub shape : Shape
  pub operand : RawOperand
  pub next : ℕ

pub data RawKind : Type 0 where
  RawCatch : (class : TypeToken) → RawKind
  RawFinally : RawKind
  RawOther : RawKind

pub record RawClause : Type 0 where
  pub kind : RawKind
  pub try_start : ℕ
  pub try_end : ℕ
  pub start : ℕ
  pub end : ℕ

pub record RawCode : Type 0 where
  pub locals : List RawType
  pub max_stack : ℕ
  pub clauses : List RawClause
  pub lines : List RawLine

pub record MethodRow : Type 0 where
  pub name : List ℕ
  pub signature : RawSignature
  pub is_static : Bool
  pub is_virtual : Bool
  pub is_newslot : Bool
  pub is_abstract : Bool
  pub body : Body
  pub code : Option RawCode

pub record Assembly : Type 0 where
  pub name : List ℕ
  pub version : List ℕ
  pub entry : Option ℕ
  pub assemblies : List AssemblyRow
  pub refs : List TypeRefRow
  pub field_refs : List FieldRefRow
  pub method_refs : List MethodRefRow
  pub types : List TypeRow
  pub fields : List FieldRow
  pub methods : List MethodRow
  pub specs : List RawType
