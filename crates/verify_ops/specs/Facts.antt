-- What is known of an instruction, as the machine has it: a method, a program that answers what the operand says, and the
-- machine's instruction; and which operands each instruction takes.
use Rattle.std.specs.Prelude.{ℕ, ℤ, unsigned_abs, Bool, true, false, ◌&&◌, not, nat_eq, if◌then◌else◌, List, [], ◌∷◌, ◌++◌, map, Option, Some, None, is_some}
use Rattle.std.specs.Option.{option_map}
use Rattle.plain_types.specs.declared.elem.Elem.{Elem}
use Rattle.plain_types.specs.declared.elem.Elem.TheVariants as elem
use Rattle.ecma_types.specs.declared.stack.PlaceType.{PlaceType as WorldPlace}
use Rattle.cil_opcodes.specs.declared.shape.Access.{Access}
use Rattle.cil_opcodes.specs.declared.shape.Access.TheVariants as access
use Rattle.cil_opcodes.specs.declared.shape.Shape.{Shape}
use Rattle.cil_opcodes.specs.declared.shape.Shape.TheVariants as shape
use Rattle.file_tables.specs.Bytes.{has_bit}
use Rattle.machine.specs.Data.{Id, CliType, PlaceType, Bits, Refers, Int, Long, Null, Handle}
use Rattle.machine.specs.Program.{Program, Method, Body, Code, Missing, Exact, Typed, Instruction, Nop, Push, Dup, Pop, LoadArgument, StoreArgument, LoadArgumentAddress, LoadLocal, StoreLocal, LoadLocalAddress, Binary, Shift, Unary, Compare, Convert, ConvertChecked, Branch, BranchIf, BranchCompare, Switch, Call, CallVirtual, NewObject, Return, LoadField, StoreField, LoadFieldAddress, LoadStatic, StoreStatic, LoadStaticAddress, LoadText, LoadIndirect, StoreIndirect, NewArray, LoadLength, LoadElement, StoreElement, LoadElementAddress, CastClass, IsInstance, Box, Unbox, UnboxAny, Throw, Rethrow, Leave, EndFinally}
use Rattle.machine.specs.Program.{Access as MemoryAccess}
use Rattle.machine_typed.specs.Typing.{is_plain, is_number}
use Rattle.classes.specs.Classes.{FieldKind, InstanceField, StaticField, LiteralField, DataField}
use Rattle.classes.specs.Queries.{is_instance_kind, is_static_kind, data_of, listed}
use Rattle.class_rules.specs.Rules.{holds_some}
use Rattle.verify_ops.specs.declared.facts.Facts.{Facts}
use Rattle.verify_ops.specs.declared.facts.Operand.{Operand}
use Rattle.verify_ops.specs.declared.facts.Operand.TheVariants as operand
use Rattle.verify_ops.specs.declared.facts.FieldOperand.{FieldOperand}
use Rattle.verify_ops.specs.declared.facts.MethodOperand.{MethodOperand}
use Rattle.place_types.specs.Types.{id_of, type_of, place_of}
use Rattle.place_types.specs.Held.{has_arrays, is_reference_type}

-- ---- what the operand names

abbrev pub type_named : Operand → Option WorldPlace
type_named (operand.OfType t) = Some t
type_named _ = None

abbrev pub field_named : Operand → Option FieldOperand
field_named (operand.Field f) = Some f
field_named _ = None

abbrev pub method_named : Operand → Option MethodOperand
method_named (operand.Method m) = Some m
method_named _ = None

abbrev pub names_text : Operand → Bool
names_text operand.Text = true
names_text _ = false

-- ---- operands that an instruction takes (46), by the flags of rows (II.23.1.5, II.23.1.10, II.23.1.15)

abbrev pub is_string : Elem → Bool
is_string elem.String = true
is_string _ = false

abbrev pub is_single : WorldPlace → Bool
is_single t = nat_eq t.ranks 0

-- a literal is a static field that has no data
abbrev pub kind_of : FieldOperand → FieldKind
kind_of f =
    if not (has_bit f.flags 4) then InstanceField
    else if has_bit f.flags 8 then DataField []
    else if has_bit f.flags 6 then LiteralField
    else StaticField

abbrev pub is_abstract : MethodOperand → Bool
is_abstract m = has_bit m.flags 10

-- an instance method of a class or an interface
abbrev pub is_callable : MethodOperand → Bool
is_callable m = not (has_bit m.flags 4) && (m.this && is_reference_type m.class)

-- neither abstract nor an interface, and no value type, String or array
abbrev pub is_made : WorldPlace → ℕ → Bool
is_made class flags = not (has_bit flags 7) && (not (has_bit flags 5) && (is_reference_type class && (not (is_string class.elem) && is_single class)))

abbrev pub is_void_elem : Elem → Bool
is_void_elem elem.Void = true
is_void_elem _ = false

abbrev pub is_void : WorldPlace → Bool
is_void t = not t.pointer && (is_single t && is_void_elem t.elem)

-- a constructor with a body, which gives nothing back
abbrev pub is_new : MethodOperand → Bool
is_new m = m.constructor && (m.this && (is_made m.class m.class_flags && (is_void m.returns && not (is_abstract m))))

abbrev pub is_instance_field : FieldOperand → Bool
is_instance_field f = is_instance_kind (kind_of f) && is_reference_type f.class

abbrev pub is_static_field : FieldOperand → Bool
is_static_field f = is_static_kind (kind_of f)

abbrev pub is_data_field : FieldOperand → Bool
is_data_field f = is_some (data_of (kind_of f))

abbrev pub names_plain : Operand → Bool
names_plain o = holds_some (type_named o) (λ t. is_plain (type_of t))

abbrev pub names_number : Operand → Bool
names_number o = holds_some (type_named o) (λ t. is_number (type_of t))

abbrev pub names_element : Operand → Bool
names_element o = holds_some (type_named o) (λ t. is_plain (type_of t) && has_arrays t)

abbrev pub typed_access : Access → Bool → Bool
typed_access access.Typed test = test
typed_access _ test = true

abbrev pub operand_fits : Shape → Operand → Bool
operand_fits shape.LoadString o = names_text o
operand_fits shape.Call o = holds_some (method_named o) (λ m. not (is_abstract m))
operand_fits shape.CallVirtual o = holds_some (method_named o) is_callable
operand_fits shape.NewObject o = holds_some (method_named o) is_new
operand_fits shape.LoadField o = holds_some (field_named o) is_instance_field
operand_fits shape.LoadFieldAddress o = holds_some (field_named o) is_instance_field
operand_fits shape.StoreField o = holds_some (field_named o) is_instance_field
operand_fits shape.LoadStatic o = holds_some (field_named o) is_static_field
operand_fits shape.LoadStaticAddress o = holds_some (field_named o) is_static_field
operand_fits shape.StoreStatic o = holds_some (field_named o) is_static_field
operand_fits shape.LoadToken o = holds_some (field_named o) is_data_field
operand_fits shape.CastClass o = names_plain o
operand_fits shape.IsInstance o = names_plain o
operand_fits shape.UnboxAny o = names_plain o
operand_fits shape.NewArray o = names_element o
operand_fits shape.LoadElementAddress o = names_element o
operand_fits shape.Box o = names_number o
operand_fits shape.Unbox o = names_number o
operand_fits (shape.LoadIndirect a) o = typed_access a (names_plain o)
operand_fits (shape.StoreIndirect a) o = typed_access a (names_plain o)
operand_fits (shape.LoadElement a) o = typed_access a (names_element o)
operand_fits (shape.StoreElement a) o = typed_access a (names_element o)
operand_fits _ o = true

-- ---- the instruction

-- a row that the program by the facts doesn't look at
abbrev pub somewhere : Id
somewhere = record { file = 0; row = 0 }

-- the number in the opcode, or the operand
abbrev pub number_or : Option ℕ → ℤ → ℕ
number_or (Some n) k = n
number_or None k = unsigned_abs k

abbrev pub access_named : Access → Operand → Option MemoryAccess
access_named (access.Integer i) o = Some (Exact (Bits i))
access_named access.Reference o = Some (Exact Refers)
access_named access.Typed o = option_map (λ t. Typed (type_of t)) (type_named o)

abbrev pub with_type : (CliType → Instruction) → Operand → Option Instruction
with_type make o = option_map (λ t. make (type_of t)) (type_named o)

abbrev pub with_field : (Id → Instruction) → Operand → Option Instruction
with_field make o = option_map (λ f. make (id_of f.class.of)) (field_named o)

abbrev pub with_method : (Id → Instruction) → Operand → Option Instruction
with_method make o = option_map (λ m. make (id_of m.class.of)) (method_named o)

-- by the shape of its opcode, the number of its operand and what its token names; where it goes to is not looked at
abbrev pub instruction_by : Shape → ℤ → Operand → Option Instruction
instruction_by shape.Nop n o = Some Nop
instruction_by (shape.LoadArgument k) n o = Some (LoadArgument (number_or k n))
instruction_by shape.LoadArgumentAddress n o = Some (LoadArgumentAddress (unsigned_abs n))
instruction_by shape.StoreArgument n o = Some (StoreArgument (unsigned_abs n))
instruction_by (shape.LoadLocal k) n o = Some (LoadLocal (number_or k n))
instruction_by (shape.StoreLocal k) n o = Some (StoreLocal (number_or k n))
instruction_by shape.LoadLocalAddress n o = Some (LoadLocalAddress (unsigned_abs n))
instruction_by shape.LoadNull n o = Some (Push Null)
instruction_by (shape.LoadInt32 k) n o = Some (Push (Int n))
instruction_by shape.LoadInt64 n o = Some (Push (Long n))
instruction_by shape.Duplicate n o = Some Dup
instruction_by shape.Pop n o = Some Pop
instruction_by shape.Call n o = with_method Call o
instruction_by shape.CallVirtual n o = with_method CallVirtual o
instruction_by shape.NewObject n o = with_method (λ class. NewObject class somewhere) o
instruction_by shape.Return n o = Some Return
instruction_by shape.Branch n o = Some (Branch 0)
instruction_by (shape.BranchIf on) n o = Some (BranchIf on 0)
instruction_by (shape.BranchCompare comparison on) n o = Some (BranchCompare comparison on 0)
instruction_by shape.Switch n o = Some (Switch [])
instruction_by (shape.LoadIndirect a) n o = option_map LoadIndirect (access_named a o)
instruction_by (shape.StoreIndirect a) n o = option_map StoreIndirect (access_named a o)
instruction_by (shape.Binary operator) n o = Some (Binary operator)
instruction_by (shape.Shift operator) n o = Some (Shift operator)
instruction_by (shape.Unary operator) n o = Some (Unary operator)
instruction_by (shape.Compare comparison) n o = Some (Compare comparison)
instruction_by (shape.Convert integer) n o = Some (Convert integer)
instruction_by (shape.ConvertChecked integer source) n o = Some (ConvertChecked integer source)
instruction_by shape.LoadString n o = if names_text o then Some (LoadText []) else None
instruction_by shape.CastClass n o = with_type CastClass o
instruction_by shape.IsInstance n o = with_type IsInstance o
instruction_by shape.Box n o = with_type Box o
instruction_by shape.Unbox n o = with_type Unbox o
instruction_by shape.UnboxAny n o = with_type UnboxAny o
instruction_by shape.Throw n o = Some Throw
instruction_by shape.Rethrow n o = Some (Rethrow 0)
instruction_by shape.Leave n o = Some (Leave 0)
instruction_by shape.EndFinally n o = Some (EndFinally 0)
instruction_by shape.LoadField n o = with_field (λ class. LoadField class 0) o
instruction_by shape.LoadFieldAddress n o = with_field (λ class. LoadFieldAddress class 0) o
instruction_by shape.StoreField n o = with_field (λ class. StoreField class 0) o
instruction_by shape.LoadStatic n o = with_field LoadStatic o
instruction_by shape.LoadStaticAddress n o = with_field LoadStaticAddress o
instruction_by shape.StoreStatic n o = with_field StoreStatic o
instruction_by shape.NewArray n o = with_type NewArray o
instruction_by shape.LoadLength n o = Some LoadLength
instruction_by (shape.LoadElement a) n o = option_map LoadElement (access_named a o)
instruction_by (shape.StoreElement a) n o = option_map StoreElement (access_named a o)
instruction_by shape.LoadElementAddress n o = with_type LoadElementAddress o
instruction_by shape.LoadToken n o = with_field (λ class. Push (Handle class)) o

-- ---- the method of the instruction, and the program that its operand speaks of

abbrev pub result_of : WorldPlace → Option PlaceType
result_of t = if is_void t then None else Some (place_of t)

abbrev pub method_by : Facts → Method
method_by f =
    record {
      arguments = map place_of f.arguments.now;
      locals = map place_of f.locals.now;
      returns = result_of f.result;
      max_stack = f.max_stack;
      clauses = [];
      body = Code;
    }

-- `this`: a reference, or of a value type a pointer
abbrev pub this_place : WorldPlace → WorldPlace
this_place class = record class { pointer = not (is_reference_type class) }

abbrev pub receiver : MethodOperand → List WorldPlace
receiver m = if m.this then this_place m.class ∷ [] else []

abbrev pub body_of : Bool → Body
body_of true = Missing
body_of false = Code

abbrev pub callee : MethodOperand → Method
callee m =
    record {
      arguments = map place_of (receiver m ++ m.params.now);
      locals = [];
      returns = result_of m.returns;
      max_stack = 0;
      clauses = [];
      body = body_of (is_abstract m);
    }

abbrev pub program_by : (CliType → CliType → Bool) → Operand → Program
program_by fits o =
    record {
      entry = None;
      first = None;
      method = λ id. option_map callee (method_named o);
      fetch = λ id place. None;
      try_holds = λ id k place. false;
      is_sub = λ a b. false;
      fits = fits;
      target = λ class id. None;
      fields = λ id. Some (map (λ f. type_of f.of) (listed (field_named o)));
      static = λ id. option_map (λ f. type_of f.of) (field_named o);
      bytes = λ id. Some [];
      known = λ k. None;
      basic = λ e. None;
      array = None;
      exception = None;
      name = λ id. [];
    }
