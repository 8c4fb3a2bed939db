-- Rule 30 of the two base files: their types with their superclasses, and their natives.
use Rattle.std.specs.Prelude.{codes, ℕ, ◌==◌, nat_lt, Bool, true, false, ◌&&◌, List, [], ◌∷◌, slice_get, Option, Some, None, is_some}
use Rattle.std.specs.List.{list_any, list_all}
use Rattle.file_tables.specs.Metadata.{rows_of}
use Rattle.file_tables.specs.File.{FilePart}
use Rattle.machine.specs.Data.{Id}
use Rattle.machine.specs.Program.{native_number, Body, Native}
use Rattle.classes.specs.Classes.{Class}
use Rattle.classes.specs.Queries.{flag_eq}
use Rattle.class_rules.specs.Rules.{holds_some, only_if, is_none_there}
use Rattle.assemblies.specs.Rows.{MethodRow, Nowhere}
use Rattle.assemblies.specs.Binding.{id_at, numbered, type_in}
use Rattle.world_rows.specs.Tokens.{methods}
use Rattle.world_rows.specs.Rows.{is_internal}
use Rattle.world_rows.specs.Kinds.{system_type}
use Rattle.world_rows.specs.Natives.{NativeRow, natives, native_at}
use Rattle.verdict_rules.specs.Order.{Test, test}
use Rattle.verdict_rules.specs.World.{World, classes_of}

-- a type of the base library
pub record BaseType : Type 0 where
  pub file : ℕ
  pub namespace : List ℕ
  pub name : List ℕ
  -- a class of System; empty for none
  pub superclass : List ℕ
  pub is_interface : Bool

abbrev pub base_class : List ℕ → List ℕ → List ℕ → BaseType
base_class namespace name superclass = record { file = 0; namespace = namespace; name = name; superclass = superclass; is_interface = false }

abbrev pub base_interface : List ℕ → List ℕ → BaseType
base_interface namespace name = record { file = 0; namespace = namespace; name = name; superclass = []; is_interface = true }

abbrev pub of_system : List ℕ → List ℕ → BaseType
of_system name superclass = base_class (codes "System") name superclass

abbrev pub base_types : List BaseType
base_types =
    of_system (codes "Object") []
    ∷ of_system (codes "ValueType") (codes "Object")
    ∷ of_system (codes "Enum") (codes "ValueType")
    ∷ of_system (codes "Boolean") (codes "ValueType")
    ∷ of_system (codes "Char") (codes "ValueType")
    ∷ of_system (codes "SByte") (codes "ValueType")
    ∷ of_system (codes "Byte") (codes "ValueType")
    ∷ of_system (codes "Int16") (codes "ValueType")
    ∷ of_system (codes "UInt16") (codes "ValueType")
    ∷ of_system (codes "Int32") (codes "ValueType")
    ∷ of_system (codes "UInt32") (codes "ValueType")
    ∷ of_system (codes "Int64") (codes "ValueType")
    ∷ of_system (codes "UInt64") (codes "ValueType")
    ∷ of_system (codes "Array") (codes "Object")
    ∷ of_system (codes "String") (codes "Object")
    ∷ of_system (codes "Number") (codes "Object")
    ∷ of_system (codes "Exception") (codes "Object")
    ∷ of_system (codes "SystemException") (codes "Exception")
    ∷ of_system (codes "ArithmeticException") (codes "SystemException")
    ∷ of_system (codes "DivideByZeroException") (codes "ArithmeticException")
    ∷ of_system (codes "OverflowException") (codes "ArithmeticException")
    ∷ of_system (codes "IndexOutOfRangeException") (codes "SystemException")
    ∷ of_system (codes "InvalidCastException") (codes "SystemException")
    ∷ of_system (codes "NullReferenceException") (codes "SystemException")
    ∷ of_system (codes "ArrayTypeMismatchException") (codes "SystemException")
    ∷ of_system (codes "ArgumentException") (codes "SystemException")
    ∷ of_system (codes "ArgumentNullException") (codes "ArgumentException")
    ∷ of_system (codes "ArgumentOutOfRangeException") (codes "ArgumentException")
    ∷ of_system (codes "InvalidOperationException") (codes "SystemException")
    ∷ of_system (codes "NotSupportedException") (codes "SystemException")
    ∷ of_system (codes "Attribute") (codes "Object")
    ∷ of_system (codes "RuntimeFieldHandle") (codes "ValueType")
    ∷ of_system (codes "Void") (codes "ValueType")
    ∷ base_interface (codes "System") (codes "IDisposable")
    ∷ base_class (codes "System.Runtime.CompilerServices") (codes "RuntimeHelpers") (codes "Object")
    ∷ of_system (codes "Math") (codes "Object")
    ∷ base_interface (codes "System.Collections") (codes "IEnumerable")
    ∷ base_interface (codes "System.Collections") (codes "IEnumerator")
    ∷ base_class (codes "System.Collections") (codes "ArrayList") (codes "Object")
    ∷ base_class (codes "System.Text") (codes "StringBuilder") (codes "Object")
    ∷ record { file = 1; namespace = codes "Microsoft.SPOT"; name = codes "Debug"; superclass = codes "Object"; is_interface = false }
    ∷ []

abbrev pub is_base_class : World → List ℕ → Id → Bool
is_base_class w name c = holds_some (system_type w.alone name) (λ (d : Id). (c.file == d.file) && (c.row == d.row))

abbrev pub superclass_is : World → List ℕ → Option Id → Bool
superclass_is w name None = is_none_there name
superclass_is w name (Some c) = is_base_class w name c

abbrev pub is_such : World → BaseType → Class → Bool
is_such w t k = flag_eq t.is_interface k.is_interface && superclass_is w t.superclass k.superclass

abbrev pub has_type : World → BaseType → Bool
has_type w t =
    holds_some (type_in w.rows t.file None (record { scope = Nowhere; namespace = t.namespace; name = t.name })) (λ c. holds_some ((classes_of w).class c) (is_such w t))

abbrev pub is_native_of : NativeRow → Body → Bool
is_native_of r (Native name) = native_number name == native_number r.number
is_native_of r _ = false

abbrev pub has_native : World → ℕ → NativeRow → Bool
has_native w file r = holds_some (slice_get w.rows file) (λ p. list_any (λ (m : MethodRow). is_native_of r m.body) p.methods)

-- an internal call is one of the natives
abbrev pub calls_native : World → ℕ → ℕ → List ℕ → Bool
calls_native w file n row = only_if (is_internal row) (is_some (native_at w.size w.alone (id_at file n)))

abbrev pub library_well : World → ℕ → FilePart → Bool
library_well w file x =
    list_all (λ t. only_if (t.file == file) (has_type w t)) base_types
    && (list_all (λ r. only_if (r.file == file) (has_native w file r)) natives
    && list_all (λ b. b) (numbered (calls_native w file) 0 (rows_of x.metadata methods)))

abbrev pub library_tests : World → ℕ → FilePart → List Test
library_tests w file x = test 30 (only_if (nat_lt file 2) (library_well w file x)) ∷ []
