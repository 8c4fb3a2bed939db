-- Types of classes that have a spelling.
use Rattle.std.specs.Prelude.{◌≡◌, Bool, true, Some, is_some}
use Rattle.machine.specs.Data.{Id, CliType, Basic, EnumOf, ClassOf, ValueOf, ArrayOf}
use Rattle.classes.specs.Classes.{Classes, TypeKind, Reference, Builtin, Enumeration, OtherValue}
use Rattle.classes.specs.Queries.{basic_name, is_integer, kind_of}

-- an element that has a class, an enum of integers (26)
abbrev pub kind_spelt : TypeKind → Bool
kind_spelt (Builtin e) = is_some (basic_name e)
kind_spelt (Enumeration e) = is_integer e
kind_spelt Reference = true
kind_spelt OtherValue = true

abbrev pub type_spelt : CliType → Bool
type_spelt (Basic e) = is_some (basic_name e)
type_spelt (EnumOf e c) = is_integer e
type_spelt (ClassOf c) = true
type_spelt (ValueOf c) = true
type_spelt (ArrayOf a) = type_spelt a

-- so are the kinds of all classes
abbrev pub AreSpelt : Classes → Type 0
AreSpelt cs = (c : Id) (q : TypeKind) → kind_of cs c ≡ Some q → kind_spelt q ≡ true
