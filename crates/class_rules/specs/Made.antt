-- The types of which objects are made.
use Rattle.std.specs.Prelude.{Bool, false, ◌&&◌, ◌||◌, not, Some}
use Rattle.plain_types.specs.declared.elem.Elem.TheVariants as elem
use Rattle.machine.specs.Data.{Id, CliType, Basic, EnumOf, ClassOf, ValueOf, ArrayOf, type_eq}
use Rattle.machine_typed.specs.Typing.{is_number, is_plain}
use Rattle.classes.specs.Classes.{Classes}
use Rattle.classes.specs.Queries.{some_eq, basic, array, type_of_class}
use Rattle.class_rules.specs.Facts.{is_reference_class}
use Rattle.class_rules.specs.Rules.{holds_some, under_object}

-- a class of which `newobj` makes objects (46): not abstract, no interface, no value type, no String and no array
abbrev pub is_made : Classes → Id → Bool
is_made cs c =
    holds_some (cs.class c) (λ k. not k.is_abstract && not k.is_interface)
    && (is_reference_class cs c && (not (some_eq (Some c) (basic cs elem.String)) && not (some_eq (Some c) (array cs))))

-- boxes of primitives and enums, strings, instances, and arrays of primitives, enums and references
abbrev pub made : Classes → CliType → Bool
made cs (Basic e) = is_number (Basic e) || type_eq (Basic e) (Basic elem.String)
made cs (EnumOf e c) = is_number (EnumOf e c) && type_eq (type_of_class cs c) (EnumOf e c)
made cs (ClassOf c) = is_made cs c && under_object cs c
made cs (ValueOf c) = false
made cs (ArrayOf a) = is_plain a
