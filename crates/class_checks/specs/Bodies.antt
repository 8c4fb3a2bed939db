-- A method with another body, and the two halves of what a method in a class keeps: its flags, and its name.
use Rattle.std.specs.Prelude.{Bool, ◌&&◌, not}
use Rattle.machine.specs.Data.{Id}
use Rattle.machine.specs.Program.{Body}
use Rattle.machine_typed.specs.Typing.{has_body}
use Rattle.classes.specs.Classes.{Class, Classes, OwnMethod}
use Rattle.classes.specs.Listed.{is_constructor}
use Rattle.classes.specs.Queries.{flag_eq}
use Rattle.class_rules.specs.Rules.{is_user, only_if, is_native, is_initialiser_name, constructor_fits, initialiser_fits}

abbrev pub with_body : Body → OwnMethod → OwnMethod
with_body b m = record m { body = b }

abbrev pub flags_fit : Id → Class → OwnMethod → Bool
flags_fit c k m =
    not (is_user c && is_native m.body)
    && (not (m.is_static && m.is_virtual)
    && (only_if m.is_abstract m.is_virtual && (only_if m.is_abstract k.is_abstract && flag_eq (has_body m.body) (not m.is_abstract))))

abbrev pub name_fits : Classes → Id → Class → OwnMethod → Bool
name_fits cs c k m = only_if (is_constructor m) (constructor_fits cs c k m) && only_if (is_initialiser_name m) (initialiser_fits m)
