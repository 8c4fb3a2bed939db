-- The merge of two stack types (III.1.8.1.3): the first case that fits.
use Rattle.std.specs.Prelude.{Bool, true, false, if◌then◌else◌, Option, Some, None}
use Rattle.plain_types.specs.declared.elem.Elem.TheVariants as elem
use Rattle.machine.specs.Data.{Id, CliType, Basic, ArrayOf, type_eq}
use Rattle.machine.specs.Program.{Program}
use Rattle.machine_typed.specs.Typing.{StackType, I, L, Nil, O, H, P, Never, assignable}
use Rattle.classes.specs.Classes.{Classes}
use Rattle.classes.specs.Queries.{array, class_of, type_of_class, common_superclass, is_interface}

abbrev pub stack_type_eq : StackType → StackType → Bool
stack_type_eq I I = true
stack_type_eq L L = true
stack_type_eq Nil Nil = true
stack_type_eq H H = true
stack_type_eq Never Never = true
stack_type_eq (O a) (O b) = type_eq a b
stack_type_eq (P a) (P b) = type_eq a b
stack_type_eq _ _ = false

abbrev pub object : StackType
object = O (Basic elem.Object)

abbrev pub of_arrays : Classes → Option Id → StackType
of_arrays cs (Some c) = O (type_of_class cs c)
of_arrays cs None = object

abbrev pub above_both : Classes → Option Id → StackType
above_both cs (Some c) = O (type_of_class cs c)
above_both cs None = object

-- two classes: the nearest that is above both; other references: Object
abbrev pub of_classes : Classes → Option Id → Option Id → StackType
of_classes cs (Some c) (Some d) =
    if is_interface cs c then object else (if is_interface cs d then object else above_both cs (common_superclass cs c d))
of_classes cs _ _ = object

-- two references of which neither is assignable to the other
abbrev pub joined : Classes → CliType → CliType → StackType
joined cs (ArrayOf a) (ArrayOf b) = of_arrays cs (array cs)
joined cs a b = of_classes cs (class_of cs a) (class_of cs b)

abbrev pub merge_others : Classes → StackType → StackType → Option StackType
merge_others cs (O a) (O b) = Some (joined cs a b)
merge_others cs _ _ = None

-- where each is assignable to the other, the first one
abbrev pub merge : Program → Classes → StackType → StackType → Option StackType
merge p cs a b =
    if stack_type_eq a b then Some a
    else if assignable p b a then Some a
    else if assignable p a b then Some b
    else merge_others cs a b
