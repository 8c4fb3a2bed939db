-- What instructions make of the types on the stack, row by row, the topmost first.
use Rattle.std.proofs.Common.{◌≡◌, true, List, [], ◌∷◌, Option, Some, None, refl}
use Rattle.cil_opcodes.specs.declared.shape.IntegerType.TheVariants.{U1, I2, I4, U4, I8}
use Rattle.cil_opcodes.specs.declared.shape.Operator.TheVariants.{Divide}
use Rattle.cil_opcodes.specs.declared.shape.ShiftOperator.TheVariants.{Left}
use Rattle.cil_opcodes.specs.declared.shape.Comparison.TheVariants.{Equal, Greater, GreaterUnsigned}
use Rattle.plain_types.specs.declared.elem.Elem.TheVariants as elem
use Rattle.machine.specs.Data.{CliType, Basic, ClassOf, ArrayOf, Bits, Refers}
use Rattle.machine.specs.Program.{Instruction, Exact, Typed, Binary, Shift, Compare, Convert, BranchIf, BranchCompare, Call, Return, LoadIndirect, StoreIndirect, LoadLength, LoadElement, StoreElement, LoadElementAddress, CastClass, Box, Unbox, UnboxAny, Throw}
use Rattle.machine_typed.specs.Typing.{StackType, I, L, Nil, O, P, effect}
use Rattle.machine_typed.proofs.Sample.{id, int, ints, text, exception, main, program}

abbrev object : CliType
object = Basic elem.Object

abbrev makes : Instruction → List StackType → Option (List StackType)
makes i ts = effect program exception main i ts

-- ---- arrays

null_gives_null : makes (LoadElement (Exact Refers)) (I ∷ Nil ∷ []) ≡ Some (Nil ∷ [])
null_gives_null = refl

strings_give_strings : makes (LoadElement (Exact Refers)) (I ∷ O (ArrayOf text) ∷ []) ≡ Some (O text ∷ [])
strings_give_strings = refl

numbers_are_no_references : makes (LoadElement (Exact Refers)) (I ∷ O ints ∷ []) ≡ None
numbers_are_no_references = refl

signs_agree : makes (LoadElement (Exact (Bits U4))) (I ∷ O ints ∷ []) ≡ Some (I ∷ [])
signs_agree = refl

widths_differ : makes (LoadElement (Exact (Bits I2))) (I ∷ O ints ∷ []) ≡ None
widths_differ = refl

elements_of_a_type : makes (LoadElement (Typed text)) (I ∷ O (ArrayOf text) ∷ []) ≡ Some (O text ∷ [])
elements_of_a_type = refl

elements_of_another_type : makes (LoadElement (Typed text)) (I ∷ O ints ∷ []) ≡ None
elements_of_another_type = refl

any_reference_is_stored : makes (StoreElement (Exact Refers)) (O object ∷ I ∷ O (ArrayOf text) ∷ []) ≡ Some []
any_reference_is_stored = refl

what_is_stored_by_a_type_fits : makes (StoreElement (Typed text)) (O object ∷ I ∷ O (ArrayOf text) ∷ []) ≡ None
what_is_stored_by_a_type_fits = refl

an_index_is_no_long : makes (LoadElement (Exact Refers)) (L ∷ O (ArrayOf text) ∷ []) ≡ None
an_index_is_no_long = refl

an_array_has_a_length : makes (LoadLength) (O ints ∷ []) ≡ Some (I ∷ [])
an_array_has_a_length = refl

an_array_of_no_known_type_has_none : makes (LoadLength) (O (ClassOf (id 3)) ∷ []) ≡ None
an_array_of_no_known_type_has_none = refl

the_address_of_an_element : makes (LoadElementAddress text) (I ∷ O (ArrayOf text) ∷ []) ≡ Some (P text ∷ [])
the_address_of_an_element = refl

-- ---- pointers

a_bool_has_one_byte : makes (LoadIndirect (Exact (Bits U1))) (P (Basic elem.Bool) ∷ []) ≡ Some (I ∷ [])
a_bool_has_one_byte = refl

an_int_has_four : makes (LoadIndirect (Exact (Bits I8))) (P int ∷ []) ≡ None
an_int_has_four = refl

a_reference_of_the_place : makes (LoadIndirect (Exact Refers)) (P text ∷ []) ≡ Some (O text ∷ [])
a_reference_of_the_place = refl

a_reference_stored_fits_the_place : makes (StoreIndirect (Exact Refers)) (O object ∷ P text ∷ []) ≡ None
a_reference_stored_fits_the_place = refl

unsigned_for_signed : makes (StoreIndirect (Typed (Basic elem.U4))) (I ∷ P int ∷ []) ≡ Some []
unsigned_for_signed = refl

references_agree_only_where_equal : makes (LoadIndirect (Typed object)) (P text ∷ []) ≡ None
references_agree_only_where_equal = refl

-- ---- numbers, comparisons and branches

widths_are_not_mixed : makes (Binary Divide) (L ∷ I ∷ []) ≡ None
widths_are_not_mixed = refl

a_long_shifted_by_an_int : makes (Shift Left) (I ∷ L ∷ []) ≡ Some (L ∷ [])
a_long_shifted_by_an_int = refl

no_shift_by_a_long : makes (Shift Left) (L ∷ I ∷ []) ≡ None
no_shift_by_a_long = refl

widened : makes (Convert I8) (I ∷ []) ≡ Some (L ∷ [])
widened = refl

no_conversion_of_a_reference : makes (Convert I4) (O text ∷ []) ≡ None
no_conversion_of_a_reference = refl

references_are_told_apart : makes (Compare GreaterUnsigned) (Nil ∷ O text ∷ []) ≡ Some (I ∷ [])
references_are_told_apart = refl

references_have_no_order : makes (Compare Greater) (Nil ∷ O text ∷ []) ≡ None
references_have_no_order = refl

a_branch_on_equal_references : makes (BranchCompare Equal true 0) (O text ∷ O object ∷ []) ≡ Some []
a_branch_on_equal_references = refl

no_branch_that_tells_them_apart : makes (BranchCompare GreaterUnsigned true 0) (O text ∷ O object ∷ []) ≡ None
no_branch_that_tells_them_apart = refl

no_branch_on_a_pointer : makes (BranchIf true 0) (P int ∷ []) ≡ None
no_branch_on_a_pointer = refl

-- ---- boxes and casts

boxed : makes (Box int) (I ∷ []) ≡ Some (O int ∷ [])
boxed = refl

no_box_of_a_reference : makes (Box text) (O text ∷ []) ≡ None
no_box_of_a_reference = refl

a_pointer_into_a_box : makes (Unbox int) (O object ∷ []) ≡ Some (P int ∷ [])
a_pointer_into_a_box = refl

no_pointer_of_a_reference : makes (Unbox text) (O object ∷ []) ≡ None
no_pointer_of_a_reference = refl

the_number_in_a_box : makes (UnboxAny int) (O object ∷ []) ≡ Some (I ∷ [])
the_number_in_a_box = refl

unboxed_as_a_cast : makes (UnboxAny text) (O object ∷ []) ≡ Some (O text ∷ [])
unboxed_as_a_cast = refl

a_cast_to_a_box : makes (CastClass int) (O object ∷ []) ≡ Some (O int ∷ [])
a_cast_to_a_box = refl

-- ---- methods and exceptions

a_method_takes_its_arguments : makes (Call (id 1)) (O text ∷ I ∷ []) ≡ Some (I ∷ [])
a_method_takes_its_arguments = refl

and_no_others : makes (Call (id 1)) (O object ∷ []) ≡ None
and_no_others = refl

null_is_an_argument : makes (Call (id 1)) (Nil ∷ []) ≡ Some []
null_is_an_argument = refl

a_result_alone : makes (Return) (I ∷ I ∷ []) ≡ None
a_result_alone = refl

null_is_thrown : makes (Throw) (Nil ∷ []) ≡ Some []
null_is_thrown = refl

a_string_is_not : makes (Throw) (O text ∷ []) ≡ None
a_string_is_not = refl
