-- Too few arguments.
use Rattle.std.proofs.Common.{◌≡◌, ◌<◌, ◌≤◌, List, [], ◌∷◌, length, map, drop, None, refl, arith, get_or}
use Rattle.board_types.specs.declared.value.Value.{Value as BoardValue}
use Rattle.machine.specs.Data.{Value}
use Rattle.machine.specs.Natives.{object_to_string, enum_equals, enum_to_string, array_copy, array_length, string_length, string_chars, string_concat, string_substring, string_equals, string_compare, string_from_chars, string_from_char, number_signed, number_unsigned, initialize_array, debug_print}
use Rattle.tiny_ops.specs.Operators.{stack_value}
use Rattle.std.proofs.lemmas.List.{length-map}
use Rattle.machine.specs.Program.{ArrayCopy}
use Rattle.tiny_native.specs.Seen.{Scene}
use Rattle.tiny_native.specs.Ends.{native_by, native_in}
use Rattle.tiny_native.specs.Names.{one_name, two_name, three_name}
use Rattle.tiny_native.specs.declared.native.OfOne.{OfOne}
use Rattle.tiny_native.specs.declared.native.OfOne.TheVariants as one
use Rattle.tiny_native.specs.declared.native.OfTwo.{OfTwo}
use Rattle.tiny_native.specs.declared.native.OfTwo.TheVariants as two
use Rattle.tiny_native.specs.declared.native.OfThree.{OfThree}
use Rattle.tiny_native.specs.declared.native.OfThree.TheVariants as three

none_one : (s : Scene) (n : OfOne) → native_by s (one_name n) [] ≡ None
unfolding object_to_string enum_to_string array_length string_length string_from_char number_signed number_unsigned debug_print
none_one s one.ObjectToString = refl
none_one s one.EnumToString = refl
none_one s one.ArrayLength = refl
none_one s one.StringLength = refl
none_one s one.StringFromChar = refl
none_one s one.NumberSigned = refl
none_one s one.NumberUnsigned = refl
none_one s one.DebugPrint = refl

none_two : (s : Scene) (n : OfTwo) → native_by s (two_name n) [] ≡ None
unfolding enum_equals string_chars string_concat string_equals string_compare initialize_array
none_two s two.EnumEquals = refl
none_two s two.StringChars = refl
none_two s two.StringConcat = refl
none_two s two.StringEquals = refl
none_two s two.StringCompare = refl
none_two s two.InitializeArray = refl

one_of_two : (s : Scene) (n : OfTwo) (v : Value) → native_by s (two_name n) (v ∷ []) ≡ None
unfolding enum_equals string_chars string_concat string_equals string_compare initialize_array
one_of_two s two.EnumEquals v = refl
one_of_two s two.StringChars v = refl
one_of_two s two.StringConcat v = refl
one_of_two s two.StringEquals v = refl
one_of_two s two.StringCompare v = refl
one_of_two s two.InitializeArray v = refl

none_three : (s : Scene) (n : OfThree) → native_by s (three_name n) [] ≡ None
unfolding string_substring string_from_chars
none_three s three.StringSubstring = refl
none_three s three.StringFromChars = refl

one_of_three : (s : Scene) (n : OfThree) (v : Value) → native_by s (three_name n) (v ∷ []) ≡ None
unfolding string_substring string_from_chars
one_of_three s three.StringSubstring v = refl
one_of_three s three.StringFromChars v = refl

two_of_three : (s : Scene) (n : OfThree) (v w : Value) → native_by s (three_name n) (v ∷ w ∷ []) ≡ None
unfolding string_substring string_from_chars
two_of_three s three.StringSubstring v w = refl
two_of_three s three.StringFromChars v w = refl

pub few_one : (s : Scene) (n : OfOne) (args : List BoardValue) → length args < 1 → native_in s (one_name n) args ≡ None
few_one s n [] h = none_one s n
few_one s n (v ∷ vs) h = absurd (omega (arith, h))

pub few_two : (s : Scene) (n : OfTwo) (args : List BoardValue) → length args < 2 → native_in s (two_name n) args ≡ None
few_two s n [] h = none_two s n
few_two s n (v ∷ []) h = one_of_two s n (stack_value s.leads v)
few_two s n (v ∷ w ∷ vs) h = absurd (omega (arith, h))

pub few_three : (s : Scene) (n : OfThree) (args : List BoardValue) → length args < 3 → native_in s (three_name n) args ≡ None
few_three s n [] h = none_three s n
few_three s n (v ∷ []) h = one_of_three s n (stack_value s.leads v)
few_three s n (v ∷ w ∷ []) h = two_of_three s n (stack_value s.leads v) (stack_value s.leads w)
few_three s n (v ∷ w ∷ x ∷ vs) h = absurd (omega (arith, h))

-- a list by its first elements
pub first_of : (args : List BoardValue) (d : BoardValue) → 1 ≤ length args → args ≡ get_or args 0 d ∷ drop 1 args
first_of [] d h = absurd (omega (arith, h))
first_of (v ∷ vs) d h = refl

pub firsts_of : (args : List BoardValue) (d e : BoardValue) → 2 ≤ length args → args ≡ get_or args 0 d ∷ get_or args 1 e ∷ drop 2 args
firsts_of [] d e h = absurd (omega (arith, h))
firsts_of (v ∷ []) d e h = absurd (omega (arith, h))
firsts_of (v ∷ w ∷ vs) d e h = refl

pub three_of : (args : List BoardValue) (d e f : BoardValue) → 3 ≤ length args → args ≡ get_or args 0 d ∷ get_or args 1 e ∷ get_or args 2 f ∷ drop 3 args
three_of [] d e f h = absurd (omega (arith, h))
three_of (v ∷ []) d e f h = absurd (omega (arith, h))
three_of (v ∷ w ∷ []) d e f h = absurd (omega (arith, h))
three_of (v ∷ w ∷ x ∷ vs) d e f h = refl

few_values : (s : Scene) (vs : List Value) → length vs < 5 → native_by s ArrayCopy vs ≡ None
unfolding array_copy
few_values s [] h = refl
few_values s (a ∷ []) h = refl
few_values s (a ∷ b ∷ []) h = refl
few_values s (a ∷ b ∷ d ∷ []) h = refl
few_values s (a ∷ b ∷ d ∷ e ∷ []) h = refl
few_values s (a ∷ b ∷ d ∷ e ∷ f ∷ vs) h = absurd (omega (arith, h))

pub few_five : (s : Scene) (args : List BoardValue) → length args < 5 → native_in s ArrayCopy args ≡ None
few_five s args h = few_values s (map (stack_value s.leads) args) (let z : length (map (stack_value s.leads) args) ≡ length args = length-map args (stack_value s.leads) in omega (arith, z, h))

pub five_of : (args : List BoardValue) (d : BoardValue) → 5 ≤ length args → args ≡ get_or args 0 d ∷ get_or args 1 d ∷ get_or args 2 d ∷ get_or args 3 d ∷ get_or args 4 d ∷ drop 5 args
five_of [] d h = absurd (omega (arith, h))
five_of (v ∷ []) d h = absurd (omega (arith, h))
five_of (v ∷ w ∷ []) d h = absurd (omega (arith, h))
five_of (v ∷ w ∷ x ∷ []) d h = absurd (omega (arith, h))
five_of (v ∷ w ∷ x ∷ y ∷ []) d h = absurd (omega (arith, h))
five_of (v ∷ w ∷ x ∷ y ∷ z ∷ vs) d h = refl
