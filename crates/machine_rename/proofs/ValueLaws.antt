-- Values alone under a renaming: numbers, places and lists of arguments.
use Rattle.std.proofs.Common.{◌≡◌, ◌%◌, ℕ, zero, suc, ◌-◌, ◌/◌, Bool, true, false, ◌&&◌, List, [], ◌∷◌, map, length, replicate, Option, Some, None, refl, sym, ap, ◌∙◌}
use Rattle.std.specs.Prelude.{if◌then◌else◌, ℤ, int_div, int_rem, int_le, ◌+ℤ◌, ◌-ℤ◌, ◌*ℤ◌}
use Rattle.std.specs.Option.{option_map}
use Rattle.std.specs.Int.{Width, w32, w64, cast_unsigned, cast_signed}
use Rattle.cil_opcodes.specs.declared.shape.IntegerType.{IntegerType}
use Rattle.cil_opcodes.specs.declared.shape.IntegerType.TheVariants.{I1, U1, I2, U2, I4, U4, I8, U8}
use Rattle.cil_opcodes.specs.declared.shape.Sign.{Sign}
use Rattle.cil_opcodes.specs.declared.shape.Operator.{Operator}
use Rattle.cil_opcodes.specs.declared.shape.Operator.TheVariants.{Add, Subtract, Multiply, Divide, DivideUnsigned, Remainder, RemainderUnsigned, And, Or, Xor, AddChecked, SubtractChecked, MultiplyChecked}
use Rattle.cil_opcodes.specs.declared.shape.UnaryOperator.{UnaryOperator}
use Rattle.cil_opcodes.specs.declared.shape.ShiftOperator.{ShiftOperator}
use Rattle.cil_opcodes.specs.declared.shape.Comparison.{Comparison}
use Rattle.board_types.specs.declared.board.Known.TheVariants.{Overflow, Arithmetic, DivideByZero}
use Rattle.machine.specs.Data.{Id, CliType, Basic, EnumOf, ClassOf, ValueOf, ArrayOf, PlaceType, Plain, To, Cell, Bits, Refers, Spot, Value, Int, Long, Null, Object, Handle, Pointer, Nothing}
use Rattle.machine.specs.Program.{Method, Access, Exact, Typed, access_cell}
use Rattle.machine.specs.Numbers.{Answer, Gives, Raises, NoCase, is_long, integer_at, read_as, least, greatest, cut, checked, is_zero, is_least_by_minus_one, by_signed, by_unsigned, arithmetic, Sight, AnInt, ALong, ANull, AnObject, Another, sight_of, Pair, Ints, Longs, References, Other, pair_of, on_pair, binary, on_shift, shift, on_unary, unary, compared, compare, branch_compared, branch_compare, truth, widened, on_convert, convert, on_convert_checked, convert_checked, same_width, small, kept_in, PlaceKind, Holds, HoldsPointer, HoldsHandle, kind_of_type, kind_of, kept_by, kept, as_int, as_long, as_handle}
use Rattle.machine.specs.Rows.{Taken, take_arguments, keep_all}
use Rattle.machine.specs.Calls.{result_of, with_result, number_of}
use Rattle.machine_rename.specs.Rename.{Renaming, type_to, place_type_to, value_to, slot_to, access_to, by_instructions}
use Rattle.machine_rename.proofs.Base.{cell_law, some_law, length-map_lem}

module _ (r : Renaming) where
  abbrev pub answer_to : Answer → Answer
  answer_to (Gives v) = Gives (value_to r v)
  answer_to (Raises k) = Raises k
  answer_to NoCase = NoCase

  -- an operator throws only what every program has
  abbrev pub Allowed : Answer → Type 0
  Allowed (Gives v) = Unit {0}
  Allowed (Raises k) = by_instructions k ≡ true
  Allowed NoCase = Unit {0}

  if_allowed : (b : Bool) (x y : Answer) → Allowed x → Allowed y → Allowed (if b then x else y)
  if_allowed true x y p q = p
  if_allowed false x y p q = q

  checked_allowed : (integer : IntegerType) (n : ℤ) → Allowed (checked integer n)
  checked_allowed integer n =
      if_allowed (int_le (least integer) n && int_le n (greatest integer)) (Gives (cut integer (cast_unsigned w64 n))) (Raises Overflow) tt refl

  by_signed_allowed : (w : Width) (x y : ℤ) (v : Value) → Allowed (by_signed w x y v)
  by_signed_allowed w x y v =
      if_allowed (is_zero w y) (Raises DivideByZero) (if is_least_by_minus_one w x y then Raises Arithmetic else Gives v) refl
      (if_allowed (is_least_by_minus_one w x y) (Raises Arithmetic) (Gives v) refl tt)

  arithmetic_allowed : (w : Width) (make : ℤ → Value) (operator : Operator) (x y : ℤ) → Allowed (arithmetic w make operator x y)
  arithmetic_allowed w make Divide x y = by_signed_allowed w x y (make (int_div x y))
  arithmetic_allowed w make Remainder x y = by_signed_allowed w x y (make (int_rem x y))
  arithmetic_allowed w make DivideUnsigned x y = if_allowed (is_zero w y) (Raises DivideByZero) (Gives _) refl tt
  arithmetic_allowed w make RemainderUnsigned x y = if_allowed (is_zero w y) (Raises DivideByZero) (Gives _) refl tt
  arithmetic_allowed w make Add x y = tt
  arithmetic_allowed w make Subtract x y = tt
  arithmetic_allowed w make Multiply x y = tt
  arithmetic_allowed w make And x y = tt
  arithmetic_allowed w make Or x y = tt
  arithmetic_allowed w make Xor x y = tt
  arithmetic_allowed w make (AddChecked sign) x y = checked_allowed (integer_at w sign) _
  arithmetic_allowed w make (SubtractChecked sign) x y = checked_allowed (integer_at w sign) _
  arithmetic_allowed w make (MultiplyChecked sign) x y = checked_allowed (integer_at w sign) _

  on_pair_allowed : (operator : Operator) (p : Pair) → Allowed (on_pair operator p)
  on_pair_allowed operator (Ints x y) = arithmetic_allowed w32 Int operator x y
  on_pair_allowed operator (Longs x y) = arithmetic_allowed w64 Long operator x y
  on_pair_allowed operator (References b) = tt
  on_pair_allowed operator Other = tt

  pub binary_allowed : (operator : Operator) (x y : Value) → Allowed (binary operator x y)
  unfolding binary
  binary_allowed operator x y = on_pair_allowed operator (pair_of (sight_of x) (sight_of y))

  on_convert_checked_allowed : (integer : IntegerType) (source : Sign) (a : Sight) → Allowed (on_convert_checked integer source a)
  on_convert_checked_allowed integer source (AnInt n) = checked_allowed integer (read_as w32 source n)
  on_convert_checked_allowed integer source (ALong n) = checked_allowed integer (read_as w64 source n)
  on_convert_checked_allowed integer source ANull = tt
  on_convert_checked_allowed integer source (AnObject n) = tt
  on_convert_checked_allowed integer source Another = tt

  pub convert_checked_allowed : (integer : IntegerType) (source : Sign) (x : Value) → Allowed (convert_checked integer source x)
  unfolding convert_checked
  convert_checked_allowed integer source x = on_convert_checked_allowed integer source (sight_of x)

  sight_law : (v : Value) → sight_of (value_to r v) ≡ sight_of v
  sight_law (Int n) = refl
  sight_law (Long n) = refl
  sight_law Null = refl
  sight_law (Object n) = refl
  sight_law (Handle f) = refl
  sight_law (Pointer c x) = refl

  pair_law : (x y : Value) → pair_of (sight_of (value_to r x)) (sight_of (value_to r y)) ≡ pair_of (sight_of x) (sight_of y)
  pair_law x y = ap (λ a. pair_of a (sight_of (value_to r y))) (sight_law x) ∙ ap (pair_of (sight_of x)) (sight_law y)

  pub cut_law : (integer : IntegerType) (n : ℕ) → value_to r (cut integer n) ≡ cut integer n
  cut_law I1 n = refl
  cut_law U1 n = refl
  cut_law I2 n = refl
  cut_law U2 n = refl
  cut_law I4 n = refl
  cut_law U4 n = refl
  cut_law I8 n = refl
  cut_law U8 n = refl

  -- an operator's answer names nothing of the program
  if_answer : (b : Bool) (x y : Answer) → answer_to x ≡ x → answer_to y ≡ y → answer_to (if b then x else y) ≡ (if b then x else y)
  if_answer true x y p q = p
  if_answer false x y p q = q

  checked_law : (integer : IntegerType) (n : ℤ) → answer_to (checked integer n) ≡ checked integer n
  checked_law integer n =
      if_answer (int_le (least integer) n && int_le n (greatest integer)) (Gives (cut integer (cast_unsigned w64 n))) (Raises Overflow) (ap Gives (cut_law integer _)) refl

  module _ (w : Width) (make : ℤ → Value) (h : (n : ℤ) → value_to r (make n) ≡ make n) where
    by_signed_law : (x y n : ℤ) → answer_to (by_signed w x y (make n)) ≡ by_signed w x y (make n)
    by_signed_law x y n =
        if_answer (is_zero w y) (Raises DivideByZero) (if is_least_by_minus_one w x y then Raises Arithmetic else Gives (make n)) refl
        (if_answer (is_least_by_minus_one w x y) (Raises Arithmetic) (Gives (make n)) refl (ap Gives (h n)))

    by_unsigned_law : (y n : ℤ) → answer_to (by_unsigned w y (make n)) ≡ by_unsigned w y (make n)
    by_unsigned_law y n = if_answer (is_zero w y) (Raises DivideByZero) (Gives (make n)) refl (ap Gives (h n))

    arithmetic_law : (operator : Operator) (x y : ℤ) → answer_to (arithmetic w make operator x y) ≡ arithmetic w make operator x y
    arithmetic_law Add x y = ap Gives (h _)
    arithmetic_law Subtract x y = ap Gives (h _)
    arithmetic_law Multiply x y = ap Gives (h _)
    arithmetic_law Divide x y = by_signed_law x y (int_div x y)
    arithmetic_law Remainder x y = by_signed_law x y (int_rem x y)
    arithmetic_law DivideUnsigned x y = by_unsigned_law y (cast_signed w (cast_unsigned w x / cast_unsigned w y))
    arithmetic_law RemainderUnsigned x y = by_unsigned_law y (cast_signed w (cast_unsigned w x % cast_unsigned w y))
    arithmetic_law And x y = ap Gives (h _)
    arithmetic_law Or x y = ap Gives (h _)
    arithmetic_law Xor x y = ap Gives (h _)
    arithmetic_law (AddChecked sign) x y = checked_law (integer_at w sign) (read_as w sign x +ℤ read_as w sign y)
    arithmetic_law (SubtractChecked sign) x y = checked_law (integer_at w sign) (read_as w sign x -ℤ read_as w sign y)
    arithmetic_law (MultiplyChecked sign) x y = checked_law (integer_at w sign) (read_as w sign x *ℤ read_as w sign y)

  on_pair_law : (operator : Operator) (p : Pair) → answer_to (on_pair operator p) ≡ on_pair operator p
  on_pair_law operator (Ints x y) = arithmetic_law w32 Int (λ n. refl) operator x y
  on_pair_law operator (Longs x y) = arithmetic_law w64 Long (λ n. refl) operator x y
  on_pair_law operator (References b) = refl
  on_pair_law operator Other = refl

  pub binary_law : (operator : Operator) (x y : Value) → binary operator (value_to r x) (value_to r y) ≡ answer_to (binary operator x y)
  unfolding binary
  binary_law operator x y = ap (on_pair operator) (pair_law x y) ∙ sym (on_pair_law operator (pair_of (sight_of x) (sight_of y)))

  on_shift_law : (operator : ShiftOperator) (a b : Sight) → option_map (value_to r) (on_shift operator a b) ≡ on_shift operator a b
  on_shift_law operator (AnInt x) (AnInt y) = refl
  on_shift_law operator (ALong x) (AnInt y) = refl
  on_shift_law operator _ _ = refl

  pub shift_law : (operator : ShiftOperator) (x y : Value) → shift operator (value_to r x) (value_to r y) ≡ option_map (value_to r) (shift operator x y)
  unfolding shift
  shift_law operator x y =
      ap (λ a. on_shift operator a (sight_of (value_to r y))) (sight_law x) ∙ ap (on_shift operator (sight_of x)) (sight_law y)
      ∙ sym (on_shift_law operator (sight_of x) (sight_of y))

  on_unary_law : (operator : UnaryOperator) (a : Sight) → option_map (value_to r) (on_unary operator a) ≡ on_unary operator a
  on_unary_law operator (AnInt x) = refl
  on_unary_law operator (ALong x) = refl
  on_unary_law operator _ = refl

  pub unary_law : (operator : UnaryOperator) (x : Value) → unary operator (value_to r x) ≡ option_map (value_to r) (unary operator x)
  unfolding unary
  unary_law operator x = ap (on_unary operator) (sight_law x) ∙ sym (on_unary_law operator (sight_of x))

  pub compare_law : (comparison : Comparison) (x y : Value) → compare comparison (value_to r x) (value_to r y) ≡ compare comparison x y
  unfolding compare
  compare_law comparison x y = ap (compared comparison) (pair_law x y)

  pub branch_compare_law : (comparison : Comparison) (x y : Value) → branch_compare comparison (value_to r x) (value_to r y) ≡ branch_compare comparison x y
  unfolding branch_compare
  branch_compare_law comparison x y = ap (branch_compared comparison) (pair_law x y)

  pub truth_law : (v : Value) → truth (value_to r v) ≡ truth v
  unfolding truth
  truth_law (Int n) = refl
  truth_law (Long n) = refl
  truth_law Null = refl
  truth_law (Object n) = refl
  truth_law (Handle f) = refl
  truth_law (Pointer c x) = refl

  on_convert_law : (integer : IntegerType) (a : Sight) → option_map (value_to r) (on_convert integer a) ≡ on_convert integer a
  on_convert_law integer (AnInt n) = ap Some (cut_law integer (widened integer n))
  on_convert_law integer (ALong n) = ap Some (cut_law integer (cast_unsigned w64 n))
  on_convert_law integer _ = refl

  pub convert_law : (integer : IntegerType) (x : Value) → convert integer (value_to r x) ≡ option_map (value_to r) (convert integer x)
  unfolding convert
  convert_law integer x = ap (on_convert integer) (sight_law x) ∙ sym (on_convert_law integer (sight_of x))

  on_convert_checked_law : (integer : IntegerType) (source : Sign) (a : Sight) → answer_to (on_convert_checked integer source a) ≡ on_convert_checked integer source a
  on_convert_checked_law integer source (AnInt n) = checked_law integer (read_as w32 source n)
  on_convert_checked_law integer source (ALong n) = checked_law integer (read_as w64 source n)
  on_convert_checked_law integer source _ = refl

  pub convert_checked_law : (integer : IntegerType) (source : Sign) (x : Value) → convert_checked integer source (value_to r x) ≡ answer_to (convert_checked integer source x)
  unfolding convert_checked
  convert_checked_law integer source x =
      ap (on_convert_checked integer source) (sight_law x) ∙ sym (on_convert_checked_law integer source (sight_of x))

  pub as_int_law : (v : Value) → as_int (value_to r v) ≡ as_int v
  as_int_law (Int n) = refl
  as_int_law (Long n) = refl
  as_int_law Null = refl
  as_int_law (Object n) = refl
  as_int_law (Handle f) = refl
  as_int_law (Pointer c x) = refl

  pub as_long_law : (v : Value) → as_long (value_to r v) ≡ as_long v
  as_long_law (Int n) = refl
  as_long_law (Long n) = refl
  as_long_law Null = refl
  as_long_law (Object n) = refl
  as_long_law (Handle f) = refl
  as_long_law (Pointer c x) = refl

  pub as_handle_law : (v : Value) → as_handle (value_to r v) ≡ option_map r.field (as_handle v)
  as_handle_law (Int n) = refl
  as_handle_law (Long n) = refl
  as_handle_law Null = refl
  as_handle_law (Object n) = refl
  as_handle_law (Handle f) = refl
  as_handle_law (Pointer c x) = refl

  -- places
  small_law : (integer : IntegerType) (n : ℤ) → value_to r (small integer n) ≡ small integer n
  small_law I4 n = refl
  small_law U4 n = refl
  small_law I1 n = refl
  small_law U1 n = refl
  small_law I2 n = refl
  small_law U2 n = refl
  small_law I8 n = refl
  small_law U8 n = refl

  if_option : (b : Bool) (x y : Option Value) → option_map (value_to r) x ≡ x → option_map (value_to r) y ≡ y → (if b then x else y) ≡ option_map (value_to r) (if b then x else y)
  if_option true x y p q = sym p
  if_option false x y p q = sym q

  pub kept_in_law : (c : Cell) (v : Value) → kept_in c (value_to r v) ≡ option_map (value_to r) (kept_in c v)
  unfolding kept_in
  kept_in_law (Bits integer) (Int n) = if_option (is_long integer) None (Some (small integer n)) refl (ap Some (small_law integer n))
  kept_in_law (Bits integer) (Long n) = if_option (is_long integer) (Some (Long n)) None refl refl
  kept_in_law (Bits integer) Null = refl
  kept_in_law (Bits integer) (Object n) = refl
  kept_in_law (Bits integer) (Handle f) = refl
  kept_in_law (Bits integer) (Pointer c x) = refl
  kept_in_law Refers (Int n) = refl
  kept_in_law Refers (Long n) = refl
  kept_in_law Refers Null = refl
  kept_in_law Refers (Object n) = refl
  kept_in_law Refers (Handle f) = refl
  kept_in_law Refers (Pointer c x) = refl

  kind_of_type_law : (t : CliType) → kind_of_type (type_to r t) ≡ kind_of_type t
  kind_of_type_law (Basic e) = refl
  kind_of_type_law (EnumOf e class) = refl
  kind_of_type_law (ClassOf class) = refl
  kind_of_type_law (ValueOf class) = refl
  kind_of_type_law (ArrayOf element) = refl

  kind_of_law : (k : PlaceType) → kind_of (place_type_to r k) ≡ kind_of k
  kind_of_law (Plain type) = kind_of_type_law type
  kind_of_law (To type) = ap (option_map HoldsPointer) (cell_law r type)

  if_pointer : (b : Bool) (c : Cell) (x : Spot) → (if b then Some (Pointer c x) else None) ≡ option_map (value_to r) (if b then Some (Pointer c x) else None)
  if_pointer true c x = refl
  if_pointer false c x = refl

  kept_by_law : (o : Option PlaceKind) (v : Value) → kept_by o (value_to r v) ≡ option_map (value_to r) (kept_by o v)
  kept_by_law None v = refl
  kept_by_law (Some (Holds cell)) v = kept_in_law cell v
  kept_by_law (Some (HoldsPointer cell)) (Pointer c x) = if_pointer (same_width c cell) c x
  kept_by_law (Some (HoldsPointer cell)) (Int n) = refl
  kept_by_law (Some (HoldsPointer cell)) (Long n) = refl
  kept_by_law (Some (HoldsPointer cell)) Null = refl
  kept_by_law (Some (HoldsPointer cell)) (Object n) = refl
  kept_by_law (Some (HoldsPointer cell)) (Handle f) = refl
  kept_by_law (Some HoldsHandle) (Handle f) = refl
  kept_by_law (Some HoldsHandle) (Int n) = refl
  kept_by_law (Some HoldsHandle) (Long n) = refl
  kept_by_law (Some HoldsHandle) Null = refl
  kept_by_law (Some HoldsHandle) (Object n) = refl
  kept_by_law (Some HoldsHandle) (Pointer c x) = refl

  pub kept_law : (k : PlaceType) (v : Value) → kept (place_type_to r k) (value_to r v) ≡ option_map (value_to r) (kept k v)
  unfolding kept
  kept_law k v = ap (λ o. kept_by o (value_to r v)) (kind_of_law k) ∙ kept_by_law (kind_of k) v

  pub access_law : (x : Access) → access_cell (access_to r x) ≡ access_cell x
  access_law (Exact cell) = refl
  access_law (Typed type) = cell_law r type

  -- arguments and results
  pub keep_all_law : (ks : List PlaceType) (vs : List Value) → keep_all (map (place_type_to r) ks) (map (value_to r) vs) ≡ option_map (map (value_to r)) (keep_all ks vs)
  keep_all_law [] [] = refl
  keep_all_law [] (v ∷ vs) = refl
  keep_all_law (k ∷ ks) [] = refl
  keep_all_law (k ∷ ks) (v ∷ vs) =
      some_law (map (value_to r)) (value_to r) _ _ _ _ (kept_law k v) (λ w.
      ap (option_map (λ ws. value_to r w ∷ ws)) (keep_all_law ks vs) ∙ twice w (keep_all ks vs))
    where
      twice : (w : Value) (o : Option (List Value)) → option_map (λ ws. value_to r w ∷ ws) (option_map (map (value_to r)) o) ≡ option_map (map (value_to r)) (option_map (λ ws. w ∷ ws) o)
      twice w None = refl
      twice w (Some ws) = refl

  abbrev pub taken_to : Taken Value → Taken Value
  taken_to t = record { arguments = map (value_to r) t.arguments; rest = map (value_to r) t.rest }

  take_arguments_law : (n : ℕ) (stack taken : List Value) → take_arguments n (map (value_to r) stack) (map (value_to r) taken) ≡ option_map taken_to (take_arguments n stack taken)
  take_arguments_law zero stack taken = refl
  take_arguments_law (suc n) [] taken = refl
  take_arguments_law (suc n) (v ∷ stack) taken = take_arguments_law n stack (v ∷ taken)

  pub taken_law : (m : Method) (stack : List Value) → take_arguments (length (map (place_type_to r) m.arguments)) (map (value_to r) stack) [] ≡ option_map taken_to (take_arguments (length m.arguments) stack [])
  taken_law m stack =
      ap (λ n. take_arguments n (map (value_to r) stack) []) (length-map_lem (place_type_to r) m.arguments) ∙ take_arguments_law (length m.arguments) stack []

  pub rest_law : (m : Method) (stack : List Value) → take_arguments (length (map (place_type_to r) m.arguments) - 1) (map (value_to r) stack) [] ≡ option_map taken_to (take_arguments (length m.arguments - 1) stack [])
  rest_law m stack =
      ap (λ n. take_arguments (n - 1) (map (value_to r) stack) []) (length-map_lem (place_type_to r) m.arguments) ∙ take_arguments_law (length m.arguments - 1) stack []

  pub result_law : (k : Option PlaceType) (stack : List Value) → result_of (option_map (place_type_to r) k) (map (value_to r) stack) ≡ option_map (option_map (value_to r)) (result_of k stack)
  result_law None stack = refl
  result_law (Some k) [] = refl
  result_law (Some k) (v ∷ rest) = some_law (option_map (value_to r)) (value_to r) _ _ _ _ (kept_law k v) (λ w. refl)

  pub with_result_law : (v : Option Value) (stack : List Value) → with_result (option_map (value_to r) v) (map (value_to r) stack) ≡ map (value_to r) (with_result v stack)
  with_result_law None stack = refl
  with_result_law (Some v) stack = refl

  pub number_law : (v : Option Value) → number_of (option_map (value_to r) v) ≡ number_of v
  number_law None = refl
  number_law (Some v) = ap (option_map Some) (as_int_law v)

  pub nothings_law : (m : Id) (n : ℕ) → map (slot_to r m) (replicate n Nothing) ≡ replicate n Nothing
  nothings_law m zero = refl
  nothings_law m (suc n) = ap (λ ss. Nothing ∷ ss) (nothings_law m n)
