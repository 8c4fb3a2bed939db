-- Operators on typed values.
use Rattle.std.proofs.Common.{◌≡◌, ℕ, Bool, true, false, ◌&&◌, ◌==◌, Option, Some, None, List, refl, ap, subst}
use Rattle.std.specs.Prelude.{ℤ, int_le, if◌then◌else◌}
use Rattle.std.specs.Option.{option_map}
use Rattle.std.specs.Int.{Width, w32, w64, cast_unsigned}
use Rattle.cil_opcodes.specs.declared.shape.IntegerType.{IntegerType}
use Rattle.cil_opcodes.specs.declared.shape.IntegerType.TheVariants.{I1, U1, I2, U2, I4, U4, I8, U8}
use Rattle.cil_opcodes.specs.declared.shape.Sign.{Sign}
use Rattle.cil_opcodes.specs.declared.shape.Sign.TheVariants.{Signed, Unsigned}
use Rattle.cil_opcodes.specs.declared.shape.Operator.{Operator}
use Rattle.cil_opcodes.specs.declared.shape.Operator.TheVariants.{Add, Subtract, Multiply, Divide, DivideUnsigned, Remainder, RemainderUnsigned, And, Or, Xor, AddChecked, SubtractChecked, MultiplyChecked}
use Rattle.cil_opcodes.specs.declared.shape.UnaryOperator.{UnaryOperator}
use Rattle.cil_opcodes.specs.declared.shape.ShiftOperator.{ShiftOperator}
use Rattle.cil_opcodes.specs.declared.shape.Comparison.{Comparison}
use Rattle.cil_opcodes.specs.declared.shape.Comparison.TheVariants.{Equal, Greater, GreaterUnsigned, Less, LessUnsigned}
use Rattle.board_types.specs.declared.board.Known.TheVariants.{Overflow, Arithmetic, DivideByZero}
use Rattle.machine.specs.Data.{Value, Int, Long, Null, Object, Handle, Pointer}
use Rattle.machine.specs.Program.{Program}
use Rattle.machine.specs.Numbers.{Answer, Gives, Raises, NoCase, Sight, AnInt, ALong, ANull, AnObject, Another, sight_of, pair_of, References, on_pair, binary, arithmetic, checked, integer_at, by_signed, by_unsigned, is_zero, is_least_by_minus_one, least, greatest, cut, is_long, shift, on_shift, shifted, inverted, unary, on_unary, compare, compared, branch_compare, branch_compared, convert, on_convert, convert_checked, on_convert_checked, truth, as_int}
use Rattle.machine_typed.specs.Typing.{StackType, I, L, Nil, O, H, P, Never, number, Sort, IntSort, LongSort, ReferenceSort, OtherSort, sort_of, binary_type, shift_type, unary_type, compares_references, branches_on_references, is_comparable, is_condition, is_int, type_of_constant}
use Rattle.machine_typed.proofs.Heaps.{some_same}
use Rattle.machine_typed.proofs.Values.{Context, HasType}

abbrev Sighted : Sort → Sight → Type 0
Sighted IntSort (AnInt n) = Unit {0}
Sighted LongSort (ALong n) = Unit {0}
Sighted ReferenceSort ANull = Unit {0}
Sighted ReferenceSort (AnObject n) = Unit {0}
Sighted OtherSort Another = Unit {0}
Sighted _ _ = ⊥

module _ (p : Program) where
  sighted : (cx : Context) (v : Value) (u : StackType) → HasType p cx v u → Sighted (sort_of u) (sight_of v)
  sighted cx (Int n) I h = tt
  sighted cx (Long n) L h = tt
  sighted cx Null Nil h = tt
  sighted cx Null (O c) h = tt
  sighted cx (Object n) (O c) h = tt
  sighted cx (Handle f) H h = tt
  sighted cx (Pointer c s) (P d) h = tt
  sighted cx _ _ h = absurd h

  -- ---- answers

  abbrev pub IsFine : Context → StackType → Answer → Type 0
  IsFine cx u (Gives v) = HasType p cx v u
  IsFine cx u (Raises k) = Unit {0}
  IsFine cx u NoCase = ⊥

  if_fine : (cx : Context) (u : StackType) (b : Bool) (x y : Answer) → IsFine cx u x → IsFine cx u y → IsFine cx u (if b then x else y)
  if_fine cx u true x y g h = g
  if_fine cx u false x y g h = h

  pub cut_has : (cx : Context) (i : IntegerType) (n : ℕ) → HasType p cx (cut i n) (number (is_long i))
  cut_has cx I1 n = tt
  cut_has cx U1 n = tt
  cut_has cx I2 n = tt
  cut_has cx U2 n = tt
  cut_has cx I4 n = tt
  cut_has cx U4 n = tt
  cut_has cx I8 n = tt
  cut_has cx U8 n = tt

  checked_fine : (cx : Context) (i : IntegerType) (n : ℤ) → IsFine cx (number (is_long i)) (checked i n)
  checked_fine cx i n =
      if_fine cx (number (is_long i)) (int_le (least i) n && int_le n (greatest i)) (Gives (cut i (cast_unsigned w64 n))) (Raises Overflow) (cut_has cx i (cast_unsigned w64 n)) tt

  checked_int : (cx : Context) (sign : Sign) (n : ℤ) → IsFine cx I (checked (integer_at w32 sign) n)
  checked_int cx Signed n = checked_fine cx I4 n
  checked_int cx Unsigned n = checked_fine cx U4 n

  checked_long : (cx : Context) (sign : Sign) (n : ℤ) → IsFine cx L (checked (integer_at w64 sign) n)
  checked_long cx Signed n = checked_fine cx I8 n
  checked_long cx Unsigned n = checked_fine cx U8 n

  signed_fine : (cx : Context) (u : StackType) (w : Width) (x y : ℤ) (v : Value) → HasType p cx v u → IsFine cx u (by_signed w x y v)
  signed_fine cx u w x y v h =
      if_fine cx u (is_zero w y) (Raises DivideByZero) (if is_least_by_minus_one w x y then Raises Arithmetic else Gives v) tt
      (if_fine cx u (is_least_by_minus_one w x y) (Raises Arithmetic) (Gives v) tt h)

  unsigned_fine : (cx : Context) (u : StackType) (w : Width) (y : ℤ) (v : Value) → HasType p cx v u → IsFine cx u (by_unsigned w y v)
  unsigned_fine cx u w y v h = if_fine cx u (is_zero w y) (Raises DivideByZero) (Gives v) tt h

  ints_fine : (cx : Context) (operator : Operator) (x y : ℤ) → IsFine cx I (arithmetic w32 Int operator x y)
  ints_fine cx Divide x y = signed_fine cx I w32 x y _ tt
  ints_fine cx Remainder x y = signed_fine cx I w32 x y _ tt
  ints_fine cx DivideUnsigned x y = unsigned_fine cx I w32 y _ tt
  ints_fine cx RemainderUnsigned x y = unsigned_fine cx I w32 y _ tt
  ints_fine cx (AddChecked sign) x y = checked_int cx sign _
  ints_fine cx (SubtractChecked sign) x y = checked_int cx sign _
  ints_fine cx (MultiplyChecked sign) x y = checked_int cx sign _
  ints_fine cx Add x y = tt
  ints_fine cx Subtract x y = tt
  ints_fine cx Multiply x y = tt
  ints_fine cx And x y = tt
  ints_fine cx Or x y = tt
  ints_fine cx Xor x y = tt

  longs_fine : (cx : Context) (operator : Operator) (x y : ℤ) → IsFine cx L (arithmetic w64 Long operator x y)
  longs_fine cx Divide x y = signed_fine cx L w64 x y _ tt
  longs_fine cx Remainder x y = signed_fine cx L w64 x y _ tt
  longs_fine cx DivideUnsigned x y = unsigned_fine cx L w64 y _ tt
  longs_fine cx RemainderUnsigned x y = unsigned_fine cx L w64 y _ tt
  longs_fine cx (AddChecked sign) x y = checked_long cx sign _
  longs_fine cx (SubtractChecked sign) x y = checked_long cx sign _
  longs_fine cx (MultiplyChecked sign) x y = checked_long cx sign _
  longs_fine cx Add x y = tt
  longs_fine cx Subtract x y = tt
  longs_fine cx Multiply x y = tt
  longs_fine cx And x y = tt
  longs_fine cx Or x y = tt
  longs_fine cx Xor x y = tt

  pair_fine : (cx : Context) (operator : Operator) (a b : Sort) (x y : Sight) (z : StackType) → Sighted a x → Sighted b y → binary_type a b ≡ Some z → IsFine cx z (on_pair operator (pair_of x y))
  pair_fine cx operator IntSort IntSort (AnInt x) (AnInt y) z g h e = subst (λ u. IsFine cx u (arithmetic w32 Int operator x y)) (some_same I z e) (ints_fine cx operator x y)
  pair_fine cx operator LongSort LongSort (ALong x) (ALong y) z g h e = subst (λ u. IsFine cx u (arithmetic w64 Long operator x y)) (some_same L z e) (longs_fine cx operator x y)
  pair_fine cx operator IntSort IntSort (AnInt x) _ z g h e = absurd h
  pair_fine cx operator LongSort LongSort (ALong x) _ z g h e = absurd h
  pair_fine cx operator IntSort IntSort _ y z g h e = absurd g
  pair_fine cx operator LongSort LongSort _ y z g h e = absurd g
  pair_fine cx operator _ _ x y z g h e = absurd (cc e)

  pub binary_fine : (cx : Context) (operator : Operator) (x y : Value) (w u z : StackType) → HasType p cx x w → HasType p cx y u → binary_type (sort_of w) (sort_of u) ≡ Some z → IsFine cx z (binary operator x y)
  unfolding binary
  binary_fine cx operator x y w u z h k e = pair_fine cx operator (sort_of w) (sort_of u) (sight_of x) (sight_of y) z (sighted cx x w h) (sighted cx y u k) e

  -- ---- shifts and operators of one number

  abbrev Has : Context → Option Value → StackType → Type 0
  Has cx o u = (v : Value) × (o ≡ Some v) × HasType p cx v u

  on_shift_fine : (cx : Context) (operator : ShiftOperator) (a b : Sort) (x y : Sight) (z : StackType) → Sighted a x → Sighted b y → shift_type a b ≡ Some z → Has cx (on_shift operator x y) z
  on_shift_fine cx operator IntSort IntSort (AnInt x) (AnInt y) z g h e = (Int (shifted w32 operator x y), refl, subst (HasType p cx (Int (shifted w32 operator x y))) (some_same I z e) tt)
  on_shift_fine cx operator LongSort IntSort (ALong x) (AnInt y) z g h e = (Long (shifted w64 operator x y), refl, subst (HasType p cx (Long (shifted w64 operator x y))) (some_same L z e) tt)
  on_shift_fine cx operator IntSort IntSort (AnInt x) _ z g h e = absurd h
  on_shift_fine cx operator LongSort IntSort (ALong x) _ z g h e = absurd h
  on_shift_fine cx operator IntSort IntSort _ y z g h e = absurd g
  on_shift_fine cx operator LongSort IntSort _ y z g h e = absurd g
  on_shift_fine cx operator _ _ x y z g h e = absurd (cc e)

  pub shift_fine : (cx : Context) (operator : ShiftOperator) (x y : Value) (w u z : StackType) → HasType p cx x w → HasType p cx y u → shift_type (sort_of w) (sort_of u) ≡ Some z → Has cx (shift operator x y) z
  unfolding shift
  shift_fine cx operator x y w u z h k e = on_shift_fine cx operator (sort_of w) (sort_of u) (sight_of x) (sight_of y) z (sighted cx x w h) (sighted cx y u k) e

  on_unary_fine : (cx : Context) (operator : UnaryOperator) (a : Sort) (x : Sight) (z : StackType) → Sighted a x → unary_type a ≡ Some z → Has cx (on_unary operator x) z
  on_unary_fine cx operator IntSort (AnInt x) z g e = (Int (inverted w32 operator x), refl, subst (HasType p cx (Int (inverted w32 operator x))) (some_same I z e) tt)
  on_unary_fine cx operator LongSort (ALong x) z g e = (Long (inverted w64 operator x), refl, subst (HasType p cx (Long (inverted w64 operator x))) (some_same L z e) tt)
  on_unary_fine cx operator IntSort _ z g e = absurd g
  on_unary_fine cx operator LongSort _ z g e = absurd g
  on_unary_fine cx operator _ x z g e = absurd (cc e)

  pub unary_fine : (cx : Context) (operator : UnaryOperator) (x : Value) (w z : StackType) → HasType p cx x w → unary_type (sort_of w) ≡ Some z → Has cx (unary operator x) z
  unfolding unary
  unary_fine cx operator x w z h e = on_unary_fine cx operator (sort_of w) (sight_of x) z (sighted cx x w h) e

  -- ---- conversions

  on_convert_fine : (cx : Context) (i : IntegerType) (a : Sort) (x : Sight) (z : StackType) → Sighted a x → unary_type a ≡ Some z → Has cx (on_convert i x) (number (is_long i))
  on_convert_fine cx i IntSort (AnInt x) z g e = (_, refl, cut_has cx i _)
  on_convert_fine cx i LongSort (ALong x) z g e = (_, refl, cut_has cx i _)
  on_convert_fine cx i IntSort _ z g e = absurd g
  on_convert_fine cx i LongSort _ z g e = absurd g
  on_convert_fine cx i _ x z g e = absurd (cc e)

  pub convert_fine : (cx : Context) (i : IntegerType) (x : Value) (w z : StackType) → HasType p cx x w → unary_type (sort_of w) ≡ Some z → Has cx (convert i x) (number (is_long i))
  unfolding convert
  convert_fine cx i x w z h e = on_convert_fine cx i (sort_of w) (sight_of x) z (sighted cx x w h) e

  on_checked_fine : (cx : Context) (i : IntegerType) (source : Sign) (a : Sort) (x : Sight) (z : StackType) → Sighted a x → unary_type a ≡ Some z → IsFine cx (number (is_long i)) (on_convert_checked i source x)
  on_checked_fine cx i source IntSort (AnInt x) z g e = checked_fine cx i _
  on_checked_fine cx i source LongSort (ALong x) z g e = checked_fine cx i _
  on_checked_fine cx i source IntSort _ z g e = absurd g
  on_checked_fine cx i source LongSort _ z g e = absurd g
  on_checked_fine cx i source _ x z g e = absurd (cc e)

  pub convert_checked_fine : (cx : Context) (i : IntegerType) (source : Sign) (x : Value) (w z : StackType) → HasType p cx x w → unary_type (sort_of w) ≡ Some z → IsFine cx (number (is_long i)) (convert_checked i source x)
  unfolding convert_checked
  convert_checked_fine cx i source x w z h e = on_checked_fine cx i source (sort_of w) (sight_of x) z (sighted cx x w h) e

  -- ---- comparisons

  abbrev Tells : Option Bool → Type 0
  Tells o = (b : Bool) × (o ≡ Some b)

  references_compared : (comparison : Comparison) (same : Bool) → compares_references comparison ≡ true → Tells (compared comparison (References same))
  references_compared Equal same e = (_, refl)
  references_compared GreaterUnsigned same e = (_, refl)
  references_compared Greater same e = absurd (cc e)
  references_compared Less same e = absurd (cc e)
  references_compared LessUnsigned same e = absurd (cc e)

  references_branch : (comparison : Comparison) (same : Bool) → branches_on_references comparison ≡ true → Tells (branch_compared comparison (References same))
  references_branch Equal same e = (_, refl)
  references_branch GreaterUnsigned same e = absurd (cc e)
  references_branch Greater same e = absurd (cc e)
  references_branch Less same e = absurd (cc e)
  references_branch LessUnsigned same e = absurd (cc e)

  compared_fine : (comparison : Comparison) (a b : Sort) (x y : Sight) → Sighted a x → Sighted b y → is_comparable (compares_references comparison) a b ≡ true → Tells (compared comparison (pair_of x y))
  compared_fine comparison IntSort IntSort (AnInt x) (AnInt y) g h e = (_, refl)
  compared_fine comparison LongSort LongSort (ALong x) (ALong y) g h e = (_, refl)
  compared_fine comparison ReferenceSort ReferenceSort ANull ANull g h e = references_compared comparison true e
  compared_fine comparison ReferenceSort ReferenceSort ANull (AnObject y) g h e = references_compared comparison false e
  compared_fine comparison ReferenceSort ReferenceSort (AnObject x) ANull g h e = references_compared comparison false e
  compared_fine comparison ReferenceSort ReferenceSort (AnObject x) (AnObject y) g h e = references_compared comparison (x == y) e
  compared_fine comparison IntSort IntSort (AnInt x) _ g h e = absurd h
  compared_fine comparison LongSort LongSort (ALong x) _ g h e = absurd h
  compared_fine comparison ReferenceSort ReferenceSort ANull _ g h e = absurd h
  compared_fine comparison ReferenceSort ReferenceSort (AnObject x) _ g h e = absurd h
  compared_fine comparison IntSort IntSort _ y g h e = absurd g
  compared_fine comparison LongSort LongSort _ y g h e = absurd g
  compared_fine comparison ReferenceSort ReferenceSort _ y g h e = absurd g
  compared_fine comparison _ _ x y g h e = absurd (cc e)

  branch_compared_fine : (comparison : Comparison) (a b : Sort) (x y : Sight) → Sighted a x → Sighted b y → is_comparable (branches_on_references comparison) a b ≡ true → Tells (branch_compared comparison (pair_of x y))
  branch_compared_fine comparison IntSort IntSort (AnInt x) (AnInt y) g h e = (_, refl)
  branch_compared_fine comparison LongSort LongSort (ALong x) (ALong y) g h e = (_, refl)
  branch_compared_fine comparison ReferenceSort ReferenceSort ANull ANull g h e = references_branch comparison true e
  branch_compared_fine comparison ReferenceSort ReferenceSort ANull (AnObject y) g h e = references_branch comparison false e
  branch_compared_fine comparison ReferenceSort ReferenceSort (AnObject x) ANull g h e = references_branch comparison false e
  branch_compared_fine comparison ReferenceSort ReferenceSort (AnObject x) (AnObject y) g h e = references_branch comparison (x == y) e
  branch_compared_fine comparison IntSort IntSort (AnInt x) _ g h e = absurd h
  branch_compared_fine comparison LongSort LongSort (ALong x) _ g h e = absurd h
  branch_compared_fine comparison ReferenceSort ReferenceSort ANull _ g h e = absurd h
  branch_compared_fine comparison ReferenceSort ReferenceSort (AnObject x) _ g h e = absurd h
  branch_compared_fine comparison IntSort IntSort _ y g h e = absurd g
  branch_compared_fine comparison LongSort LongSort _ y g h e = absurd g
  branch_compared_fine comparison ReferenceSort ReferenceSort _ y g h e = absurd g
  branch_compared_fine comparison _ _ x y g h e = absurd (cc e)

  pub compare_fine : (cx : Context) (comparison : Comparison) (x y : Value) (w u : StackType) → HasType p cx x w → HasType p cx y u → is_comparable (compares_references comparison) (sort_of w) (sort_of u) ≡ true → Tells (compare comparison x y)
  unfolding compare
  compare_fine cx comparison x y w u h k e = compared_fine comparison (sort_of w) (sort_of u) (sight_of x) (sight_of y) (sighted cx x w h) (sighted cx y u k) e

  pub branch_compare_fine : (cx : Context) (comparison : Comparison) (x y : Value) (w u : StackType) → HasType p cx x w → HasType p cx y u → is_comparable (branches_on_references comparison) (sort_of w) (sort_of u) ≡ true → Tells (branch_compare comparison x y)
  unfolding branch_compare
  branch_compare_fine cx comparison x y w u h k e = branch_compared_fine comparison (sort_of w) (sort_of u) (sight_of x) (sight_of y) (sighted cx x w h) (sighted cx y u k) e

  pub truth_fine : (cx : Context) (v : Value) (u : StackType) → HasType p cx v u → is_condition (sort_of u) ≡ true → Tells (truth v)
  unfolding truth
  truth_fine cx (Int n) I h e = (_, refl)
  truth_fine cx (Long n) L h e = (_, refl)
  truth_fine cx Null Nil h e = (_, refl)
  truth_fine cx Null (O c) h e = (_, refl)
  truth_fine cx (Object n) (O c) h e = (_, refl)
  truth_fine cx (Handle f) H h e = absurd (cc e)
  truth_fine cx (Pointer c s) (P d) h e = absurd (cc e)
  truth_fine cx _ _ h e = absurd h

  -- ---- values by their types

  pub int_here : (cx : Context) (v : Value) → HasType p cx v I → (n : ℤ) × (v ≡ Int n)
  int_here cx (Int n) h = (n, refl)
  int_here cx (Long n) h = absurd h
  int_here cx Null h = absurd h
  int_here cx (Object n) h = absurd h
  int_here cx (Handle f) h = absurd h
  int_here cx (Pointer c s) h = absurd h

  pub long_here : (cx : Context) (v : Value) → HasType p cx v L → (n : ℤ) × (v ≡ Long n)
  long_here cx (Long n) h = (n, refl)
  long_here cx (Int n) h = absurd h
  long_here cx Null h = absurd h
  long_here cx (Object n) h = absurd h
  long_here cx (Handle f) h = absurd h
  long_here cx (Pointer c s) h = absurd h

  is_int_type : (u : StackType) → is_int u ≡ true → u ≡ I
  is_int_type I e = refl
  is_int_type L e = absurd (cc e)
  is_int_type Nil e = absurd (cc e)
  is_int_type (O c) e = absurd (cc e)
  is_int_type H e = absurd (cc e)
  is_int_type (P c) e = absurd (cc e)
  is_int_type Never e = absurd (cc e)

  pub int_has : (cx : Context) (v : Value) (u : StackType) → HasType p cx v u → is_int u ≡ true → (n : ℤ) × (as_int v ≡ Some n)
  int_has cx v u h e = let x = int_here cx v (subst (HasType p cx v) (is_int_type u e) h) in (x.0, ap as_int x.1)

  bytes_there : (o : Option (List ℕ)) (u : StackType) → option_map (λ bytes. H) o ≡ Some u → (bytes : List ℕ) × (o ≡ Some bytes) × (H ≡ u)
  bytes_there None u e = absurd (cc e)
  bytes_there (Some bytes) u e = (bytes, refl, some_same H u e)

  pub constant_has : (cx : Context) (v : Value) (u : StackType) → type_of_constant p v ≡ Some u → HasType p cx v u
  constant_has cx (Int n) u e = subst (HasType p cx (Int n)) (some_same I u e) tt
  constant_has cx (Long n) u e = subst (HasType p cx (Long n)) (some_same L u e) tt
  constant_has cx Null u e = subst (HasType p cx Null) (some_same Nil u e) tt
  constant_has cx (Object n) u e = absurd (cc e)
  constant_has cx (Pointer c s) u e = absurd (cc e)
  constant_has cx (Handle f) u e = let x = bytes_there (p.bytes f) u e in subst (HasType p cx (Handle f)) x.2 (x.0, x.1)
