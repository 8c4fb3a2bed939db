-- Numbers: what the operators give, and a run that meets two faults of a division.
use Rattle.std.proofs.Common.{◌≡◌, ◌+◌, ◌-◌, ◌^◌, true, false, [], ◌∷◌, Some, None, refl}
use Rattle.std.specs.Prelude.{pos, negsuc}
use Rattle.cil_opcodes.specs.declared.shape.IntegerType.TheVariants.{I1, U1, I2, U2, I4, U4, I8, U8}
use Rattle.cil_opcodes.specs.declared.shape.Sign.TheVariants.{Signed, Unsigned}
use Rattle.cil_opcodes.specs.declared.shape.Operator.TheVariants.{Add, Subtract, Multiply, Divide, DivideUnsigned, Remainder, RemainderUnsigned, And, Or, Xor, AddChecked, SubtractChecked, MultiplyChecked}
use Rattle.cil_opcodes.specs.declared.shape.UnaryOperator.TheVariants.{Negate, Complement}
use Rattle.cil_opcodes.specs.declared.shape.ShiftOperator.TheVariants.{Left, Right, RightUnsigned}
use Rattle.cil_opcodes.specs.declared.shape.Comparison.TheVariants.{Equal, GreaterUnsigned, Less, LessUnsigned}
use Rattle.board_types.specs.declared.board.Known.TheVariants.{Overflow, Arithmetic, DivideByZero}
use Rattle.machine.specs.Data.{Bits, Refers, Value, Int, Long, Null, Object, Plain}
use Rattle.machine.specs.Program.{Push, Dup, Pop, Binary, LoadLocal, StoreLocal, Branch, BranchCompare, Switch, Leave, Return}
use Rattle.machine.specs.Numbers.{Gives, Raises, NoCase, binary, shift, unary, compare, branch_compare, convert, convert_checked, truth, kept, kept_in, zero_of, zero_place}
use Rattle.machine.specs.Throw.{goes, enter_clause, throw, raise}
use Rattle.machine.specs.Calls.{return_value}
use Rattle.machine.specs.Step.{step}
use Rattle.machine.specs.Trace.{passes, WithNumber, WithClass, start, trace}
use Rattle.machine.proofs.Samples.{program, code, guarded, caught, int, shows}

abbrev least : Value
least = Int (negsuc (2 ^ 31 - 1))

abbrev minus_one : Value
minus_one = Int (negsuc 0)

wraps :
    (binary Add (Int (pos (2 ^ 31 - 1))) (Int (pos 1)) ≡ Gives least)
    × (binary Subtract least (Int (pos 1)) ≡ Gives (Int (pos (2 ^ 31 - 1))))
    × (binary Multiply (Int (pos 65536)) (Int (pos 65537)) ≡ Gives (Int (pos 65536)))
    × (binary Add (Long (pos (2 ^ 63 - 1))) (Long (pos 1)) ≡ Gives (Long (negsuc (2 ^ 63 - 1))))
    × (binary Add (Long (pos 1)) (Int (pos 1)) ≡ NoCase)
    × (unary Negate least ≡ Some least)
    × (unary Complement (Int (pos 0)) ≡ Some minus_one)
    × (unary Negate (Long (pos 5)) ≡ Some (Long (negsuc 4)))
unfolding binary unary
wraps = (refl, refl, refl, refl, refl, refl, refl, refl)

-- towards zero, and the remainder has the sign of the dividend
divides :
    (binary Divide (Int (negsuc 6)) (Int (pos 2)) ≡ Gives (Int (negsuc 2)))
    × (binary Remainder (Int (negsuc 6)) (Int (pos 2)) ≡ Gives minus_one)
    × (binary Remainder (Int (pos 7)) (Int (negsuc 1)) ≡ Gives (Int (pos 1)))
    × (binary Divide least minus_one ≡ Raises Arithmetic)
    × (binary Remainder least minus_one ≡ Raises Arithmetic)
    × (binary Remainder (Long (negsuc (2 ^ 63 - 1))) (Long (negsuc 0)) ≡ Raises Arithmetic)
    × (binary Divide least (Int (pos 0)) ≡ Raises DivideByZero)
    × (binary DivideUnsigned minus_one (Int (pos 2)) ≡ Gives (Int (pos (2 ^ 31 - 1))))
    × (binary DivideUnsigned least minus_one ≡ Gives (Int (pos 0)))
    × (binary RemainderUnsigned minus_one (Int (pos 10)) ≡ Gives (Int (pos 5)))
    × (binary RemainderUnsigned (Int (pos 1)) (Int (pos 0)) ≡ Raises DivideByZero)
unfolding binary
divides = (refl, refl, refl, refl, refl, refl, refl, refl, refl, refl, refl)

checks :
    (binary (AddChecked Signed) (Int (pos (2 ^ 31 - 1))) (Int (pos 1)) ≡ Raises Overflow)
    × (binary (AddChecked Signed) least (Int (pos 1)) ≡ Gives (Int (negsuc (2 ^ 31 - 2))))
    × (binary (AddChecked Unsigned) minus_one (Int (pos 1)) ≡ Raises Overflow)
    × (binary (AddChecked Unsigned) (Int (pos (2 ^ 31 - 1))) (Int (pos 1)) ≡ Gives least)
    × (binary (SubtractChecked Unsigned) (Int (pos 0)) (Int (pos 1)) ≡ Raises Overflow)
    × (binary (SubtractChecked Signed) (Int (pos 0)) (Int (pos 1)) ≡ Gives minus_one)
    × (binary (MultiplyChecked Unsigned) (Int (pos 65535)) (Int (pos 65537)) ≡ Gives minus_one)
    × (binary (MultiplyChecked Unsigned) (Int (pos 65536)) (Int (pos 65536)) ≡ Raises Overflow)
    × (binary (MultiplyChecked Signed) (Int (pos 65535)) (Int (pos 65537)) ≡ Raises Overflow)
    × (binary (MultiplyChecked Signed) (Long (negsuc (2 ^ 62 - 1))) (Long (pos 2)) ≡ Gives (Long (negsuc (2 ^ 63 - 1))))
    × (binary (AddChecked Unsigned) (Long (negsuc 0)) (Long (pos 1)) ≡ Raises Overflow)
unfolding binary
checks = (refl, refl, refl, refl, refl, refl, refl, refl, refl, refl, refl)

bits :
    (binary And (Int (negsuc 0)) (Int (pos 12)) ≡ Gives (Int (pos 12)))
    × (binary Or least (Int (pos 1)) ≡ Gives (Int (negsuc (2 ^ 31 - 2))))
    × (binary Xor minus_one (Int (pos 1)) ≡ Gives (Int (negsuc 1)))
    × (shift Left (Int (pos 1)) (Int (pos 33)) ≡ Some (Int (pos 2)))
    × (shift Left (Int (pos 3)) minus_one ≡ Some least)
    × (shift Right (Int (negsuc 7)) (Int (pos 1)) ≡ Some (Int (negsuc 3)))
    × (shift RightUnsigned minus_one (Int (pos 28)) ≡ Some (Int (pos 15)))
    × (shift Left (Long (pos 1)) (Int (pos 65)) ≡ Some (Long (pos 2)))
    × (shift RightUnsigned (Long (negsuc 0)) (Int (pos 60)) ≡ Some (Long (pos 15)))
    × (shift Left (Int (pos 1)) (Long (pos 1)) ≡ None)
unfolding binary shift
bits = (refl, refl, refl, refl, refl, refl, refl, refl, refl, refl)

converts :
    (convert I1 (Int (pos 200)) ≡ Some (Int (negsuc 55)))
    × (convert U1 minus_one ≡ Some (Int (pos 255)))
    × (convert I2 (Int (pos 40000)) ≡ Some (Int (negsuc 25535)))
    × (convert U2 minus_one ≡ Some (Int (pos 65535)))
    × (convert I8 minus_one ≡ Some (Long (negsuc 0)))
    × (convert U8 minus_one ≡ Some (Long (pos (2 ^ 32 - 1))))
    × (convert I4 (Long (pos (2 ^ 32 + 5))) ≡ Some (Int (pos 5)))
    × (convert U4 (Long (negsuc 0)) ≡ Some minus_one)
    × (convert U8 (Long (negsuc 0)) ≡ Some (Long (negsuc 0)))
    × (convert I4 Null ≡ None)
unfolding convert
converts = (refl, refl, refl, refl, refl, refl, refl, refl, refl, refl)

converts_checked :
    (convert_checked I1 Signed (Int (pos 128)) ≡ Raises Overflow)
    × (convert_checked I1 Signed (Int (negsuc 127)) ≡ Gives (Int (negsuc 127)))
    × (convert_checked U1 Signed minus_one ≡ Raises Overflow)
    × (convert_checked U2 Unsigned (Int (pos 65535)) ≡ Gives (Int (pos 65535)))
    × (convert_checked I4 Unsigned minus_one ≡ Raises Overflow)
    × (convert_checked U4 Unsigned minus_one ≡ Gives minus_one)
    × (convert_checked U4 Signed minus_one ≡ Raises Overflow)
    × (convert_checked U8 Signed minus_one ≡ Raises Overflow)
    × (convert_checked U8 Unsigned minus_one ≡ Gives (Long (pos (2 ^ 32 - 1))))
    × (convert_checked I8 Unsigned (Long (negsuc 0)) ≡ Raises Overflow)
    × (convert_checked U8 Unsigned (Long (negsuc 0)) ≡ Gives (Long (negsuc 0)))
    × (convert_checked U4 Signed (Long (pos (2 ^ 32 - 1))) ≡ Gives minus_one)
unfolding convert_checked
converts_checked = (refl, refl, refl, refl, refl, refl, refl, refl, refl, refl, refl, refl)

compares :
    (compare LessUnsigned minus_one (Int (pos 1)) ≡ Some false)
    × (compare Less minus_one (Int (pos 1)) ≡ Some true)
    × (compare GreaterUnsigned (Long (negsuc 0)) (Long (pos 1)) ≡ Some true)
    × (compare Equal (Object 3) (Object 3) ≡ Some true)
    × (compare GreaterUnsigned (Object 3) Null ≡ Some true)
    × (compare GreaterUnsigned Null Null ≡ Some false)
    × (compare Less Null Null ≡ None)
    × (branch_compare Equal Null (Object 0) ≡ Some false)
    × (branch_compare GreaterUnsigned (Object 3) Null ≡ None)
    × (truth (Object 0) ≡ Some true)
    × (truth (Long (pos 0)) ≡ Some false)
unfolding compare branch_compare truth
compares = (refl, refl, refl, refl, refl, refl, refl, refl, refl, refl, refl)

-- what a place keeps, by its own width and sign
places :
    (kept_in (Bits I1) (Int (pos 255)) ≡ Some minus_one)
    × (kept_in (Bits U1) minus_one ≡ Some (Int (pos 255)))
    × (kept_in (Bits U2) (Int (pos 65537)) ≡ Some (Int (pos 1)))
    × (kept_in (Bits U4) minus_one ≡ Some minus_one)
    × (kept_in (Bits I4) (Long (pos 1)) ≡ None)
    × (kept_in (Bits I8) (Int (pos 1)) ≡ None)
    × (kept_in Refers Null ≡ Some Null)
    × (kept_in Refers (Int (pos 0)) ≡ None)
unfolding kept_in
places = (refl, refl, refl, refl, refl, refl, refl, refl)

-- the remainder of the least number by -1 is caught, and then a division by zero is not
remainder_then_zero : trace (program (guarded (caught 5 5 ∷ []) ((0, 5) ∷ []) (code [] [] (Some (Plain int)) 2 (Push least ∷ Push minus_one ∷ Binary Remainder ∷ Pop ∷ Leave 7 ∷ Pop ∷ Leave 7 ∷ Push (Int (pos 1)) ∷ Push (Int (pos 0)) ∷ Binary Divide ∷ Return ∷ [])) ∷ [])) 100 1000 ≡ shows [] (WithClass (6 ∷ []))
unfolding trace step goes start passes return_value raise throw enter_clause binary kept zero_of zero_place
remainder_then_zero = refl

-- 0 + 1 + 2 + 3 by a backward branch, then a switch: on an index past its targets, as -1 is, it falls through
sums : trace (program (code [] (Plain int ∷ Plain int ∷ []) (Some (Plain int)) 2 (LoadLocal 0 ∷ LoadLocal 1 ∷ Binary Add ∷ StoreLocal 0 ∷ LoadLocal 1 ∷ Push (Int (pos 1)) ∷ Binary Add ∷ Dup ∷ StoreLocal 1 ∷ Push (Int (pos 4)) ∷ BranchCompare Less true 0 ∷ Push minus_one ∷ Switch (0 ∷ 0 ∷ []) ∷ Push (Int (pos 1)) ∷ Switch (0 ∷ 16 ∷ []) ∷ Branch 0 ∷ LoadLocal 0 ∷ Return ∷ []) ∷ [])) 100 1000 ≡ shows [] (WithNumber (Some (pos 6)))
unfolding trace step goes start passes return_value binary branch_compare kept kept_in zero_of zero_place
sums = refl
