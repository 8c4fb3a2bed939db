-- Checked operators over the code's wide numbers, for both widths.
use Rattle.std.proofs.Common.{◌≡◌}
use Rattle.std.specs.Prelude.{ℤ}
use Rattle.std.specs.Int.{Width, w128}
use Rattle.std.proofs.lemmas.Int.{to_z-of_z}
use mir.Val.{SFits, to_z, of_z}
use Rattle.cil_opcodes.specs.declared.shape.IntegerType.{IntegerType}
use Rattle.cil_opcodes.specs.declared.shape.Sign.{Sign}
use Rattle.board_types.specs.declared.board.Known.{Known}
use Rattle.machine.specs.Data.{Value}
use Rattle.machine.specs.Numbers.{Answer, Raises, by_signed, integer_at, read_as, checked}

-- the exact numbers a and b of two operands, joined by the operator, are the machine's
pub joined :
    (w : Width) (sign : Sign) (operator : ℤ → ℤ → ℤ) (x y a b : ℤ) (integer : IntegerType) (answer : Answer)
    → SFits w x → SFits w y → SFits w128 a → SFits w128 b → SFits w128 (operator a b)
    → integer ≡ integer_at w sign
    → a ≡ read_as w sign (to_z w (of_z w x))
    → b ≡ read_as w sign (to_z w (of_z w y))
    → answer ≡ checked integer (to_z w128 (of_z w128 (operator (to_z w128 (of_z w128 a)) (to_z w128 (of_z w128 b)))))
    → answer ≡ checked (integer_at w sign) (operator (read_as w sign x) (read_as w sign y))
joined w sign operator x y a b integer answer fx fy fa fb fits i ea eb e =
    let ea' = simp to_z-of_z at ea in
    let eb' = simp to_z-of_z at eb in
    let e' = simp to_z-of_z at e in
    cc

-- a division throws what its fault names, whatever its value would be
pub faulted :
    (w : Width) (x y : ℤ) (v : Value) (known : Known)
    → SFits w x → SFits w y
    → ((u : Value) → Raises known ≡ by_signed w (to_z w (of_z w x)) (to_z w (of_z w y)) u)
    → Raises known ≡ by_signed w x y v
faulted w x y v known fx fy fault = simp to_z-of_z at fault v
