-- What the code tells of an instruction, as the form of images has it.
use Rattle.std.specs.Prelude.{◌≡◌, ⊤, ℕ, ℤ, ◌+◌, ◌*◌, List, [], ◌∷◌, drop}
use Rattle.std.specs.Int.{w16, cast_signed}
use Rattle.image_form.specs.Codes.{Plain, Bare, Signed, Unsigned, Distances, Lie, UnsignedBy, Instr}
use Rattle.tiny_code.specs.declared.operand.Number.{Number}
use Rattle.tiny_code.specs.declared.operand.Number.TheVariants as numbers
use Rattle.tiny_code.specs.declared.operand.Read.{Read}
use Rattle.tiny_code.specs.declared.instruction.CodeInstr.{CodeInstr}

-- signed numbers of two bytes, one behind the other
abbrev pub words_in : List ℕ → List ℤ
words_in [] = []
words_in (low ∷ []) = []
words_in (low ∷ high ∷ bytes) = cast_signed w16 (low + 256 * high) ∷ words_in bytes

abbrev pub plain_seen : Number → Plain
plain_seen numbers.Bare = Bare
plain_seen (numbers.Signed z) = Signed z
plain_seen (numbers.Unsigned n) = Unsigned n
plain_seen (numbers.Distances bytes) = Distances (words_in bytes.now)

abbrev pub read_seen : Read → Plain × List ℕ
read_seen r = (plain_seen r.number, r.rest.now)

-- with the bytes behind it
abbrev pub instr_seen : List ℕ → CodeInstr → Instr × List ℕ
instr_seen code i = (record { row = i.row; operand = plain_seen i.number }, drop i.next code)

-- without them
abbrev pub instr_of : CodeInstr → Instr
instr_of i = record { row = i.row; operand = plain_seen i.number }

-- a token is a number without a sign
abbrev pub IsToken : Lie → Plain → Type 0
IsToken (UnsignedBy k) p = (n : ℕ) × (p ≡ Unsigned n)
IsToken _ p = ⊤
