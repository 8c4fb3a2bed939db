-- A method's code with operands of 16 bits: the same instructions, with tokens numbered anew and distances to where their targets
-- come to lie (ECMA-335 II.25.4, III.1.9).
use Rattle.std.specs.Prelude.{◌≡◌, ℕ, ℤ, pos, ◌+◌, unsigned_abs, List, [], ◌∷◌, map, None}
use Rattle.cil_opcodes.specs.declared.shape.Operand.{Operand}
use Rattle.cil_opcodes.specs.declared.shape.Operand.TheVariants as kinds
use Rattle.cil_opcodes.specs.Rows.{row_of}
use Rattle.cil_code.specs.Walk.{code_fault}
use Rattle.machine_rename.specs.Places.{Piece}
use Rattle.assemblies.specs.Closed.{Each}
use Rattle.image_form.specs.Codes.{Plain, Signed, Unsigned, Distances, Instr, target, distance, number_of, distances_of, size, instrs_of, instrs_onto, long, short}
use Rattle.short_code.specs.Short.{to_short, IsBound}
use Rattle.short_code.specs.Pieces.{pieces}

-- the instructions of a file's code
abbrev pub instrs_in : List ℕ → List Instr
instrs_in code = instrs_of row_of long code

-- the same, with their lengths in the file and in the image
abbrev pub pieces_of : List ℕ → List (Piece Instr)
pieces_of code = pieces (instrs_in code)

-- ---- what is asked of code

-- the targets of an instruction that ends at a place
abbrev pub targets_of : Operand → ℕ → Plain → List ℤ
targets_of kinds.BranchShort next p = map (target next) (distances_of p)
targets_of kinds.BranchLong next p = map (target next) (distances_of p)
targets_of kinds.Switch next p = map (target next) (distances_of p)
targets_of _ next p = []

-- a place where an instruction starts, or the code ends
abbrev pub IsTarget : List (Piece Instr) → ℤ → Type 0
IsTarget xs z = IsBound xs (unsigned_abs z) × (pos (unsigned_abs z) ≡ z)

-- of the instructions from a place on
abbrev pub AreTargets : List (Piece Instr) → ℕ → List Instr → Type 0
AreTargets xs at [] = Unit {0}
AreTargets xs at (i ∷ is) = Each (IsTarget xs) (targets_of i.row.operand (at + size long i) i.operand) × AreTargets xs (at + size long i) is

-- instructions of the table stand behind one another up to the end, which control doesn't reach, and branches lead to them
pub record CanShrink (code : List ℕ) : Type 0 where
  pub whole : code_fault code ≡ None
  pub targets : AreTargets (pieces_of code) 0 (instrs_in code)

-- ---- what becomes of it

module _ (place : ℕ → ℕ) where
  -- a distance from the end of an instruction, where places move
  abbrev pub moved : ℕ → ℤ → ℤ
  moved next d = distance (place next) (pos (place (unsigned_abs (target next d))))

  module _ (token : ℕ → ℕ) where
    abbrev pub plain_to : Operand → ℕ → Plain → Plain
    plain_to kinds.BranchShort next p = Signed (moved next (number_of p))
    plain_to kinds.BranchLong next p = Signed (moved next (number_of p))
    plain_to kinds.Switch next p = Distances (map (moved next) (distances_of p))
    plain_to kinds.TypeToken next p = Unsigned (token (unsigned_abs (number_of p)))
    plain_to kinds.FieldToken next p = Unsigned (token (unsigned_abs (number_of p)))
    plain_to kinds.MethodToken next p = Unsigned (token (unsigned_abs (number_of p)))
    plain_to kinds.StringToken next p = Unsigned (token (unsigned_abs (number_of p)))
    plain_to kinds.AnyToken next p = Unsigned (token (unsigned_abs (number_of p)))
    plain_to _ next p = p

    -- of an instruction that ends at a place
    abbrev pub instr_to : ℕ → Instr → Instr
    instr_to next i = record { row = i.row; operand = plain_to i.row.operand next i.operand }

    -- of those from a place on
    abbrev pub instrs_from : ℕ → List Instr → List Instr
    instrs_from at [] = []
    instrs_from at (i ∷ is) = instr_to (at + size long i) i ∷ instrs_from (at + size long i) is

-- the instructions of the shortened code, and its bytes
abbrev pub shrunk : (ℕ → ℕ) → List ℕ → List Instr
shrunk token code = instrs_from (to_short (pieces_of code)) token 0 (instrs_in code)

abbrev pub shrunk_bytes : (ℕ → ℕ) → List ℕ → List ℕ
shrunk_bytes token code = instrs_onto row_of short (shrunk token code) []
