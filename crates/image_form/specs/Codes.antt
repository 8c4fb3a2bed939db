-- Code as instructions behind one another. One decoder serves both lengths of code: a file's, with four bytes for a token, a long
-- distance and a count, and an image's, with two, two and one.
use Rattle.std.specs.Prelude.{◌≡◌, ℕ, zero, suc, ◌+◌, ◌-◌, ◌*◌, ◌/◌, ◌%◌, ℤ, pos, ◌+ℤ◌, ◌-ℤ◌, false, nat_eq, nat_lt, if◌then◌else◌, List, [], ◌∷◌, length, map, Option, Some, None, unsigned_abs}
use Rattle.std.specs.Int.{Width, w8, w16, w32, w64, w128, cast_signed, cast_unsigned}
use Rattle.std.specs.Int.RustNames.{FitsSigned}
use Rattle.cil_opcodes.specs.declared.shape.Operand.{Operand}
use Rattle.cil_opcodes.specs.declared.shape.Operand.TheVariants as kinds
use Rattle.cil_opcodes.specs.declared.shape.Row.{Row}
use Rattle.machine.specs.Throw.{on_some}
use Rattle.image_bytes.specs.Layout.{all_onto, Reader, many}
use Rattle.assemblies.specs.Rows.{TypeToken, MemberToken, RawOperand, RawNothing, RawNumber, RawTargets, RawTypeOf, RawField, RawMethod, RawText, RawLine}

-- ---- numbers, lowest byte first; k is the number of bytes behind the first

abbrev pub number_onto : ℕ → ℕ → List ℕ → List ℕ
number_onto zero n rest = n ∷ rest
number_onto (suc k) n rest = n % 256 ∷ number_onto k (n / 256) rest

abbrev pub read_number : ℕ → Reader ℕ
read_number k [] = None
read_number zero (b ∷ bytes) = Some (b, bytes)
read_number (suc k) (b ∷ bytes) = on_some (read_number k bytes) (λ x. Some (b + 256 * x.0, x.1))

abbrev pub behind_first : Width → ℕ
behind_first w8 = 0
behind_first w16 = 1
behind_first w32 = 3
behind_first w64 = 7
behind_first w128 = 15

abbrev pub signed_onto : Width → ℤ → List ℕ → List ℕ
signed_onto w z rest = number_onto (behind_first w) (cast_unsigned w z) rest

abbrev pub read_signed : Width → Reader ℤ
read_signed w bytes = on_some (read_number (behind_first w) bytes) (λ x. Some (cast_signed w x.0, x.1))

-- ---- operands as numbers

pub data Plain : Type 0 where
  Bare : Plain
  Signed : (n : ℤ) → Plain
  Unsigned : (n : ℕ) → Plain
  Distances : (to : List ℤ) → Plain

-- how an operand's bytes lie
pub data Lie : Type 0 where
  NoBytes : Lie
  SignedBy : (width : Width) → Lie
  UnsignedBy : (behind : ℕ) → Lie
  Counted : Lie

-- the bytes of a token and of a switch's count behind the first, and the width of a long distance
pub record Length : Type 0 where
  pub token : ℕ
  pub count : ℕ
  pub distance : Width

abbrev pub long : Length
long = record { token = 3; count = 3; distance = w32 }

abbrev pub short : Length
short = record { token = 1; count = 0; distance = w16 }

abbrev pub lie_of : Length → Operand → Lie
lie_of l kinds.Nothing = NoBytes
lie_of l kinds.Int8 = SignedBy w8
lie_of l kinds.UInt8 = UnsignedBy 0
lie_of l kinds.UInt16 = UnsignedBy 1
lie_of l kinds.Int32 = SignedBy w32
lie_of l kinds.Int64 = SignedBy w64
lie_of l kinds.BranchShort = SignedBy w8
lie_of l kinds.BranchLong = SignedBy l.distance
lie_of l kinds.Switch = Counted
lie_of l kinds.TypeToken = UnsignedBy l.token
lie_of l kinds.FieldToken = UnsignedBy l.token
lie_of l kinds.MethodToken = UnsignedBy l.token
lie_of l kinds.StringToken = UnsignedBy l.token
lie_of l kinds.AnyToken = UnsignedBy l.token

abbrev pub bytes_for : ℕ → List ℤ → ℕ
bytes_for behind [] = 0
bytes_for behind (z ∷ zs) = suc behind + bytes_for behind zs

module _ (l : Length) where
  abbrev pub plain_onto : Lie → Plain → List ℕ → List ℕ
  plain_onto (SignedBy w) (Signed z) rest = signed_onto w z rest
  plain_onto (UnsignedBy k) (Unsigned n) rest = number_onto k n rest
  plain_onto Counted (Distances to) rest = number_onto l.count (length to) (all_onto (signed_onto l.distance) to rest)
  plain_onto _ _ rest = rest

  abbrev pub read_plain : Lie → Reader Plain
  read_plain NoBytes bytes = Some (Bare, bytes)
  read_plain (SignedBy w) bytes = on_some (read_signed w bytes) (λ x. Some (Signed x.0, x.1))
  read_plain (UnsignedBy k) bytes = on_some (read_number k bytes) (λ x. Some (Unsigned x.0, x.1))
  read_plain Counted bytes = on_some (read_number l.count bytes) (λ n. on_some (many (read_signed l.distance) n.0 n.1) (λ t. Some (Distances t.0, t.1)))

  abbrev pub plain_size : Plain → Lie → ℕ
  plain_size p NoBytes = 0
  plain_size p (SignedBy w) = suc (behind_first w)
  plain_size p (UnsignedBy k) = suc k
  plain_size (Distances to) Counted = suc l.count + bytes_for (behind_first l.distance) to
  plain_size p Counted = suc l.count

abbrev pub AllFit : Width → List ℤ → Type 0
AllFit w [] = Unit {0}
AllFit w (z ∷ zs) = FitsSigned w z × AllFit w zs

abbrev pub FitsIn : Length → Lie → Plain → Type 0
FitsIn l NoBytes Bare = Unit {0}
FitsIn l (SignedBy w) (Signed z) = FitsSigned w z
FitsIn l (UnsignedBy k) (Unsigned n) = Unit {0}
FitsIn l Counted (Distances to) = AllFit l.distance to
FitsIn l _ _ = ⊥

-- ---- instructions, by a table of opcodes

pub record Instr : Type 0 where
  pub row : Row
  pub operand : Plain

-- a byte, or FE and the byte behind it
abbrev pub opcode_onto : ℕ → List ℕ → List ℕ
opcode_onto o rest = if nat_lt o 65024 then o ∷ rest else 254 ∷ (o - 65024) ∷ rest

abbrev pub read_opcode : Reader ℕ
read_opcode [] = None
read_opcode (b ∷ []) = if nat_eq b 254 then None else Some (b, [])
read_opcode (b ∷ c ∷ rest) = if nat_eq b 254 then Some (65024 + c, rest) else Some (b, c ∷ rest)

abbrev pub opcode_size : ℕ → ℕ
opcode_size o = if nat_lt o 65024 then 1 else 2

abbrev pub size : Length → Instr → ℕ
size l i = opcode_size i.row.opcode + plain_size l i.operand (lie_of l i.row.operand)

module _ (table : ℕ → Option Row) (l : Length) where
  abbrev pub instr_onto : Instr → List ℕ → List ℕ
  instr_onto i rest = opcode_onto i.row.opcode (plain_onto l (lie_of l i.row.operand) i.operand rest)

  abbrev pub with_row : List ℕ → Row → Option (Instr × List ℕ)
  with_row bytes row = on_some (read_plain l (lie_of l row.operand) bytes) (λ p. Some (record { row = row; operand = p.0 }, p.1))

  abbrev pub read_instr : Reader Instr
  read_instr bytes = on_some (read_opcode bytes) (λ o. on_some (table o.0) (with_row o.1))

  abbrev pub met : Option (Instr × List ℕ) → (List ℕ → List Instr) → List Instr
  met None more = []
  met (Some x) more = x.0 ∷ more x.1

  -- the instructions up to the end or to the first fault, at most so many
  abbrev pub read_instrs : ℕ → List ℕ → List Instr
  read_instrs zero bytes = []
  read_instrs (suc n) bytes = met (read_instr bytes) (read_instrs n)

  abbrev pub instrs_of : List ℕ → List Instr
  instrs_of bytes = read_instrs (length bytes) bytes

  abbrev pub instrs_onto : List Instr → List ℕ → List ℕ
  instrs_onto is rest = all_onto instr_onto is rest

  pub record IsSound (i : Instr) : Type 0 where
    pub known : table i.row.opcode ≡ Some i.row
    pub plain : (if nat_lt i.row.opcode 65024 then nat_eq i.row.opcode 254 else false) ≡ false
    pub fits : FitsIn l (lie_of l i.row.operand) i.operand

-- ---- what the numbers mean

pub record Meaning : Type 0 where
  pub type : ℕ → TypeToken
  pub field : ℕ → MemberToken
  pub method : ℕ → MemberToken
  pub text : ℕ → Option (List ℕ)

abbrev pub target : ℕ → ℤ → ℤ
target next d = pos next +ℤ d

abbrev pub text_operand : Option (List ℕ) → RawOperand
text_operand None = RawNothing
text_operand (Some units) = RawText units

abbrev pub number_of : Plain → ℤ
number_of (Signed z) = z
number_of (Unsigned n) = pos n
number_of _ = pos 0

abbrev pub distances_of : Plain → List ℤ
distances_of (Distances to) = to
distances_of p = number_of p ∷ []

module _ (m : Meaning) where
  abbrev pub operand_of : Operand → ℕ → Plain → RawOperand
  operand_of kinds.Nothing next p = RawNothing
  operand_of kinds.Int8 next p = RawNumber (number_of p)
  operand_of kinds.UInt8 next p = RawNumber (number_of p)
  operand_of kinds.UInt16 next p = RawNumber (number_of p)
  operand_of kinds.Int32 next p = RawNumber (number_of p)
  operand_of kinds.Int64 next p = RawNumber (number_of p)
  operand_of kinds.BranchShort next p = RawTargets (map (target next) (distances_of p))
  operand_of kinds.BranchLong next p = RawTargets (map (target next) (distances_of p))
  operand_of kinds.Switch next p = RawTargets (map (target next) (distances_of p))
  operand_of kinds.TypeToken next p = RawTypeOf (m.type (unsigned_abs (number_of p)))
  operand_of kinds.FieldToken next p = RawField (m.field (unsigned_abs (number_of p)))
  operand_of kinds.MethodToken next p = RawMethod (m.method (unsigned_abs (number_of p)))
  operand_of kinds.StringToken next p = text_operand (m.text (unsigned_abs (number_of p)))
  operand_of kinds.AnyToken next p = RawField (m.field (unsigned_abs (number_of p)))

  abbrev pub line_of : Length → ℕ → Instr → RawLine
  line_of l at i =
      let next = at + size l i in
      record { at = at; shape = i.row.shape; operand = operand_of i.row.operand next i.operand; next = next }

  -- the lines from a place on
  abbrev pub lines_of : Length → ℕ → List Instr → List RawLine
  lines_of l at [] = []
  lines_of l at (i ∷ is) = line_of l at i ∷ lines_of l (at + size l i) is

-- ---- and back: the numbers that mean an operand

pub record Words : Type 0 where
  pub type : TypeToken → ℕ
  pub field : MemberToken → ℕ
  pub method : MemberToken → ℕ
  pub text : List ℕ → ℕ

abbrev pub distance : ℕ → ℤ → ℤ
distance next t = t -ℤ pos next

module _ (w : Words) where
  -- one distance of a branch, and those of a switch
  abbrev pub one_of : List ℤ → ℤ
  one_of [] = pos 0
  one_of (d ∷ ds) = d

  abbrev pub targets_to : ℕ → Operand → List ℤ → Plain
  targets_to next kinds.Switch ts = Distances (map (distance next) ts)
  targets_to next _ ts = Signed (one_of (map (distance next) ts))

  abbrev pub number_to : Operand → ℤ → Plain
  number_to kinds.UInt8 z = Unsigned (unsigned_abs z)
  number_to kinds.UInt16 z = Unsigned (unsigned_abs z)
  number_to _ z = Signed z

  abbrev pub plain_of : Operand → ℕ → RawOperand → Plain
  plain_of k next RawNothing = Bare
  plain_of k next (RawNumber z) = number_to k z
  plain_of k next (RawTargets ts) = targets_to next k ts
  plain_of k next (RawTypeOf t) = Unsigned (w.type t)
  plain_of k next (RawField t) = Unsigned (w.field t)
  plain_of k next (RawMethod t) = Unsigned (w.method t)
  plain_of k next (RawText units) = Unsigned (w.text units)

  -- lines with the rows of their opcodes, which shapes don't tell
  abbrev pub instr_of : Row → RawLine → Instr
  instr_of row line = record { row = row; operand = plain_of row.operand line.next line.operand }

  abbrev pub instrs_to : List Row → List RawLine → List Instr
  instrs_to [] lines = []
  instrs_to (row ∷ rows) [] = []
  instrs_to (row ∷ rows) (line ∷ lines) = instr_of row line ∷ instrs_to rows lines

-- ---- lines that have a spelling by these opcodes

abbrev pub AllPlaces : List ℤ → Type 0
AllPlaces [] = Unit {0}
AllPlaces (z ∷ zs) = (pos (unsigned_abs z) ≡ z) × AllPlaces zs

abbrev pub IsNumber : Width → RawOperand → Type 0
IsNumber s o = (z : ℤ) × (o ≡ RawNumber z) × FitsSigned s z

abbrev pub IsPlainNumber : RawOperand → Type 0
IsPlainNumber o = (n : ℕ) × (o ≡ RawNumber (pos n))

abbrev pub IsPlace : Width → ℕ → RawOperand → Type 0
IsPlace s next o = (n : ℕ) × (o ≡ RawTargets (pos n ∷ [])) × FitsSigned s (distance next (pos n))

abbrev pub ArePlaces : Length → ℕ → RawOperand → Type 0
ArePlaces l next o = (ts : List ℤ) × (o ≡ RawTargets ts) × AllPlaces ts × AllFit l.distance (map (distance next) ts)

module _ (table : ℕ → Option Row) (l : Length) (m : Meaning) (w : Words) where
  abbrev pub IsFieldToken : RawOperand → Type 0
  IsFieldToken o = (t : MemberToken) × (o ≡ RawField t) × (m.field (w.field t) ≡ t)

  abbrev pub OperandFits : Operand → ℕ → RawOperand → Type 0
  OperandFits kinds.Nothing next o = o ≡ RawNothing
  OperandFits kinds.Int8 next o = IsNumber w8 o
  OperandFits kinds.UInt8 next o = IsPlainNumber o
  OperandFits kinds.UInt16 next o = IsPlainNumber o
  OperandFits kinds.Int32 next o = IsNumber w32 o
  OperandFits kinds.Int64 next o = IsNumber w64 o
  OperandFits kinds.BranchShort next o = IsPlace w8 next o
  OperandFits kinds.BranchLong next o = IsPlace l.distance next o
  OperandFits kinds.Switch next o = ArePlaces l next o
  OperandFits kinds.TypeToken next o = (t : TypeToken) × (o ≡ RawTypeOf t) × (m.type (w.type t) ≡ t)
  OperandFits kinds.FieldToken next o = IsFieldToken o
  OperandFits kinds.MethodToken next o = (t : MemberToken) × (o ≡ RawMethod t) × (m.method (w.method t) ≡ t)
  OperandFits kinds.StringToken next o = (units : List ℕ) × (o ≡ RawText units) × (m.text (w.text units) ≡ Some units)
  OperandFits kinds.AnyToken next o = IsFieldToken o

  pub record LineFits (at : ℕ) (row : Row) (line : RawLine) : Type 0 where
    pub known : table row.opcode ≡ Some row
    pub plain : (if nat_lt row.opcode 65024 then nat_eq row.opcode 254 else false) ≡ false
    pub shape : row.shape ≡ line.shape
    pub place : line.at ≡ at
    pub next : line.next ≡ at + size l (instr_of w row line)
    pub operand : OperandFits row.operand line.next line.operand

  abbrev pub LinesFit : ℕ → List Row → List RawLine → Type 0
  LinesFit at [] [] = Unit {0}
  LinesFit at [] (line ∷ lines) = ⊥
  LinesFit at (row ∷ rows) [] = ⊥
  LinesFit at (row ∷ rows) (line ∷ lines) = LineFits at row line × LinesFit (at + size l (instr_of w row line)) rows lines
