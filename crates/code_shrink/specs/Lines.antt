-- What the tokens of shortened code mean: the rows that are chosen for those that they meant before.
use Rattle.std.specs.Prelude.{◌≡◌, ℕ, ◌<◌, ◌^◌, unsigned_abs, List, map, Some, slice_index}
use Rattle.cil_opcodes.specs.declared.shape.Operand.{Operand}
use Rattle.cil_opcodes.specs.declared.shape.Operand.TheVariants as kinds
use Rattle.cil_opcodes.specs.declared.shape.Row.{Row}
use Rattle.assemblies.specs.Rows.{RawLine}
use Rattle.assemblies.specs.Chosen.{Choice, token_to, method_token_to, field_token_to}
use Rattle.assemblies.specs.Closed.{Each}
use Rattle.image_form.specs.Codes.{Meaning, Words, Instr, number_of, lines_of, long}
use Rattle.code_shrink.specs.Shrunk.{instrs_in}

-- each number is a byte
abbrev pub AreBytes : List ℕ → Type 0
AreBytes code = (k : ℕ) → slice_index code k < 2 ^ 8

-- the opcodes of a file's code, and its lines
abbrev pub rows_in : List ℕ → List Row
rows_in code = map (λ i. i.row) (instrs_in code)

abbrev pub lines_in : Meaning → List ℕ → List RawLine
lines_in m code = lines_of m long 0 (instrs_in code)

module _ (k : Choice) (before after : Meaning) (token : ℕ → ℕ) where
  abbrev pub MeansTo : Operand → ℕ → Type 0
  MeansTo kinds.TypeToken n = after.type (token n) ≡ token_to k (before.type n)
  MeansTo kinds.FieldToken n = after.field (token n) ≡ field_token_to k (before.field n)
  MeansTo kinds.MethodToken n = after.method (token n) ≡ method_token_to k (before.method n)
  MeansTo kinds.StringToken n = after.text (token n) ≡ before.text n
  MeansTo kinds.AnyToken n = after.field (token n) ≡ field_token_to k (before.field n)
  MeansTo _ n = Unit {0}

  -- of each token of these instructions
  abbrev pub AllMeanTo : List Instr → Type 0
  AllMeanTo is = Each (λ i. MeansTo i.row.operand (unsigned_abs (number_of i.operand))) is

-- words that find for each token a number of the same meaning
module _ (m : Meaning) (w : Words) where
  abbrev pub MeansBack : Operand → ℕ → Type 0
  MeansBack kinds.TypeToken n = m.type (w.type (m.type n)) ≡ m.type n
  MeansBack kinds.FieldToken n = m.field (w.field (m.field n)) ≡ m.field n
  MeansBack kinds.MethodToken n = m.method (w.method (m.method n)) ≡ m.method n
  MeansBack kinds.StringToken n = (units : List ℕ) × (m.text n ≡ Some units) × (m.text (w.text units) ≡ Some units)
  MeansBack kinds.AnyToken n = m.field (w.field (m.field n)) ≡ m.field n
  MeansBack _ n = Unit {0}

  abbrev pub AllMeanBack : List Instr → Type 0
  AllMeanBack is = Each (λ i. MeansBack i.row.operand (unsigned_abs (number_of i.operand))) is

-- words of the image that give a token the number which it gets
module _ (k : Choice) (m : Meaning) (words : Words) (token : ℕ → ℕ) where
  abbrev pub IsNumbered : Operand → ℕ → Type 0
  IsNumbered kinds.TypeToken n = token n ≡ words.type (token_to k (m.type n))
  IsNumbered kinds.FieldToken n = token n ≡ words.field (field_token_to k (m.field n))
  IsNumbered kinds.MethodToken n = token n ≡ words.method (method_token_to k (m.method n))
  IsNumbered kinds.StringToken n = (units : List ℕ) × (m.text n ≡ Some units) × (token n ≡ words.text units)
  IsNumbered kinds.AnyToken n = token n ≡ words.field (field_token_to k (m.field n))
  IsNumbered _ n = Unit {0}

  abbrev pub AllNumbered : List Instr → Type 0
  AllNumbered is = Each (λ i. IsNumbered i.row.operand (unsigned_abs (number_of i.operand))) is
