-- Where an instruction goes, and its token.
use Rattle.std.proofs.Common.{◌≡◌, ℕ, ◌+◌, ◌-◌, ◌<◌, ◌≤◌, Bool, true, false, List, length, get_or, Option, Some, Ok, refl, sym, ap, ◌∙◌, arith}
use Rattle.std.specs.Prelude.{slice_get, unsigned_abs}
use Rattle.std.specs.List.{list_all}
use Rattle.std.proofs.lemmas.List.Folds.{list_all_at}
use Rattle.std.proofs.lemmas.Option.{slice_get_within, get_or_from_slice_get}
use Rattle.cil_opcodes.specs.declared.shape.Operand.{Operand}
use Rattle.cil_opcodes.specs.declared.shape.Operand.TheVariants as kinds
use Rattle.cil_opcodes.specs.declared.shape.Row.{Row}
use Rattle.cil_opcodes.specs.Rows.{row_of}
use Rattle.file_tables.specs.Bytes.{u32_at}
use Rattle.cil_code.specs.declared.instructions.Instr.{Instr}
use Rattle.cil_code.specs.Instructions.{instruction_at, operand_at, operand_len}
use Rattle.cil_code.specs.Walk.{Placed, starts_of}
use Rattle.cil_code.proofs.Parts.{Parts, parts}
use Rattle.code_places.specs.Among.{is_among}
use Rattle.code_places.specs.Places.{goes_well, targets_at}
use Rattle.code_places.proofs.WalkLaws.{start_inside}
use Rattle.step_facts.specs.Parts.{is_token}

among_by : (test : ℕ → Bool) (ts : List ℕ) (k to : ℕ) (b : Bool) → test to ≡ b → slice_get ts k ≡ Some to → list_all test ts ≡ true → test to ≡ true
among_by test ts k to true is there e = is
among_by test ts k to false is there e =
    let inside : k < length ts = slice_get_within ts k to there in
    let bad : test (get_or ts k 0) ≡ false = ap test (get_or_from_slice_get ts k to 0 there) ∙ is in
    absurd (cc (sym (list_all_at test ts k 0 inside bad) ∙ e))

-- a target where an instruction starts is inside the code
pub target_inside : (code : List ℕ) (p : Placed) (k to : ℕ) → slice_get (targets_at code p) k ≡ Some to → goes_well code p ≡ true → to < length code
target_inside code p k to there e = start_inside code to (among_by (is_among (starts_of code)) (targets_at code p) k to (is_among (starts_of code) to) refl there e)

token_len : (kind : Operand) (code : List ℕ) (at : ℕ) → is_token kind ≡ true → operand_len kind code at ≡ 4
unfolding operand_len
token_len kinds.TypeToken code at h = refl
token_len kinds.FieldToken code at h = refl
token_len kinds.MethodToken code at h = refl
token_len kinds.StringToken code at h = refl
token_len kinds.AnyToken code at h = refl
token_len kinds.Nothing code at h = absurd (cc h)
token_len kinds.Int8 code at h = absurd (cc h)
token_len kinds.UInt8 code at h = absurd (cc h)
token_len kinds.UInt16 code at h = absurd (cc h)
token_len kinds.Int32 code at h = absurd (cc h)
token_len kinds.Int64 code at h = absurd (cc h)
token_len kinds.BranchShort code at h = absurd (cc h)
token_len kinds.BranchLong code at h = absurd (cc h)
token_len kinds.Switch code at h = absurd (cc h)

token_at : (kind : Operand) (code : List ℕ) (at : ℕ) → is_token kind ≡ true → unsigned_abs (operand_at kind code at) ≡ u32_at code at
unfolding operand_at
token_at kinds.TypeToken code at h = refl
token_at kinds.FieldToken code at h = refl
token_at kinds.MethodToken code at h = refl
token_at kinds.StringToken code at h = refl
token_at kinds.AnyToken code at h = refl
token_at kinds.Nothing code at h = absurd (cc h)
token_at kinds.Int8 code at h = absurd (cc h)
token_at kinds.UInt8 code at h = absurd (cc h)
token_at kinds.UInt16 code at h = absurd (cc h)
token_at kinds.Int32 code at h = absurd (cc h)
token_at kinds.Int64 code at h = absurd (cc h)
token_at kinds.BranchShort code at h = absurd (cc h)
token_at kinds.BranchLong code at h = absurd (cc h)
token_at kinds.Switch code at h = absurd (cc h)

-- the rows of an opcode are one
one_row : (op : ℕ) (a b : Row) → row_of op ≡ Some a → row_of op ≡ Some b → a ≡ b
one_row op a b e f = let same : Path (Option Row) (Some a) (Some b) = sym e ∙ f in cc same

module _ (code : List ℕ) (at : ℕ) (instr : Instr) (stands : instruction_at code at ≡ Ok instr) (row : Row) (listed : row_of instr.op ≡ Some row) (token : is_token row.operand ≡ true) where
  p : Parts code at instr
  p = parts code at instr stands

  same : p.row ≡ row
  same = one_row p.opcode.op p.row row p.listed (sym (ap (λ (i : Instr). row_of i.op) p.made) ∙ listed)

  is : is_token p.row.operand ≡ true
  is = ap (λ (r : Row). is_token r.operand) same ∙ token

  long : instr.length ≡ p.opcode.len + 4
  long = ap (λ (i : Instr). i.length) p.made ∙ ap (λ n. p.opcode.len + n) (token_len p.row.operand code (at + p.opcode.len) is)

  pub token_long : 4 ≤ instr.length
  token_long = omega (arith, long)

  pub token_is : unsigned_abs instr.operand ≡ u32_at code (at + (instr.length - 4))
  token_is =
      let where_is : at + p.opcode.len ≡ at + (instr.length - 4) = omega (arith, long) in
      ap (λ (i : Instr). unsigned_abs i.operand) p.made ∙ token_at p.row.operand code (at + p.opcode.len) is ∙ ap (u32_at code) where_is
