-- The rows of the table say their own opcodes, and one of them is a switch.
use Rattle.std.proofs.Common.{◌≡◌, ℕ, zero, suc, ◌+◌, ◌-◌, Bool, true, false, List, [], ◌∷◌, Option, Some, None, refl, sym, ap, ◌∙◌, subst, arith}
use Rattle.std.specs.Prelude.{nat_eq, nat_lt, ◌&&◌, if◌then◌else◌}
use Rattle.std.proofs.lemmas.Bool.{eqb-true, ltb-false}
use Rattle.cil_opcodes.specs.declared.shape.Operand.{Operand}
use Rattle.cil_opcodes.specs.declared.shape.Operand.TheVariants as kinds
use Rattle.cil_opcodes.specs.declared.shape.Row.{Row}
use Rattle.cil_opcodes.specs.declared.table.TheConstants.{ONE_BYTE, TWO_BYTES}
use Rattle.cil_opcodes.specs.Rows.{entry_of, row_of}

abbrev switch_stands : Operand → ℕ → Bool
switch_stands kinds.Switch op = nat_eq op 69
switch_stands _ op = true

-- each row stands where its opcode says
abbrev stands : ℕ → Option Row → Bool
stands n None = true
stands n (Some row) = nat_eq row.opcode n && switch_stands row.operand n

abbrev all_stand : ℕ → List (Option Row) → Bool
all_stand n [] = true
all_stand n (row ∷ rows) = stands n row && all_stand (suc n) rows

both : (a b : Bool) → (a && b) ≡ true → (a ≡ true) × (b ≡ true)
both true true e = (refl, refl)
both true false e = absurd cc
both false b e = absurd cc

found : (first n : ℕ) (rows : List (Option Row)) (row : Row) → all_stand first rows ≡ true → entry_of rows n ≡ Some row → stands (first + n) (Some row) ≡ true
found first n [] row h e = absurd cc
found first zero (x ∷ rows) row h e =
    let here : x ≡ Some row = e in
    let same : first ≡ first + 0 = omega arith in
    subst (λ (m : ℕ). stands m (Some row) ≡ true) same (subst (λ (o : Option Row). stands first o ≡ true) here (both (stands first x) (all_stand (suc first) rows) h).0)
found first (suc n) (x ∷ rows) row h e =
    let same : suc first + n ≡ first + suc n = omega arith in
    subst (λ (m : ℕ). stands m (Some row) ≡ true) same (found (suc first) n rows row (both (stands first x) (all_stand (suc first) rows) h).1 e)

one_byte : all_stand 0 ONE_BYTE ≡ true
one_byte = refl

two_bytes : all_stand 65024 TWO_BYTES ≡ true
two_bytes = refl

row_stands : (op : ℕ) (row : Row) → row_of op ≡ Some row → stands op (Some row) ≡ true
row_stands op row = by (nat_lt op 65024) refl where
  by : (b : Bool) → nat_lt op 65024 ≡ b → (if b then entry_of ONE_BYTE op else entry_of TWO_BYTES (op - 65024)) ≡ Some row → stands op (Some row) ≡ true
  by true lt e =
      let same : 0 + op ≡ op = omega arith in
      subst (λ (m : ℕ). stands m (Some row) ≡ true) same (found 0 op ONE_BYTE row one_byte e)
  by false ge e =
      let le = ltb-false op 65024 ge in
      let same : 65024 + (op - 65024) ≡ op = omega (arith, le) in
      subst (λ (m : ℕ). stands m (Some row) ≡ true) same (found 65024 (op - 65024) TWO_BYTES row two_bytes e)

pub says_opcode : (op : ℕ) (row : Row) → row_of op ≡ Some row → row.opcode ≡ op
says_opcode op row e = eqb-true row.opcode op (both (nat_eq row.opcode op) (switch_stands row.operand op) (row_stands op row e)).0

pub switch_is : (op : ℕ) (row : Row) → row_of op ≡ Some row → row.operand ≡ kinds.Switch → op ≡ 69
switch_is op row e s =
    let h = (both (nat_eq row.opcode op) (switch_stands row.operand op) (row_stands op row e)).1 in
    eqb-true op 69 (subst (λ (o : Operand). switch_stands o op ≡ true) s h)

-- FE alone is no opcode
pub no_prefix : (op : ℕ) (row : Row) → row_of op ≡ Some row → (if nat_lt op 65024 then nat_eq op 254 else false) ≡ false
no_prefix op row e = by (nat_lt op 65024) (nat_eq op 254) refl where
  by : (a b : Bool) → nat_eq op 254 ≡ b → (if a then b else false) ≡ false
  by true true q = let same = eqb-true op 254 q in absurd (let f : Path (Option Row) None (Some row) = ap row_of (sym same) ∙ e in cc)
  by true false q = refl
  by false b q = refl
