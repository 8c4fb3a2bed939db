-- One row of the table of instructions is a switch.
use Rattle.std.proofs.Common.{◌≡◌, ℕ, zero, suc, ◌+◌, ◌-◌, Bool, true, false, List, [], ◌∷◌, Option, Some, None, refl, subst, arith}
use Rattle.std.specs.Prelude.{nat_eq, nat_lt, ◌&&◌, if◌then◌else◌}
use Rattle.std.proofs.lemmas.Bool.{eqb-true, ltb-false}
use Rattle.cil_opcodes.specs.declared.shape.Operand.{Operand}
use Rattle.cil_opcodes.specs.declared.shape.Operand.TheVariants as kinds
use Rattle.cil_opcodes.specs.declared.shape.Shape.{Shape}
use Rattle.cil_opcodes.specs.declared.shape.Shape.TheVariants as shapes
use Rattle.cil_opcodes.specs.declared.shape.Row.{Row}
use Rattle.cil_opcodes.specs.declared.table.TheConstants.{ONE_BYTE, TWO_BYTES}
use Rattle.cil_opcodes.specs.Rows.{entry_of, row_of}

-- what is behind the opcodes that go somewhere
abbrev pub is_branch : Shape → Bool
is_branch shapes.Branch = true
is_branch (shapes.BranchIf on) = true
is_branch (shapes.BranchCompare comparison on) = true
is_branch shapes.Leave = true
is_branch _ = false

abbrev pub is_switch : Shape → Bool
is_switch shapes.Switch = true
is_switch _ = false

-- an operand of a kind stands behind an opcode of a shape
abbrev pub kind_stands : Operand → ℕ → Shape → Bool
kind_stands kinds.Switch op shape = nat_eq op 69 && is_switch shape
kind_stands kinds.BranchShort op shape = is_branch shape
kind_stands kinds.BranchLong op shape = is_branch shape
kind_stands _ op shape = if is_branch shape then false else if is_switch shape then false else true

abbrev stands : ℕ → Option Row → Bool
stands n None = true
stands n (Some row) = kind_stands row.operand n row.shape

abbrev all_stand : ℕ → List (Option Row) → Bool
all_stand n [] = true
all_stand n (row ∷ rows) = stands n row && all_stand (suc n) rows

pub both : (a b : Bool) → (a && b) ≡ true → (a ≡ true) × (b ≡ true)
both true true e = (refl, refl)
both true false e = absurd cc
both false b e = absurd cc

found : (first n : ℕ) (rows : List (Option Row)) (row : Row) → all_stand first rows ≡ true → entry_of rows n ≡ Some row → stands (first + n) (Some row) ≡ true
found first n [] row h e = absurd cc
found first zero (x ∷ rows) row h e =
    let here : x ≡ Some row = e in
    let same : first ≡ first + 0 = omega arith in
    subst (λ (m : ℕ). stands m (Some row) ≡ true) same (subst (λ (o : Option Row). stands first o ≡ true) here (both (stands first x) (all_stand (suc first) rows) h).0)
found first (suc n) (x ∷ rows) row h e =
    let same : suc first + n ≡ first + suc n = omega arith in
    subst (λ (m : ℕ). stands m (Some row) ≡ true) same (found (suc first) n rows row (both (stands first x) (all_stand (suc first) rows) h).1 e)

one_byte : all_stand 0 ONE_BYTE ≡ true
one_byte = refl

two_bytes : all_stand 65024 TWO_BYTES ≡ true
two_bytes = refl

pub row_stands : (op : ℕ) (row : Row) → row_of op ≡ Some row → kind_stands row.operand op row.shape ≡ true
row_stands op row = by (nat_lt op 65024) refl where
  by : (b : Bool) → nat_lt op 65024 ≡ b → (if b then entry_of ONE_BYTE op else entry_of TWO_BYTES (op - 65024)) ≡ Some row → stands op (Some row) ≡ true
  by true lt e =
      let same : 0 + op ≡ op = omega arith in
      subst (λ (m : ℕ). stands m (Some row) ≡ true) same (found 0 op ONE_BYTE row one_byte e)
  by false ge e =
      let le = ltb-false op 65024 ge in
      let same : 65024 + (op - 65024) ≡ op = omega (arith, le) in
      subst (λ (m : ℕ). stands m (Some row) ≡ true) same (found 65024 (op - 65024) TWO_BYTES row two_bytes e)

pub switch_is : (op : ℕ) (row : Row) → row_of op ≡ Some row → row.operand ≡ kinds.Switch → op ≡ 69
switch_is op row e s =
    let h : (nat_eq op 69 && is_switch row.shape) ≡ true = subst (λ (o : Operand). kind_stands o op row.shape ≡ true) s (row_stands op row e) in
    eqb-true op 69 (both (nat_eq op 69) (is_switch row.shape) h).0
