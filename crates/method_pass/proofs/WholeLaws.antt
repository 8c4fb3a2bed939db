-- An instruction of the table has the operand that its shape asks for beside a token: a number, or where it goes to.
use Rattle.std.proofs.Common.{◌≡◌, ℕ, zero, suc, ◌-◌, ℤ, Bool, true, false, List, [], ◌∷◌, Option, Some, None, refl, subst}
use Rattle.std.specs.Prelude.{nat_lt, ◌&&◌, is_some, if◌then◌else◌}
use Rattle.cil_opcodes.specs.declared.shape.Operand.{Operand as Kind}
use Rattle.cil_opcodes.specs.declared.shape.Operand.TheVariants as kinds
use Rattle.cil_opcodes.specs.declared.shape.Shape.{Shape}
use Rattle.cil_opcodes.specs.declared.shape.Shape.TheVariants as shape
use Rattle.cil_opcodes.specs.declared.shape.Row.{Row}
use Rattle.cil_opcodes.specs.declared.table.TheConstants.{ONE_BYTE, TWO_BYTES}
use Rattle.cil_opcodes.specs.Rows.{entry_of, row_of}
use Rattle.file_tables.specs.Metadata.{MetadataPart}
use Rattle.classes.specs.Code.{Operand as CodeOperand}
use Rattle.classes.specs.Listed.{number_of, target_of, targets_of}
use Rattle.assemblies.specs.Rows.{Assembly}
use Rattle.assemblies.specs.Binding.{operand}
use Rattle.world_rows.specs.Lines.{raw_operand}
use Rattle.code_places.proofs.Table.{both}
use Rattle.ecma_effects.specs.Known.{IsWhole}

abbrev is_number : Kind → Bool
is_number kinds.Int8 = true
is_number kinds.UInt8 = true
is_number kinds.UInt16 = true
is_number kinds.Int32 = true
is_number kinds.Int64 = true
is_number _ = false

abbrev is_distance : Kind → Bool
is_distance kinds.BranchShort = true
is_distance kinds.BranchLong = true
is_distance _ = false

abbrev are_distances : Kind → Bool
are_distances kinds.Switch = true
are_distances _ = false

abbrev has_whole : Shape → Kind → Bool
has_whole (shape.LoadArgument None) k = is_number k
has_whole shape.LoadArgumentAddress k = is_number k
has_whole shape.StoreArgument k = is_number k
has_whole (shape.LoadLocal None) k = is_number k
has_whole (shape.StoreLocal None) k = is_number k
has_whole shape.LoadLocalAddress k = is_number k
has_whole (shape.LoadInt32 None) k = is_number k
has_whole shape.LoadInt64 k = is_number k
has_whole shape.Branch k = is_distance k
has_whole (shape.BranchIf on) k = is_distance k
has_whole (shape.BranchCompare comparison on) k = is_distance k
has_whole shape.Switch k = are_distances k
has_whole shape.Leave k = is_distance k
has_whole _ k = true

abbrev whole : Option Row → Bool
whole None = true
whole (Some row) = has_whole row.shape row.operand

abbrev all_whole : List (Option Row) → Bool
all_whole [] = true
all_whole (row ∷ rows) = whole row && all_whole rows

found : (n : ℕ) (rows : List (Option Row)) (row : Row) → all_whole rows ≡ true → entry_of rows n ≡ Some row → has_whole row.shape row.operand ≡ true
found n [] row h e = absurd cc
found zero (x ∷ rows) row h e = subst (λ (o : Option Row). whole o ≡ true) e (both (whole x) (all_whole rows) h).0
found (suc n) (x ∷ rows) row h e = found n rows row (both (whole x) (all_whole rows) h).1 e

one_byte : all_whole ONE_BYTE ≡ true
one_byte = refl

two_bytes : all_whole TWO_BYTES ≡ true
two_bytes = refl

row_whole : (op : ℕ) (row : Row) → row_of op ≡ Some row → has_whole row.shape row.operand ≡ true
row_whole op row = by (nat_lt op 65024)
  where
    by : (b : Bool) → (if b then entry_of ONE_BYTE op else entry_of TWO_BYTES (op - 65024)) ≡ Some row → has_whole row.shape row.operand ≡ true
    by true e = found op ONE_BYTE row one_byte e
    by false e = found (op - 65024) TWO_BYTES row two_bytes e

module _ (m : MetadataPart) (size : ℕ) (ps : List Assembly) (file : ℕ) (code : List ℕ) (at next : ℕ) (n : ℤ) where
  abbrev named : Kind → CodeOperand
  named kind = operand size ps file (raw_operand m code at next kind n)

  number : (kind : Kind) → is_number kind ≡ true → number_of (named kind) ≡ Some n
  number kinds.Int8 h = refl
  number kinds.UInt8 h = refl
  number kinds.UInt16 h = refl
  number kinds.Int32 h = refl
  number kinds.Int64 h = refl
  number kinds.Nothing h = absurd (cc h)
  number kinds.BranchShort h = absurd (cc h)
  number kinds.BranchLong h = absurd (cc h)
  number kinds.Switch h = absurd (cc h)
  number kinds.TypeToken h = absurd (cc h)
  number kinds.FieldToken h = absurd (cc h)
  number kinds.MethodToken h = absurd (cc h)
  number kinds.StringToken h = absurd (cc h)
  number kinds.AnyToken h = absurd (cc h)

  distance : (kind : Kind) → is_distance kind ≡ true → is_some (target_of (named kind)) ≡ true
  distance kinds.BranchShort h = refl
  distance kinds.BranchLong h = refl
  distance kinds.Int8 h = absurd (cc h)
  distance kinds.UInt8 h = absurd (cc h)
  distance kinds.UInt16 h = absurd (cc h)
  distance kinds.Int32 h = absurd (cc h)
  distance kinds.Int64 h = absurd (cc h)
  distance kinds.Nothing h = absurd (cc h)
  distance kinds.Switch h = absurd (cc h)
  distance kinds.TypeToken h = absurd (cc h)
  distance kinds.FieldToken h = absurd (cc h)
  distance kinds.MethodToken h = absurd (cc h)
  distance kinds.StringToken h = absurd (cc h)
  distance kinds.AnyToken h = absurd (cc h)

  distances : (kind : Kind) → are_distances kind ≡ true → is_some (targets_of (named kind)) ≡ true
  distances kinds.Switch h = refl
  distances kinds.BranchShort h = absurd (cc h)
  distances kinds.BranchLong h = absurd (cc h)
  distances kinds.Int8 h = absurd (cc h)
  distances kinds.UInt8 h = absurd (cc h)
  distances kinds.UInt16 h = absurd (cc h)
  distances kinds.Int32 h = absurd (cc h)
  distances kinds.Int64 h = absurd (cc h)
  distances kinds.Nothing h = absurd (cc h)
  distances kinds.TypeToken h = absurd (cc h)
  distances kinds.FieldToken h = absurd (cc h)
  distances kinds.MethodToken h = absurd (cc h)
  distances kinds.StringToken h = absurd (cc h)
  distances kinds.AnyToken h = absurd (cc h)

  whole_by : (s : Shape) (kind : Kind) → has_whole s kind ≡ true → IsWhole s (named kind) n
  whole_by (shape.LoadArgument None) kind h = number kind h
  whole_by (shape.LoadArgument (Some k)) kind h = tt
  whole_by shape.LoadArgumentAddress kind h = number kind h
  whole_by shape.StoreArgument kind h = number kind h
  whole_by (shape.LoadLocal None) kind h = number kind h
  whole_by (shape.LoadLocal (Some k)) kind h = tt
  whole_by (shape.StoreLocal None) kind h = number kind h
  whole_by (shape.StoreLocal (Some k)) kind h = tt
  whole_by shape.LoadLocalAddress kind h = number kind h
  whole_by (shape.LoadInt32 None) kind h = number kind h
  whole_by (shape.LoadInt32 (Some k)) kind h = tt
  whole_by shape.LoadInt64 kind h = number kind h
  whole_by shape.Branch kind h = distance kind h
  whole_by (shape.BranchIf on) kind h = distance kind h
  whole_by (shape.BranchCompare comparison on) kind h = distance kind h
  whole_by shape.Switch kind h = distances kind h
  whole_by shape.Leave kind h = distance kind h
  whole_by _ kind h = tt

  pub is_whole : (op : ℕ) (row : Row) → row_of op ≡ Some row → IsWhole row.shape (named row.operand) n
  is_whole op row listed = whole_by row.shape row.operand (row_whole op row listed)
