-- The targets of an instruction that stands in code.
use Rattle.std.proofs.Common.{◌≡◌, ℕ, ◌+◌, ◌*◌, ◌<◌, ◌≤◌, List, length, Option, Some, Ok, sym, ap, subst, ◌∙◌, arith}
use Rattle.std.specs.Prelude.{ℤ, pos, ◌<ℤ◌, unsigned_abs, slice_get, unwrap_or}
use Rattle.std.specs.List.{range_with_len}
use Rattle.std.specs.Option.{option_map}
use Rattle.std.proofs.lemmas.Int.{ints}
use Rattle.std.proofs.lemmas.Option.{slice_get-map, slice_get-get_or}
use Rattle.std.proofs.lemmas.List.FromFn.{length-range_with_len, length-map-range_with_len, get_or-range_with_len}
use Rattle.cil_opcodes.specs.declared.shape.Operand.{Operand}
use Rattle.cil_opcodes.specs.declared.shape.Operand.TheVariants as kinds
use Rattle.cil_opcodes.specs.declared.shape.Row.{Row}
use Rattle.cil_opcodes.specs.Rows.{row_of}
use Rattle.file_tables.specs.Bytes.{u32_at}
use Rattle.cil_code.specs.declared.instructions.Instr.{Instr}
use Rattle.cil_code.specs.Instructions.{instruction_at, operand_at, target_at, HasTarget}
use Rattle.cil_code.proofs.Parts.{Parts, parts, target_fits}
use Rattle.cil_code.specs.Walk.{Placed}
use Rattle.code_places.specs.Places.{kind_of, distances, distances_of}
use Rattle.code_places.proofs.Table.{switch_is}

pub switch_count : (code : List ℕ) (p : Placed) → length (distances code p kinds.Switch) ≡ unsigned_abs p.instr.operand
switch_count code p = length-map-range_with_len (target_at code p.at) 0 (unsigned_abs p.instr.operand)

module _ (code : List ℕ) (at : ℕ) (instr : Instr) (stands : instruction_at code at ≡ Ok instr) (switch : kind_of instr ≡ kinds.Switch) where
  abbrev p : Placed
  p = record { at = at; instr = instr }

  listed : (q : Parts code at instr) → row_of instr.op ≡ Some q.row
  listed q = ap (λ (i : Instr). row_of i.op) q.made ∙ q.listed

  kind : (q : Parts code at instr) → q.row.operand ≡ kinds.Switch
  kind q = sym (ap (λ (o : Option Row). unwrap_or (option_map (λ row. row.operand) o) kinds.Nothing) (listed q)) ∙ switch

  number : (q : Parts code at instr) → instr.operand ≡ pos (u32_at code (at + q.opcode.len))
  unfolding operand_at
  number q = ap (λ (i : Instr). i.operand) q.made ∙ ap (λ (o : Operand). operand_at o code (at + q.opcode.len)) (kind q)

  distances_are : distances_of code p ≡ distances code p kinds.Switch
  distances_are = ap (distances code p) switch

  below : (z : ℤ) (n k : ℕ) → z ≡ pos n → k < unsigned_abs z → pos k <ℤ z
  below z n k e lt = subst (λ (y : ℤ). pos k <ℤ y) (sym e) (let l : k < n = subst (λ (y : ℤ). k < unsigned_abs y) e lt in omega (arith, ints))

  pub has_target : (k : ℕ) → k < length (distances_of code p) → HasTarget code at k
  has_target k lt =
      let q = parts code at instr stands in
      let counted : k < unsigned_abs instr.operand = subst (λ (n : ℕ). k < n) (ap length distances_are ∙ switch_count code p) lt in
      record {
        instr = instr;
        stands = stands;
        is_switch = switch_is instr.op q.row (listed q) (kind q);
        counted = below instr.operand (u32_at code (at + q.opcode.len)) k (number q) counted;
      }

  pub distance_is : (k : ℕ) → k < length (distances_of code p) → slice_get (distances_of code p) k ≡ Some (target_at code at k)
  distance_is k lt =
      let n = unsigned_abs instr.operand in
      let counted : k < n = subst (λ (m : ℕ). k < m) (ap length distances_are ∙ switch_count code p) lt in
      let plain : 0 + k ≡ k = omega arith in
      let long : k < length (range_with_len 0 n) = omega (arith, length-range_with_len 0 n) in
      ap (λ ds. slice_get ds k) distances_are
      ∙ slice_get-map (target_at code at) (range_with_len 0 n) k
      ∙ ap (option_map (target_at code at)) (slice_get-get_or (range_with_len 0 n) k 0 long)
      ∙ ap (λ m. Some (target_at code at m)) (get_or-range_with_len 0 n k 0 counted ∙ plain)

  pub target_inside : (k : ℕ) → k < length (distances_of code p) → at + 5 + 4 * k + 4 ≤ length code
  target_inside k lt = target_fits code at k (has_target k lt)
