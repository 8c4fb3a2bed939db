-- What is written of one instruction.
use Rattle.std.proofs.Common.{◌≡◌, ⊎_elim, inl, inr, ℕ, zero, suc, ◌+◌, ◌-◌, ◌≤◌, List, [], ◌∷◌, ◌++◌, length, take, drop, map, refl, sym, ap, ◌∙◌, subst, arith, append_assoc}
use Rattle.std.specs.Prelude.{◌⊎◌, ℤ, unsigned_abs, nat_lt, if◌then◌else◌, Option, Some, None}
use Rattle.std.proofs.lemmas.Bool.{lt-ltb, cases_lt}
use Rattle.machine_rename.proofs.PlaceLaws.{if_true}
use Rattle.std.specs.List.{range_with_len}
use Rattle.std.specs.Int.{w16}
use Rattle.image_bytes.specs.Layout.{all_onto}
use Rattle.cil_opcodes.specs.declared.shape.Operand.{Operand}
use Rattle.cil_opcodes.specs.declared.shape.Operand.TheVariants as kinds
use Rattle.cil_opcodes.specs.Rows.{row_of}
use Rattle.cil_code.specs.Instructions.{operand_len, target_at}
use Rattle.image_form.specs.Codes.{Plain, number_onto, signed_onto, plain_onto, lie_of, opcode_onto, opcode_size, instr_onto, short}
use Rattle.code_shrink.specs.Limits.{CanWrite}
use Rattle.code_shrink.specs.Lines.{AreBytes}
use Rattle.code_shrink.specs.Shrunk.{moved, plain_to, instr_to}
use Rattle.code_shrink.specs.Steps.{IsStep, plain_at, instr_of}
use Rattle.code_shrink.specs.declared.step.Step.{Step}
use Rattle.code_shrink.proofs.Table.{says_opcode}
use Rattle.code_shrink.proofs.Reading.{made}
use Rattle.code_shrink.proofs.Sizes.{opcode_len}
use Rattle.code_shrink.proofs.Copied.{Stays, operand_copied, opcode_copied}
use Rattle.code_shrink.proofs.Targets.{HasNumber, many_are}
use Rattle.code_shrink.proofs.Onto.{instr_parts}

-- ---- tokens

abbrev pub IsToken : Operand → Type 0
IsToken kinds.TypeToken = Unit {0}
IsToken kinds.FieldToken = Unit {0}
IsToken kinds.MethodToken = Unit {0}
IsToken kinds.StringToken = Unit {0}
IsToken kinds.AnyToken = Unit {0}
IsToken _ = ⊥

pub token_written : (place token : ℕ → ℕ) (kind : Operand) (next : ℕ) (code : List ℕ) (at : ℕ) (n : ℤ) → IsToken kind → number_onto 1 (token (unsigned_abs n)) [] ≡ plain_onto short (lie_of short kind) (plain_to place token kind next (plain_at code at kind n)) []
token_written place token kinds.Nothing next code at n t = absurd t
token_written place token kinds.Int8 next code at n t = absurd t
token_written place token kinds.UInt8 next code at n t = absurd t
token_written place token kinds.UInt16 next code at n t = absurd t
token_written place token kinds.Int32 next code at n t = absurd t
token_written place token kinds.Int64 next code at n t = absurd t
token_written place token kinds.BranchShort next code at n t = absurd t
token_written place token kinds.BranchLong next code at n t = absurd t
token_written place token kinds.Switch next code at n t = absurd t
token_written place token kinds.TypeToken next code at n t = refl
token_written place token kinds.FieldToken next code at n t = refl
token_written place token kinds.MethodToken next code at n t = refl
token_written place token kinds.StringToken next code at n t = refl
token_written place token kinds.AnyToken next code at n t = refl

-- ---- operands that stay

stays_same : (place token : ℕ → ℕ) (kind : Operand) (next : ℕ) (p : Plain) → Stays kind → plain_to place token kind next p ≡ p
stays_same place token kinds.Nothing next p t = refl
stays_same place token kinds.Int8 next p t = refl
stays_same place token kinds.UInt8 next p t = refl
stays_same place token kinds.UInt16 next p t = refl
stays_same place token kinds.Int32 next p t = refl
stays_same place token kinds.Int64 next p t = refl
stays_same place token kinds.BranchShort next p t = absurd t
stays_same place token kinds.BranchLong next p t = absurd t
stays_same place token kinds.Switch next p t = absurd t
stays_same place token kinds.TypeToken next p t = absurd t
stays_same place token kinds.FieldToken next p t = absurd t
stays_same place token kinds.MethodToken next p t = absurd t
stays_same place token kinds.StringToken next p t = absurd t
stays_same place token kinds.AnyToken next p t = absurd t

module _ (code : List ℕ) (at : ℕ) (s : Step) (h : IsStep code at s) (bytes : AreBytes code) where
  pub first_size : opcode_size s.instr.op ≡ (made code at s h).opcode.len
  first_size = ap opcode_size (made code at s h).op ∙ opcode_len code at s (made code at s h) bytes

  -- where the operand begins, and where it ends
  pub operand_inside : (at + opcode_size s.instr.op ≤ at + s.instr.length) × (at + s.instr.length ≤ length code)
  operand_inside =
      let m = made code at s h in
      let f = first_size in
      (omega (arith, f, m.length), omega (arith, f, m.length, m.fits))

  pub stays_written : (place token : ℕ → ℕ) (next : ℕ) → Stays s.row.operand
      → take (at + s.instr.length - (at + opcode_size s.instr.op)) (drop (at + opcode_size s.instr.op) code) ≡ plain_onto short (lie_of short s.row.operand) (plain_to place token s.row.operand next (plain_at code at s.row.operand s.instr.operand)) []
  stays_written place token next t =
      let m = made code at s h in
      let start : at + opcode_size s.instr.op ≡ at + m.opcode.len = ap (λ (n : ℕ). at + n) first_size in
      let size : at + s.instr.length - (at + m.opcode.len) ≡ operand_len s.row.operand code (at + m.opcode.len) = omega (arith, m.length) in
      ap (λ (n : ℕ). take (at + s.instr.length - n) (drop n code)) start
      ∙ ap (λ (n : ℕ). take n (drop (at + m.opcode.len) code)) size
      ∙ sym (operand_copied s.row.operand code at (at + m.opcode.len) t bytes m.fits)
      ∙ ap (λ (z : ℤ). plain_onto short (lie_of short s.row.operand) (plain_at code at s.row.operand z) []) (sym m.operand)
      ∙ ap (λ (p : Plain). plain_onto short (lie_of short s.row.operand) p []) (sym (stays_same place token s.row.operand next (plain_at code at s.row.operand s.instr.operand) t))

  pub opcode_written : take (at + opcode_size s.instr.op - at) (drop at code) ≡ opcode_onto s.row.opcode []
  opcode_written =
      let m = made code at s h in
      let f = first_size in
      let size : at + opcode_size s.instr.op - at ≡ m.opcode.len = omega (arith, f) in
      ap (λ (n : ℕ). take n (drop at code)) size
      ∙ sym (opcode_copied code at s m bytes (omega (arith, m.fits)))
      ∙ ap (λ (o : ℕ). opcode_onto o []) (sym (says_opcode s.instr.op s.row h.listed ∙ m.op))

  -- both behind what was written
  pub both_written : (place token : ℕ → ℕ) (next : ℕ) (out : List ℕ)
      → (out ++ take (at + opcode_size s.instr.op - at) (drop at code)) ++ plain_onto short (lie_of short s.row.operand) (plain_to place token s.row.operand next (plain_at code at s.row.operand s.instr.operand)) []
      ≡ out ++ instr_onto row_of short (instr_to place token next (instr_of code at s)) []
  both_written place token next out =
      let p = plain_onto short (lie_of short s.row.operand) (plain_to place token s.row.operand next (plain_at code at s.row.operand s.instr.operand)) [] in
      ap (λ (l : List ℕ). (out ++ l) ++ p) opcode_written
      ∙ append_assoc out (opcode_onto s.row.opcode []) p
      ∙ ap (λ (l : List ℕ). out ++ l) (sym (instr_parts row_of short (instr_to place token next (instr_of code at s))))

-- ---- what an operand of a kind needs

pub can_at : (place : ℕ → ℕ) (kind other : Operand) (next : ℕ) (code : List ℕ) (at : ℕ) (n : ℤ) → kind ≡ other → CanWrite place kind next (plain_at code at kind n) → CanWrite place other next (plain_at code at other n)
can_at place kind other next code at n e h = subst (λ (k : Operand). CanWrite place k next (plain_at code at k n)) e h

-- of a switch, at most 255 targets
pub few_targets : (place : ℕ → ℕ) (next : ℕ) (code : List ℕ) (at : ℕ) (n : ℤ) → CanWrite place kinds.Switch next (plain_at code at kinds.Switch n) → unsigned_abs n ≤ 255
few_targets place next code at n h = by (unsigned_abs n) (sym (many_are kinds.Switch code at n) ∙ h.few) where
  by : (k : ℕ) → (if nat_lt 255 k then Some k else None) ≡ None → k ≤ 255
  by k e = ⊎_elim (λ gt. absurd (let f : Path (Option ℕ) (Some k) None = sym (if_true (nat_lt 255 k) (Some k) None (lt-ltb 255 k gt)) ∙ e in cc)) (λ le. le) (cases_lt 255 k)

-- ---- what is written for a kind

module _ (place token : ℕ → ℕ) (next : ℕ) (code : List ℕ) (at : ℕ) (n : ℤ) where
  abbrev pub bytes_at : Operand → List ℕ
  bytes_at kind = plain_onto short (lie_of short kind) (plain_to place token kind next (plain_at code at kind n)) []

  pub same_kind : (kind other : Operand) → kind ≡ other → bytes_at other ≡ bytes_at kind
  same_kind kind other e = ap bytes_at (sym e)

  all_counted : (ks : List ℕ) → length (map (moved place next) (map (target_at code at) ks)) ≡ length ks
  all_counted [] = refl
  all_counted (k ∷ ks) = let h = all_counted ks in omega (arith, h)

  range_counted : (first m : ℕ) → length (range_with_len first m) ≡ m
  range_counted first zero = refl
  range_counted first (suc m) = let h = range_counted (first + 1) m in omega (arith, h)

  pub switch_written : (m : ℕ) → m ≡ unsigned_abs n → m ∷ all_onto (signed_onto w16) (map (moved place next) (map (target_at code at) (range_with_len 0 m))) [] ≡ bytes_at kinds.Switch
  switch_written m e =
      let ks = range_with_len 0 (unsigned_abs n) in
      let count : unsigned_abs n ≡ length (map (moved place next) (map (target_at code at) ks)) = sym (all_counted ks ∙ range_counted 0 (unsigned_abs n)) in
      ap (λ (k : ℕ). k ∷ all_onto (signed_onto w16) (map (moved place next) (map (target_at code at) (range_with_len 0 k))) []) e
      ∙ ap (λ (k : ℕ). k ∷ all_onto (signed_onto w16) (map (moved place next) (map (target_at code at) ks)) []) count

-- ---- kinds that share an arm

pub is_token : (k : Operand) → (k ≡ kinds.TypeToken) ⊎ ((k ≡ kinds.FieldToken) ⊎ ((k ≡ kinds.MethodToken) ⊎ ((k ≡ kinds.StringToken) ⊎ (k ≡ kinds.AnyToken)))) → IsToken k
is_token k (inl e) = subst IsToken (sym e) tt
is_token k (inr (inl e)) = subst IsToken (sym e) tt
is_token k (inr (inr (inl e))) = subst IsToken (sym e) tt
is_token k (inr (inr (inr (inl e)))) = subst IsToken (sym e) tt
is_token k (inr (inr (inr (inr e)))) = subst IsToken (sym e) tt

pub has_number : (k : Operand) → IsToken k → HasNumber k
has_number kinds.Nothing t = absurd t
has_number kinds.Int8 t = absurd t
has_number kinds.UInt8 t = absurd t
has_number kinds.UInt16 t = absurd t
has_number kinds.Int32 t = absurd t
has_number kinds.Int64 t = absurd t
has_number kinds.BranchShort t = absurd t
has_number kinds.BranchLong t = absurd t
has_number kinds.Switch t = tt
has_number kinds.TypeToken t = tt
has_number kinds.FieldToken t = tt
has_number kinds.MethodToken t = tt
has_number kinds.StringToken t = tt
has_number kinds.AnyToken t = tt

pub does_stay : (k : Operand) → (k ≡ kinds.Nothing) ⊎ ((k ≡ kinds.Int8) ⊎ ((k ≡ kinds.UInt8) ⊎ ((k ≡ kinds.UInt16) ⊎ ((k ≡ kinds.Int32) ⊎ (k ≡ kinds.Int64))))) → Stays k
does_stay k (inl e) = subst Stays (sym e) tt
does_stay k (inr (inl e)) = subst Stays (sym e) tt
does_stay k (inr (inr (inl e))) = subst Stays (sym e) tt
does_stay k (inr (inr (inr (inl e)))) = subst Stays (sym e) tt
does_stay k (inr (inr (inr (inr (inl e))))) = subst Stays (sym e) tt
does_stay k (inr (inr (inr (inr (inr e))))) = subst Stays (sym e) tt
