-- Instructions as they lie in code: their targets are bounds, and what becomes of them fits.
use Rattle.std.proofs.Common.{◌≡◌, ⊎_elim, ℕ, zero, suc, ◌+◌, ◌-◌, ◌*◌, ◌^◌, ◌<◌, ◌≤◌, Bool, true, false, List, [], ◌∷◌, length, map, Option, Some, None, refl, sym, ap, ◌∙◌, subst, arith}
use Rattle.std.specs.Prelude.{ℤ, pos, negsuc, unsigned_abs, nat_eq, nat_lt, if◌then◌else◌}
use Rattle.std.specs.Option.{option_or}
use Rattle.std.specs.List.{range_with_len}
use Rattle.std.specs.Int.{w8, w16, w32}
use Rattle.std.specs.Int.RustNames.{FitsSigned}
use Rattle.std.proofs.Math.Facts.{sfits_to_z}
use Rattle.std.proofs.lemmas.Int.{ints}
use Rattle.std.proofs.lemmas.Bool.{ltb-true, cases_lt}
use Rattle.cil_opcodes.specs.declared.shape.Operand.{Operand}
use Rattle.cil_opcodes.specs.declared.shape.Operand.TheVariants as kinds
use Rattle.cil_opcodes.specs.Rows.{row_of}
use Rattle.cil_code.specs.Instructions.{operand_at, target_at}
use Rattle.file_tables.specs.Bytes.{u32_at}
use Rattle.machine_rename.specs.Places.{Piece}
use Rattle.assemblies.specs.Closed.{Each}
use Rattle.image_form.specs.Codes.{Plain, Bare, Signed, Unsigned, Distances, target, distance, distances_of, AllFit, FitsIn, Instr, IsSound, size, lie_of, long, short}
use Rattle.short_code.specs.Short.{to_short, long_end, IsBound}
use Rattle.short_code.specs.Pieces.{pieces}
use Rattle.chosen_image.proofs.PlaceLaws.{first_bound, behind_first as bound_behind, nearer_fits}
use Rattle.code_shrink.specs.Shrunk.{instrs_in, pieces_of, targets_of, IsTarget, AreTargets, moved, plain_to, instr_to, instrs_from}
use Rattle.code_shrink.specs.Limits.{is_near, first_far, wide_distances, far_from, too_many, first_wide, AllNear, AllCanWrite}
use Rattle.code_shrink.specs.Steps.{IsStep, plain_at, instr_of}
use Rattle.code_shrink.specs.declared.step.Step.{Step}
use Rattle.code_shrink.proofs.Table.{says_opcode, no_prefix}
use Rattle.code_shrink.proofs.Reading.{made}
use Rattle.code_shrink.proofs.Walking.{IsWhole, goes, rest, rest_goes, rest_ends}
use Rattle.code_shrink.proofs.Sizes.{sizes}
use Rattle.code_shrink.specs.Lines.{AreBytes}
use Rattle.code_shrink.proofs.Copied.{four_small, eight_small}

-- ---- what is read is sound

all_fit : (code : List ℕ) (at : ℕ) (ks : List ℕ) → AreBytes code → AllFit w32 (map (target_at code at) ks)
unfolding target_at
all_fit code at [] bytes = tt
all_fit code at (k ∷ ks) bytes = (sfits_to_z (record { fits = four_small code (at + 5 + 4 * k) bytes }), all_fit code at ks bytes)

fits_long : (kind : Operand) (code : List ℕ) (at start : ℕ) → AreBytes code → FitsIn long (lie_of long kind) (plain_at code at kind (operand_at kind code start))
unfolding operand_at
fits_long kinds.Nothing code at start bytes = tt
fits_long kinds.Int8 code at start bytes = sfits_to_z (record { fits = bytes start })
fits_long kinds.UInt8 code at start bytes = tt
fits_long kinds.UInt16 code at start bytes = tt
fits_long kinds.Int32 code at start bytes = sfits_to_z (record { fits = four_small code start bytes })
fits_long kinds.Int64 code at start bytes = sfits_to_z (record { fits = eight_small code start bytes })
fits_long kinds.BranchShort code at start bytes = sfits_to_z (record { fits = bytes start })
fits_long kinds.BranchLong code at start bytes = sfits_to_z (record { fits = four_small code start bytes })
fits_long kinds.Switch code at start bytes = all_fit code at (range_with_len 0 (u32_at code start)) bytes
fits_long kinds.TypeToken code at start bytes = tt
fits_long kinds.FieldToken code at start bytes = tt
fits_long kinds.MethodToken code at start bytes = tt
fits_long kinds.StringToken code at start bytes = tt
fits_long kinds.AnyToken code at start bytes = tt

pub step_sound : (code : List ℕ) (at : ℕ) (s : Step) → IsStep code at s → AreBytes code → IsSound row_of long (instr_of code at s)
step_sound code at s h bytes =
    let m = made code at s h in
    let op = says_opcode s.instr.op s.row h.listed in
    record {
      known = ap row_of op ∙ h.listed;
      plain = ap (λ (n : ℕ). if nat_lt n 65024 then nat_eq n 254 else false) op ∙ no_prefix s.instr.op s.row h.listed;
      fits = subst (λ (z : ℤ). FitsIn long (lie_of long s.row.operand) (plain_at code at s.row.operand z)) (sym m.operand) (fits_long s.row.operand code at (at + m.opcode.len) bytes);
    }

-- ---- along code

-- so many steps at most
pub all_sound : (n : ℕ) (code : List ℕ) (at : ℕ) → AreBytes code → IsWhole code at → length code ≤ at + n → Each (IsSound row_of long) (rest code at)
all_sound zero code at bytes h le = subst (Each (IsSound row_of long)) (sym (rest_ends code at (omega arith))) tt
all_sound (suc n) code at bytes h le =
    ⊎_elim
    (λ lt.
    let g = goes code at lt h in
    subst (Each (IsSound row_of long)) (sym (rest_goes code at g.step g.stands)) (step_sound code at g.step g.stands bytes, all_sound n code (at + g.step.instr.length) bytes g.whole (omega (arith, g.some))))
    (λ past. subst (Each (IsSound row_of long)) (sym (rest_ends code at past)) tt)
    (cases_lt at (length code))

pub end_is : (n : ℕ) (code : List ℕ) (at : ℕ) → AreBytes code → IsWhole code at → length code ≤ at + n → at ≤ length code → at + long_end (pieces (rest code at)) ≡ length code
end_is zero code at bytes h le inside = ap (λ (is : List Instr). at + long_end (pieces is)) (rest_ends code at (omega arith)) ∙ omega arith
end_is (suc n) code at bytes h le inside =
    ⊎_elim
    (λ lt.
    let g = goes code at lt h in
    let z = sizes code at g.step g.stands bytes in
    let ih = end_is n code (at + g.step.instr.length) bytes g.whole (omega (arith, g.some)) g.inside in
    ap (λ (is : List Instr). at + long_end (pieces is)) (rest_goes code at g.step g.stands)
    ∙ omega (arith, z.long_is, ih))
    (λ past. ap (λ (is : List Instr). at + long_end (pieces is)) (rest_ends code at past) ∙ omega (arith, past, inside))
    (cases_lt at (length code))

-- no bound is past the end
bound_inside : (is : List Instr) (y : ℕ) → IsBound (pieces is) y → y ≤ long_end (pieces is)
bound_inside [] y b = omega (arith, b)
bound_inside (i ∷ is) y b = ⊎_elim (λ (z : y ≡ 0). let q : y ≤ size long i + long_end (pieces is) = omega (arith, z) in q) (λ (p : (size long i ≤ y) × IsBound (pieces is) (y - size long i)). let ih = bound_inside is (y - size long i) p.1 in let q : y ≤ size long i + long_end (pieces is) = omega (arith, ih, p.0) in q) b

-- ---- some instructions of a whole, from a place on

pub record Lies (xs : List (Piece Instr)) (at : ℕ) (is : List Instr) : Type 0 where
  pub bound : (y : ℕ) → IsBound (pieces is) y → IsBound xs (at + y)
  pub sound : Each (IsSound row_of long) is
  pub targets : AreTargets xs at is

pub whole_lies : (code : List ℕ) → AreBytes code → IsWhole code 0 → AreTargets (pieces_of code) 0 (instrs_in code) → Lies (pieces_of code) 0 (instrs_in code)
whole_lies code bytes h t =
    record {
      bound = λ y b. let sum : y ≡ 0 + y = omega arith in subst (IsBound (pieces_of code)) sum b;
      sound = all_sound (length code) code 0 bytes h (omega arith);
      targets = t;
    }

module _ (xs : List (Piece Instr)) where
  pub next_lies : (at : ℕ) (i : Instr) (is : List Instr) → Lies xs at (i ∷ is) → Lies xs (at + size long i) is
  next_lies at i is h =
      record {
        bound = λ y b. let sum : at + (size long i + y) ≡ at + size long i + y = omega arith in subst (IsBound xs) sum (h.bound (size long i + y) (bound_behind i is y b));
        sound = h.sound.1;
        targets = h.targets.1;
      }

  pub next_bound : (at : ℕ) (i : Instr) (is : List Instr) → Lies xs at (i ∷ is) → IsBound xs (at + size long i)
  next_bound at i is h =
      let off : at + (size long i + 0) ≡ at + size long i = omega arith in
      subst (IsBound xs) off (h.bound (size long i + 0) (bound_behind i is 0 (first_bound is)))

  -- ---- places that agree on bounds

  module _ (place : ℕ → ℕ) (agree : (y : ℕ) → IsBound xs y → place y ≡ to_short xs y) where
    pub same_moved : (next : ℕ) (d : ℤ) → IsBound xs next → IsTarget xs (target next d) → moved place next d ≡ moved (to_short xs) next d
    same_moved next d b t =
        ap (λ (n : ℕ). distance n (pos (place (unsigned_abs (target next d))))) (agree next b)
        ∙ ap (λ (n : ℕ). distance (to_short xs next) (pos n)) (agree (unsigned_abs (target next d)) t.0)

    same_all : (next : ℕ) (ds : List ℤ) → IsBound xs next → Each (IsTarget xs) (map (target next) ds) → map (moved place next) ds ≡ map (moved (to_short xs) next) ds
    same_all next [] b t = refl
    same_all next (d ∷ ds) b t =
        ap (λ (z : ℤ). z ∷ map (moved place next) ds) (same_moved next d b t.0)
        ∙ ap (λ (zs : List ℤ). moved (to_short xs) next d ∷ zs) (same_all next ds b t.1)

    same_plain : (token : ℕ → ℕ) (kind : Operand) (next : ℕ) (p : Plain) → FitsIn long (lie_of long kind) p → IsBound xs next → Each (IsTarget xs) (targets_of kind next p) → plain_to place token kind next p ≡ plain_to (to_short xs) token kind next p
    same_plain token kinds.Nothing next p f b t = refl
    same_plain token kinds.Int8 next p f b t = refl
    same_plain token kinds.UInt8 next p f b t = refl
    same_plain token kinds.UInt16 next p f b t = refl
    same_plain token kinds.Int32 next p f b t = refl
    same_plain token kinds.Int64 next p f b t = refl
    same_plain token kinds.BranchShort next Bare f b t = absurd f
    same_plain token kinds.BranchShort next (Signed d) f b t = ap (λ (z : ℤ). Signed z) (same_moved next d b t.0)
    same_plain token kinds.BranchShort next (Unsigned n) f b t = absurd f
    same_plain token kinds.BranchShort next (Distances ds) f b t = absurd f
    same_plain token kinds.BranchLong next Bare f b t = absurd f
    same_plain token kinds.BranchLong next (Signed d) f b t = ap (λ (z : ℤ). Signed z) (same_moved next d b t.0)
    same_plain token kinds.BranchLong next (Unsigned n) f b t = absurd f
    same_plain token kinds.BranchLong next (Distances ds) f b t = absurd f
    same_plain token kinds.Switch next p f b t = ap (λ (zs : List ℤ). Distances zs) (same_all next (distances_of p) b t)
    same_plain token kinds.TypeToken next p f b t = refl
    same_plain token kinds.FieldToken next p f b t = refl
    same_plain token kinds.MethodToken next p f b t = refl
    same_plain token kinds.StringToken next p f b t = refl
    same_plain token kinds.AnyToken next p f b t = refl

    pub same_instrs : (token : ℕ → ℕ) (at : ℕ) (is : List Instr) → Lies xs at is → instrs_from place token at is ≡ instrs_from (to_short xs) token at is
    same_instrs token at [] h = refl
    same_instrs token at (i ∷ is) h =
        let p = same_plain token i.row.operand (at + size long i) i.operand h.sound.0.fits (next_bound at i is h) h.targets.0 in
        let q = same_instrs token (at + size long i) is (next_lies at i is h) in
        ap (λ (x : Plain). record { row = i.row; operand = x } ∷ instrs_from place token (at + size long i) is) p
        ∙ ap (λ (js : List Instr). instr_to (to_short xs) token (at + size long i) i ∷ js) q

    same_wide : (kind : Operand) (next : ℕ) (p : Plain) → IsBound xs next → Each (IsTarget xs) (targets_of kind next p) → wide_distances place kind next p ≡ wide_distances (to_short xs) kind next p
    same_wide kinds.Nothing next p b t = refl
    same_wide kinds.Int8 next p b t = refl
    same_wide kinds.UInt8 next p b t = refl
    same_wide kinds.UInt16 next p b t = refl
    same_wide kinds.Int32 next p b t = refl
    same_wide kinds.Int64 next p b t = refl
    same_wide kinds.BranchShort next p b t = refl
    same_wide kinds.BranchLong next p b t = same_all next (distances_of p) b t
    same_wide kinds.Switch next p b t = same_all next (distances_of p) b t
    same_wide kinds.TypeToken next p b t = refl
    same_wide kinds.FieldToken next p b t = refl
    same_wide kinds.MethodToken next p b t = refl
    same_wide kinds.StringToken next p b t = refl
    same_wide kinds.AnyToken next p b t = refl

    pub same_far : (at : ℕ) (is : List Instr) → Lies xs at is → far_from place at is ≡ far_from (to_short xs) at is
    same_far at [] h = refl
    same_far at (i ∷ is) h =
        let p = same_wide i.row.operand (at + size long i) i.operand (next_bound at i is h) h.targets.0 in
        let q = same_far (at + size long i) is (next_lies at i is h) in
        ap (λ (zs : List ℤ). option_or (first_far zs) (far_from place (at + size long i) is)) p
        ∙ ap (λ (o : Option ℤ). option_or (first_far (wide_distances (to_short xs) i.row.operand (at + size long i) i.operand)) o) q

-- ---- what no limit stops can be written

is_fit : (z : ℤ) → is_near z ≡ true → FitsSigned w16 z
is_fit (pos n) e = record { sfits = ltb-true n 32768 e }
is_fit (negsuc n) e = record { sfits = ltb-true n 32768 e }

far_none : (z : ℤ) (o : Option ℤ) → (if is_near z then o else Some z) ≡ None → (is_near z ≡ true) × (o ≡ None)
far_none z o = by (is_near z) where
  by : (b : Bool) → (if b then o else Some z) ≡ None → (b ≡ true) × (o ≡ None)
  by true e = (refl, e)
  by false e = absurd cc

pub all_near : (zs : List ℤ) → first_far zs ≡ None → AllFit w16 zs
all_near [] e = tt
all_near (z ∷ zs) e = let h = far_none z (first_far zs) e in (is_fit z h.0, all_near zs h.1)

pub or_none : {A : Type 0} (a b : Option A) → option_or a b ≡ None → (a ≡ None) × (b ≡ None)
or_none None b e = (refl, e)
or_none (Some x) b e = absurd cc

all_small : (xs : List (Piece Instr)) (zs : List ℤ) → ((y : ℕ) → IsBound xs y → y < 2 ^ 32) → Each (IsTarget xs) zs → Each (λ z. unsigned_abs z < 2 ^ 32) zs
all_small xs [] small t = tt
all_small xs (z ∷ zs) small t = (small (unsigned_abs z) t.0.0, all_small xs zs small t.1)

pub near_from : (xs : List (Piece Instr)) (at : ℕ) (is : List Instr) → ((y : ℕ) → IsBound xs y → y < 2 ^ 32) → AreTargets xs at is → AllNear at is
near_from xs at [] small t = tt
near_from xs at (i ∷ is) small t =
    (all_small xs (targets_of i.row.operand (at + size long i) i.operand) small t.0, near_from xs (at + size long i) is small t.1)

module _ (is : List Instr) (place : ℕ → ℕ) (agree : (y : ℕ) → IsBound (pieces is) y → place y ≡ to_short (pieces is) y) where
  short_fits : (next : ℕ) (d : ℤ) → IsBound (pieces is) next → IsTarget (pieces is) (target next d) → FitsSigned w8 d → FitsSigned w8 (moved place next d)
  short_fits next d b t f =
      let n = unsigned_abs (target next d) in
      let back : distance next (pos n) ≡ d = let e : pos n ≡ target next d = t.1 in ap (distance next) e ∙ omega (arith, ints) in
      subst (FitsSigned w8) (sym (same_moved (pieces is) place agree next d b t))
      (nearer_fits is (to_short (pieces is)) (λ at. refl) w8 next n b t.0 (subst (FitsSigned w8) (sym back) f))

  fits_short : (token : ℕ → ℕ) (kind : Operand) (next : ℕ) (p : Plain) → FitsIn long (lie_of long kind) p → IsBound (pieces is) next → Each (IsTarget (pieces is)) (targets_of kind next p) → first_far (wide_distances place kind next p) ≡ None → FitsIn short (lie_of short kind) (plain_to place token kind next p)
  fits_short token kinds.Nothing next p f b t e = f
  fits_short token kinds.Int8 next p f b t e = f
  fits_short token kinds.UInt8 next p f b t e = f
  fits_short token kinds.UInt16 next p f b t e = f
  fits_short token kinds.Int32 next p f b t e = f
  fits_short token kinds.Int64 next p f b t e = f
  fits_short token kinds.BranchShort next Bare f b t e = absurd f
  fits_short token kinds.BranchShort next (Signed d) f b t e = short_fits next d b t.0 f
  fits_short token kinds.BranchShort next (Unsigned n) f b t e = absurd f
  fits_short token kinds.BranchShort next (Distances ds) f b t e = absurd f
  fits_short token kinds.BranchLong next Bare f b t e = absurd f
  fits_short token kinds.BranchLong next (Signed d) f b t e = (all_near (moved place next d ∷ []) e).0
  fits_short token kinds.BranchLong next (Unsigned n) f b t e = absurd f
  fits_short token kinds.BranchLong next (Distances ds) f b t e = absurd f
  fits_short token kinds.Switch next p f b t e = all_near (map (moved place next) (distances_of p)) e
  fits_short token kinds.TypeToken next p f b t e = tt
  fits_short token kinds.FieldToken next p f b t e = tt
  fits_short token kinds.MethodToken next p f b t e = tt
  fits_short token kinds.StringToken next p f b t e = tt
  fits_short token kinds.AnyToken next p f b t e = tt

  -- whatever numbers the tokens get
  pub sound_short : (token : ℕ → ℕ) (at : ℕ) (js : List Instr) → Lies (pieces is) at js → far_from place at js ≡ None → Each (IsSound row_of short) (instrs_from place token at js)
  sound_short token at [] h far = tt
  sound_short token at (j ∷ js) h far =
      let next = at + size long j in
      let f = or_none (first_far (wide_distances place j.row.operand next j.operand)) (far_from place next js) far in (
        record {
          known = h.sound.0.known;
          plain = h.sound.0.plain;
          fits = fits_short token j.row.operand next j.operand h.sound.0.fits (next_bound (pieces is) at j js h) h.targets.0 f.0;
        },
        sound_short token next js (next_lies (pieces is) at j js h) f.1,
      )

  pub can_write : (at : ℕ) (js : List Instr) → ((y : ℕ) → IsBound (pieces is) y → y < 2 ^ 32) → Lies (pieces is) at js → far_from place at js ≡ None → first_wide js ≡ None → AllCanWrite place at js
  can_write at [] small h far wide = tt
  can_write at (j ∷ js) small h far wide =
      let next = at + size long j in
      let f = or_none (first_far (wide_distances place j.row.operand next j.operand)) (far_from place next js) far in
      let w = or_none (too_many j.row.operand j.operand) (first_wide js) wide in (
        record {
          near = all_small (pieces is) (targets_of j.row.operand next j.operand) small h.targets.0;
          fits = λ token. fits_short token j.row.operand next j.operand h.sound.0.fits (next_bound (pieces is) at j js h) h.targets.0 f.0;
          few = w.0;
        },
        can_write next js small (next_lies (pieces is) at j js h) f.1 w.1,
      )

-- ---- the whole

pub bounds_small : (code : List ℕ) → AreBytes code → IsWhole code 0 → length code < 2 ^ 32 → (y : ℕ) → IsBound (pieces_of code) y → y < 2 ^ 32
bounds_small code bytes h small y b =
    let e = end_is (length code) code 0 bytes h (omega arith) (omega arith) in
    let i = bound_inside (instrs_in code) y b in
    omega (arith, e, i, small)
