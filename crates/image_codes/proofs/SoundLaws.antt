-- Code whose instructions stand behind one another and go to instructions can be shortened (III.1.7.2).
use Rattle.std.proofs.Common.{◌≡◌, ⊎_elim, inl, inr, ℕ, zero, suc, ◌+◌, ◌-◌, ◌<◌, ◌≤◌, Bool, true, false, cond, List, [], ◌∷◌, length, map, Option, Some, None, refl, sym, ap, ◌∙◌, subst, arith}
use Rattle.std.specs.Prelude.{ℤ, pos, negsuc, unsigned_abs, ◌||◌, ◌&&◌, not, nat_eq, unwrap_or}
use Rattle.std.specs.List.{find, list_all, range_with_len}
use Rattle.std.specs.Option.{option_map}
use Rattle.std.specs.Int.{w8, w32}
use Rattle.std.specs.Int.RustNames.{FitsSigned}
use Rattle.std.proofs.lemmas.Bool.{and_parts, cases_lt, eqb-true}
use Rattle.std.proofs.lemmas.Int.{ints}
use Rattle.cil_opcodes.specs.declared.shape.Operand.{Operand}
use Rattle.cil_opcodes.specs.declared.shape.Operand.TheVariants as kinds
use Rattle.cil_opcodes.specs.declared.shape.Row.{Row}
use Rattle.cil_code.specs.Instructions.{target_at}
use Rattle.cil_code.specs.Walk.{Placed, code_fault, instructions_of, starts_of}
use Rattle.classes.specs.Listed.{target_place}
use Rattle.assemblies.specs.Closed.{Each}
use Rattle.image_form.specs.Codes.{Instr, AllFit, FitsIn, lie_of, target, size, long}
use Rattle.short_code.specs.Short.{IsBound}
use Rattle.short_code.specs.Pieces.{pieces}
use Rattle.code_places.specs.Among.{is_among}
use Rattle.code_places.specs.Places.{distances, goes_well, first_astray}
use Rattle.code_places.proofs.WalkLaws.{rest as placed, rest_goes as placed_goes, past_end, start_inside}
use Rattle.code_shrink.specs.Lines.{AreBytes}
use Rattle.code_shrink.specs.Shrunk.{CanShrink, IsTarget, AreTargets, pieces_of, targets_of}
use Rattle.code_shrink.specs.Steps.{plain_at, instr_of}
use Rattle.code_shrink.specs.declared.step.Step.{Step}
use Rattle.code_shrink.proofs.Walking.{IsWhole, goes, rest as instrs, rest_goes as instrs_go, rest_ends, whole_of}
use Rattle.code_shrink.proofs.Sizes.{sizes}
use Rattle.code_shrink.proofs.Lie.{step_sound}

-- a distance of four bytes leads no further back than 2^31
before : (next : ℕ) (d : ℤ) (q : ℕ) → FitsSigned w32 d → target next d ≡ negsuc q → q < 2147483648
before next (pos n) q f e = absurd (omega (arith, ints, e))
before next (negsuc n) q f e = omega (arith, ints, e, f.sfits)

wider : (d : ℤ) → FitsSigned w8 d → FitsSigned w32 d
wider (pos n) f = record { sfits = omega (arith, f.sfits) }
wider (negsuc n) f = record { sfits = omega (arith, f.sfits) }

none_found : {A : Type 0} (test : A → Bool) (xs : List A) → find (λ x. not (test x)) xs ≡ None → list_all test xs ≡ true
none_found test [] e = refl
none_found {A} test (x ∷ xs) e = by (test x) (none_found test xs) e
  where
    by : (b : Bool) → (find (λ x. not (test x)) xs ≡ None → list_all test xs ≡ true) → cond (not b) (Some x) (find (λ x. not (test x)) xs) ≡ None → (b && list_all test xs) ≡ true
    by true later h = later h
    by false later h = absurd (cc h)

module _ (code : List ℕ) (bytes : AreBytes code) (short : length code < 2147483648) (whole : IsWhole code 0) where
  -- an instruction that starts behind a place is a bound of those from there on
  bound_from : (n at m : ℕ) → IsWhole code at → length code ≤ at + n → is_among (map (λ (p : Placed). p.at) (placed code at)) m ≡ true → (at ≤ m) × IsBound (pieces (instrs code at)) (m - at)
  bound_from zero at m h le e = absurd (let none = ap (λ ps. is_among (map (λ (p : Placed). p.at) ps) m) (past_end code at (omega (arith, le))).none in cc (e, none))
  bound_from (suc n) at m h le e =
      ⊎_elim
      (λ lt.
      let g = goes code at lt h in
      let s = g.step in
      let next = at + s.instr.length in
      let among : (nat_eq at m || is_among (map (λ (p : Placed). p.at) (placed code next)) m) ≡ true = sym (ap (λ ps. is_among (map (λ (p : Placed). p.at) ps) m) (placed_goes code at s.instr g.stands.stands)) ∙ e in
      let long_is = (sizes code at s g.stands bytes).long_is in
      let is = instrs_go code at s g.stands in
      here at m s long_is is (λ later. bound_from n next m g.whole (omega (arith, le, g.some)) later) (nat_eq at m) refl among)
      (λ past. absurd (let none = ap (λ ps. is_among (map (λ (p : Placed). p.at) ps) m) (past_end code at past).none in cc (e, none)))
      (cases_lt at (length code))
    where
      here : (at m : ℕ) (s : Step) → size long (instr_of code at s) ≡ s.instr.length → instrs code at ≡ instr_of code at s ∷ instrs code (at + s.instr.length)
          → (is_among (map (λ (p : Placed). p.at) (placed code (at + s.instr.length))) m ≡ true → (at + s.instr.length ≤ m) × IsBound (pieces (instrs code (at + s.instr.length))) (m - (at + s.instr.length)))
          → (b : Bool) → nat_eq at m ≡ b → (b || is_among (map (λ (p : Placed). p.at) (placed code (at + s.instr.length))) m) ≡ true → (at ≤ m) × IsBound (pieces (instrs code at)) (m - at)
      here at m s long_is is later true same e =
          let eq : at ≡ m = eqb-true at m same in
          let first : m - at ≡ 0 = omega (arith, eq) in
          (omega (arith, eq), subst (λ (js : List Instr). IsBound (pieces js) (m - at)) (sym is) (inl first))
      here at m s long_is is later false same e =
          let r = later e in
          let off : m - (at + s.instr.length) ≡ m - at - size long (instr_of code at s) = omega (arith, long_is, r.0) in
          let enough : size long (instr_of code at s) ≤ m - at = omega (arith, long_is, r.0) in
          (omega (arith, r.0), subst (λ (js : List Instr). IsBound (pieces js) (m - at)) (sym is) (inr (enough, subst (IsBound (pieces (instrs code (at + s.instr.length)))) off r.1)))

  target_bound : (next : ℕ) (d : ℤ) → FitsSigned w32 d → is_among (starts_of code) (target_place (target next d)) ≡ true → IsTarget (pieces_of code) (target next d)
  target_bound next d fit e = by (target next d) refl e
    where
      by : (z : ℤ) → target next d ≡ z → is_among (starts_of code) (target_place z) ≡ true → IsTarget (pieces_of code) z
      by (pos n) t among =
          let b = bound_from (length code) 0 n whole (omega arith) among in
          let off : n - 0 ≡ n = omega arith in
          (subst (IsBound (pieces_of code)) off b.1, refl)
      by (negsuc n) t among =
          let far = before next d n fit t in
          let inside = start_inside code (4294967295 - n) among in
          absurd (omega (arith, far, inside, short))

  all_bound : (next : ℕ) (ds : List ℤ) → AllFit w32 ds → list_all (is_among (starts_of code)) (map (λ d. target_place (target next d)) ds) ≡ true → Each (IsTarget (pieces_of code)) (map (target next) ds)
  all_bound next [] fit e = tt
  all_bound next (d ∷ ds) fit e =
      let both = and_parts (is_among (starts_of code) (target_place (target next d))) (list_all (is_among (starts_of code)) (map (λ d. target_place (target next d)) ds)) e in
      (target_bound next d fit.0 both.0, all_bound next ds fit.1 both.1)

  kind_bound : (kind : Operand) (p : Placed) (next : ℕ) → FitsIn long (lie_of long kind) (plain_at code p.at kind p.instr.operand) → list_all (is_among (starts_of code)) (map (λ d. target_place (target next d)) (distances code p kind)) ≡ true → Each (IsTarget (pieces_of code)) (targets_of kind next (plain_at code p.at kind p.instr.operand))
  kind_bound kinds.Nothing p next fit e = tt
  kind_bound kinds.Int8 p next fit e = tt
  kind_bound kinds.UInt8 p next fit e = tt
  kind_bound kinds.UInt16 p next fit e = tt
  kind_bound kinds.Int32 p next fit e = tt
  kind_bound kinds.Int64 p next fit e = tt
  kind_bound kinds.BranchShort p next fit e = all_bound next (p.instr.operand ∷ []) (wider p.instr.operand fit, tt) e
  kind_bound kinds.BranchLong p next fit e = all_bound next (p.instr.operand ∷ []) (fit, tt) e
  kind_bound kinds.Switch p next fit e = all_bound next (map (target_at code p.at) (range_with_len 0 (unsigned_abs p.instr.operand))) fit e
  kind_bound kinds.TypeToken p next fit e = tt
  kind_bound kinds.FieldToken p next fit e = tt
  kind_bound kinds.MethodToken p next fit e = tt
  kind_bound kinds.StringToken p next fit e = tt
  kind_bound kinds.AnyToken p next fit e = tt

  -- with so many steps at most
  targets_from : (n at : ℕ) → IsWhole code at → length code ≤ at + n → list_all (goes_well code) (placed code at) ≡ true → AreTargets (pieces_of code) at (instrs code at)
  targets_from zero at h le e = subst (AreTargets (pieces_of code) at) (sym (rest_ends code at (omega (arith, le)))) tt
  targets_from (suc n) at h le e =
      ⊎_elim
      (λ lt.
      let g = goes code at lt h in
      let s = g.step in
      let next = at + s.instr.length in
      let p : Placed = record { at = at; instr = s.instr } in
      let all = and_parts (goes_well code p) (list_all (goes_well code) (placed code next)) (sym (ap (list_all (goes_well code)) (placed_goes code at s.instr g.stands.stands)) ∙ e) in
      let kind = ap (λ (o : Option Row). list_all (is_among (starts_of code)) (map (λ d. target_place (target next d)) (distances code p (unwrap_or (option_map (λ (r : Row). r.operand) o) kinds.Nothing)))) g.stands.listed in
      let first : Each (IsTarget (pieces_of code)) (targets_of s.row.operand next (plain_at code at s.row.operand s.instr.operand)) = kind_bound s.row.operand p next (step_sound code at s g.stands bytes).fits (sym kind ∙ all.0) in
      let later = targets_from n next g.whole (omega (arith, le, g.some)) all.1 in
      let size_is : next ≡ at + size long (instr_of code at s) = ap (λ k. at + k) (sym (sizes code at s g.stands bytes).long_is) in
      let both : AreTargets (pieces_of code) at (instr_of code at s ∷ instrs code next) = subst (λ k. Each (IsTarget (pieces_of code)) (targets_of s.row.operand k (plain_at code at s.row.operand s.instr.operand)) × AreTargets (pieces_of code) k (instrs code next)) size_is (first, later) in
      subst (AreTargets (pieces_of code) at) (sym (instrs_go code at s g.stands)) both)
      (λ past. subst (AreTargets (pieces_of code) at) (sym (rest_ends code at past)) tt)
      (cases_lt at (length code))

none_astray : (code : List ℕ) → first_astray code ≡ None → list_all (goes_well code) (instructions_of code) ≡ true
none_astray code e = none_found (goes_well code) (instructions_of code) (by (find (λ p. not (goes_well code p)) (instructions_of code)) e)
  where
    by : (o : Option Placed) → option_map (λ (p : Placed). p.at) o ≡ None → o ≡ None
    by None h = refl
    by (Some p) h = absurd (cc h)

pub can_shrink : (code : List ℕ) → AreBytes code → length code < 2147483648 → code_fault code ≡ None → first_astray code ≡ None → CanShrink code
can_shrink code bytes short fault astray =
    let whole = whole_of code fault in
    record { whole = fault; targets = targets_from code bytes short whole (length code) 0 whole (omega arith) (none_astray code astray) }
