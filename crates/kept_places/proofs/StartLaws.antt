-- In accepted code an instruction starts, or the code ends, where a clause's regions begin and end (rule 44).
use Rattle.std.proofs.Common.{◌≡◌, ⊎_elim, inl, inr, ℕ, zero, suc, ◌+◌, ◌-◌, ◌≤◌, Bool, true, false, List, [], ◌∷◌, length, map, refl, sym, ap, ◌∙◌, subst, arith}
use Rattle.std.specs.Prelude.{◌||◌, nat_eq}
use Rattle.std.proofs.lemmas.Bool.{cases_lt, eqb-true}
use Rattle.cil_code.specs.Walk.{Placed}
use Rattle.image_form.specs.Codes.{Instr, size, long}
use Rattle.short_code.specs.Short.{long_end, IsBound}
use Rattle.short_code.specs.Pieces.{pieces}
use Rattle.code_places.specs.Among.{is_among}
use Rattle.code_places.specs.Places.{end_from}
use Rattle.code_places.proofs.WalkLaws.{rest as placed, rest_goes as placed_goes, past_end}
use Rattle.code_shrink.specs.Lines.{AreBytes}
use Rattle.code_shrink.specs.Steps.{instr_of}
use Rattle.code_shrink.specs.declared.step.Step.{Step}
use Rattle.code_shrink.proofs.Walking.{IsWhole, goes, rest as instrs, rest_goes as instrs_go}
use Rattle.code_shrink.proofs.Sizes.{sizes}
use Rattle.chosen_image.proofs.PlaceLaws.{first_bound}

-- a bound lies within
pub bound_inside : (is : List Instr) (y : ℕ) → IsBound (pieces is) y → y ≤ long_end (pieces is)
bound_inside [] y b = omega (arith, b)
bound_inside (i ∷ is) y b =
    ⊎_elim (λ (z : y ≡ 0). let q : y ≤ size long i + long_end (pieces is) = omega (arith, z) in q)
    (λ (p : (size long i ≤ y) × IsBound (pieces is) (y - size long i)). let ih = bound_inside is (y - size long i) p.1 in let q : y ≤ size long i + long_end (pieces is) = omega (arith, ih, p.0) in q) b

module _ (code : List ℕ) (bytes : AreBytes code) where
  -- a place behind an instruction that starts at one
  further : (at m : ℕ) (s : Step) → size long (instr_of code at s) ≡ s.instr.length → instrs code at ≡ instr_of code at s ∷ instrs code (at + s.instr.length) → at + s.instr.length ≤ m → IsBound (pieces (instrs code (at + s.instr.length))) (m - (at + s.instr.length)) → (at ≤ m) × IsBound (pieces (instrs code at)) (m - at)
  further at m s long_is is le bound =
      let off : m - (at + s.instr.length) ≡ m - at - size long (instr_of code at s) = omega (arith, long_is, le) in
      let enough : size long (instr_of code at s) ≤ m - at = omega (arith, long_is, le) in
      (omega (arith, le), subst (λ (js : List Instr). IsBound (pieces js) (m - at)) (sym is) (inr (enough, subst (IsBound (pieces (instrs code (at + s.instr.length)))) off bound)))

  -- with so many steps at most
  start_from : (n at m : ℕ) → IsWhole code at → length code ≤ at + n → is_among (map (λ (p : Placed). p.at) (placed code at)) m ≡ true → (at ≤ m) × IsBound (pieces (instrs code at)) (m - at)
  start_from zero at m h le e = absurd (let none = ap (λ ps. is_among (map (λ (p : Placed). p.at) ps) m) (past_end code at (omega (arith, le))).none in cc (e, none))
  start_from (suc n) at m h le e =
      ⊎_elim
      (λ lt.
      let g = goes code at lt h in
      let s = g.step in
      let next = at + s.instr.length in
      let among : (nat_eq at m || is_among (map (λ (p : Placed). p.at) (placed code next)) m) ≡ true = sym (ap (λ ps. is_among (map (λ (p : Placed). p.at) ps) m) (placed_goes code at s.instr g.stands.stands)) ∙ e in
      here at m s (sizes code at s g.stands bytes).long_is (instrs_go code at s g.stands) (λ later. start_from n next m g.whole (omega (arith, le, g.some)) later) (nat_eq at m) refl among)
      (λ past. absurd (let none = ap (λ ps. is_among (map (λ (p : Placed). p.at) ps) m) (past_end code at past).none in cc (e, none)))
      (cases_lt at (length code))
    where
      here : (at m : ℕ) (s : Step) → size long (instr_of code at s) ≡ s.instr.length → instrs code at ≡ instr_of code at s ∷ instrs code (at + s.instr.length)
          → (is_among (map (λ (p : Placed). p.at) (placed code (at + s.instr.length))) m ≡ true → (at + s.instr.length ≤ m) × IsBound (pieces (instrs code (at + s.instr.length))) (m - (at + s.instr.length)))
          → (b : Bool) → nat_eq at m ≡ b → (b || is_among (map (λ (p : Placed). p.at) (placed code (at + s.instr.length))) m) ≡ true → (at ≤ m) × IsBound (pieces (instrs code at)) (m - at)
      here at m s long_is is later true same e =
          let eq : at ≡ m = eqb-true at m same in
          let first : m - at ≡ 0 = omega (arith, eq) in
          (omega (arith, eq), subst (λ (js : List Instr). IsBound (pieces js) (m - at)) (sym is) (inl first))
      here at m s long_is is later false same e = let r = later e in further at m s long_is is r.0 r.1

  end_bound_from : (n at : ℕ) → IsWhole code at → length code ≤ at + n → (at ≤ end_from at (placed code at)) × IsBound (pieces (instrs code at)) (end_from at (placed code at) - at)
  end_bound_from zero at h le = ends_here at (past_end code at (omega (arith, le))).none
    where
      ends_here : (at : ℕ) → placed code at ≡ [] → (at ≤ end_from at (placed code at)) × IsBound (pieces (instrs code at)) (end_from at (placed code at) - at)
      ends_here at none =
          let off : 0 ≡ at - at = omega arith in
          subst (λ ps. (at ≤ end_from at ps) × IsBound (pieces (instrs code at)) (end_from at ps - at)) (sym none) (omega arith, subst (IsBound (pieces (instrs code at))) off (first_bound (instrs code at)))
  end_bound_from (suc n) at h le =
      ⊎_elim
      (λ lt.
      let g = goes code at lt h in
      let s = g.step in
      let next = at + s.instr.length in
      let later = end_bound_from n next g.whole (omega (arith, le, g.some)) in
      let all : (at ≤ end_from next (placed code next)) × IsBound (pieces (instrs code at)) (end_from next (placed code next) - at) = further at (end_from next (placed code next)) s (sizes code at s g.stands bytes).long_is (instrs_go code at s g.stands) later.0 later.1 in
      subst (λ ps. (at ≤ end_from at ps) × IsBound (pieces (instrs code at)) (end_from at ps - at)) (sym (placed_goes code at s.instr g.stands.stands)) all)
      (λ past.
      let off : 0 ≡ at - at = omega arith in
      subst (λ ps. (at ≤ end_from at ps) × IsBound (pieces (instrs code at)) (end_from at ps - at)) (sym (past_end code at past).none) (omega arith, subst (IsBound (pieces (instrs code at))) off (first_bound (instrs code at))))
      (cases_lt at (length code))

  pub start_bound : IsWhole code 0 → (m : ℕ) → is_among (map (λ (p : Placed). p.at) (placed code 0)) m ≡ true → IsBound (pieces (instrs code 0)) m
  start_bound whole m e =
      let b = start_from (length code) 0 m whole (omega arith) e in
      let off : m - 0 ≡ m = omega arith in
      subst (IsBound (pieces (instrs code 0))) off b.1

  pub end_bound : IsWhole code 0 → IsBound (pieces (instrs code 0)) (end_from 0 (placed code 0))
  end_bound whole =
      let b = end_bound_from (length code) 0 whole (omega arith) in
      let off : end_from 0 (placed code 0) - 0 ≡ end_from 0 (placed code 0) = omega arith in
      subst (IsBound (pieces (instrs code 0))) off b.1
