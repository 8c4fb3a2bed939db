-- Clauses of accepted code lie where instructions start or the code ends (rule 44), and so within the shortened code.
use Rattle.std.proofs.Common.{◌≡◌, ⊎_elim, ℕ, zero, suc, ◌+◌, ◌-◌, ◌≤◌, Bool, true, false, List, [], ◌∷◌, ◌++◌, length, map, None, refl, sym, ◌∙◌, subst, arith}
use Rattle.std.specs.Prelude.{◌&&◌, ◌||◌, nat_eq, nat_lt, if◌then◌else◌}
use Rattle.std.specs.List.{list_all}
use Rattle.std.proofs.lemmas.Bool.{and_parts, cases_lt, eqb-true}
use Rattle.cil_code.specs.Bodies.{BodyPart}
use Rattle.cil_code.specs.Walk.{code_fault}
use Rattle.file_tables.specs.File.{FilePart}
use Rattle.machine.specs.Data.{ClassOf}
use Rattle.machine_rename.specs.Places.{Piece}
use Rattle.classes.specs.Code.{CodeClause, MethodCode}
use Rattle.classes.specs.Clauses.{is_proper, lies_well}
use Rattle.assemblies.specs.Rows.{RawClause}
use Rattle.assemblies.specs.Binding.{numbered, clause_with}
use Rattle.assemblies.specs.Closed.{Each}
use Rattle.short_code.specs.Short.{to_short, short_end, long_end}
use Rattle.world_rows.specs.Tokens.{methods}
use Rattle.world_rows.specs.Lines.{raw_code}
use Rattle.world_rows.specs.World.{size_of, rows_alone, assemblies_of, ecma_sources}
use Rattle.code_rules.specs.Pass.{Step}
use Rattle.code_rules.specs.Judgement.{is_start, is_bound, on_starts, end_of, lattice_of, catches_well, steps_of}
use Rattle.code_rules.specs.Verdict.{passed}
use Rattle.verdict_rules.specs.Order.{first_fault}
use Rattle.verdict_rules.specs.World.{World, world_of, classes_of, exception_of}
use Rattle.verdict_rules.specs.Code.{walk_test, target_test, clause_test, clause_well, pass_test, listed_tests}
use Rattle.verdict_laws.proofs.Kept.{head_kept}
use Rattle.rows_resolved.proofs.Codes.{BodyKept, both_kept}
use Rattle.code_places.specs.Places.{end_from}
use Rattle.code_places.specs.Places as places
use Rattle.code_places.proofs.WalkLaws.{rest, rest_goes, past_end, start_inside}
use Rattle.code_tests.specs.Tests.{code_meant}
use Rattle.code_tests.proofs.TestLaws.{starts, ends}
use Rattle.code_shrink.specs.Lines.{AreBytes}
use Rattle.code_shrink.specs.Shrunk.{pieces_of}
use Rattle.code_shrink.proofs.Lie.{end_is}
use Rattle.code_shrink.proofs.Walking.{IsWhole, goes, whole_of}
use Rattle.fitting_parts.specs.Small.{IsSmall}
use Rattle.fitting_parts.specs.Kept.{ClauseLiesNear}

-- ---- places up to the end come to lie up to the end

short_inside : {A : Type 0} (xs : List (Piece A)) (at : ℕ) → at ≤ long_end xs → to_short xs at ≤ short_end xs
short_inside [] at h = h
short_inside (x ∷ xs) at h = go (nat_lt at x.long) (short_inside xs (at - x.long) (omega (arith, h)))
  where
    go : (b : Bool) → to_short xs (at - x.long) ≤ short_end xs → (if b then 0 else x.short + to_short xs (at - x.long)) ≤ x.short + short_end xs
    go true ih = omega arith
    go false ih = omega (arith, ih)

-- with so many steps at most
end_inside : (n : ℕ) (code : List ℕ) (at : ℕ) → IsWhole code at → length code ≤ at + n → at ≤ length code → end_from at (rest code at) ≤ length code
end_inside zero code at h le inside = subst (λ ps. end_from at ps ≤ length code) (sym (past_end code at (omega (arith, le))).none) inside
end_inside (suc n) code at h le inside =
    ⊎_elim
    (λ lt.
    let g = goes code at lt h in
    let later = end_inside n code (at + g.step.instr.length) g.whole (omega (arith, le, g.some)) g.inside in
    subst (λ ps. end_from at ps ≤ length code) (sym (rest_goes code at g.step.instr g.stands.stands)) later)
    (λ past. subst (λ ps. end_from at ps ≤ length code) (sym (past_end code at past).none) inside)
    (cases_lt at (length code))

-- ---- the clauses of a body all tests of which hold

module _ (files : List FilePart) (f n : ℕ) (z : FilePart) (b : BodyPart) (k : BodyKept files f n z b) (bytes : AreBytes b.code) (fault : code_fault b.code ≡ None) (small : IsSmall (short_end (pieces_of b.code))) where
  abbrev w : World
  w = world_of files

  abbrev code : MethodCode
  code = code_meant (world_of files) f z b

  abbrev steps : List Step
  steps = steps_of (ecma_sources files) (ClassOf (exception_of (world_of files))) k.method (code_meant (world_of files) f z b)

  abbrev place : ℕ → ℕ
  place at = to_short (pieces_of b.code) at

  near : (at : ℕ) → at ≤ length b.code → IsSmall (place at)
  near at inside =
      let end = end_is (length b.code) b.code 0 bytes (whole_of b.code fault) (omega arith) (omega arith) in
      let short = short_inside (pieces_of b.code) at (omega (arith, end, inside)) in
      omega (arith, short, small)

  start_in : (at : ℕ) → is_start steps at ≡ true → at ≤ length b.code
  start_in at e = let lt = start_inside b.code at (sym (starts w f z k.method b at) ∙ e) in omega (arith, lt)

  bound_in : (at : ℕ) → is_bound steps at ≡ true → at ≤ length b.code
  bound_in at e = by (is_start steps at) refl e
    where
      by : (s : Bool) → is_start steps at ≡ s → (s || nat_eq at (end_of steps)) ≡ true → at ≤ length b.code
      by true s h = start_in at s
      by false s h =
          let same : at ≡ places.end_of b.code = eqb-true at (end_of steps) h ∙ ends w f z k.method b in
          let inside = end_inside (length b.code) b.code 0 (whole_of b.code fault) (omega arith) (omega arith) in
          subst (λ m. m ≤ length b.code) (sym same) inside

  on_starts_near : (c : CodeClause) → on_starts steps c ≡ true → (IsSmall (place c.try_start) × IsSmall (place c.try_end)) × (IsSmall (place c.start) × IsSmall (place c.end))
  on_starts_near c e =
      let first = and_parts (is_start steps c.start) (is_start steps c.try_start && (is_bound steps c.try_end && is_bound steps c.end)) e in
      let second = and_parts (is_start steps c.try_start) (is_bound steps c.try_end && is_bound steps c.end) first.1 in
      let third = and_parts (is_bound steps c.try_end) (is_bound steps c.end) second.1 in (
        (near c.try_start (start_in c.try_start second.0), near c.try_end (bound_in c.try_end third.0)),
        (near c.start (start_in c.start first.0), near c.end (bound_in c.end third.1)),
      )

  abbrev with : RawClause → CodeClause
  with c = clause_with (size_of (rows_alone files)) (assemblies_of files) f c

  clause_near : (before : List CodeClause) (c : RawClause) → clause_well w steps before (with c) ≡ true → ClauseLiesNear place c
  clause_near before c e =
      let catches = and_parts (catches_well (classes_of w) (exception_of w) (with c).kind) (on_starts steps (with c) && (is_proper (with c) && list_all (λ b. lies_well b (with c)) before)) e in
      let lies = and_parts (on_starts steps (with c)) (is_proper (with c) && list_all (λ b. lies_well b (with c)) before) catches.1 in
      let h = on_starts_near (with c) lies.0 in
      record { try_start = h.0.0; try_end = h.0.1; start = h.1.0; end = h.1.1 }

  all_near : (all : List CodeClause) (i : ℕ) (cs : List RawClause) → first_fault f methods (suc n) (numbered (clause_test w steps all) i (map with cs)) ≡ None → Each (ClauseLiesNear place) cs
  all_near all i [] e = tt
  all_near all i (c ∷ cs) e =
      let h = head_kept f methods (suc n) (clause_test w steps all i (with c)) (numbered (clause_test w steps all) (suc i) (map with cs)) e in
      (clause_near _ c h.0, all_near all (suc i) cs h.1)

  pub clauses_near : Each (ClauseLiesNear (λ at. to_short (pieces_of b.code) at)) (raw_code z.metadata b).clauses
  clauses_near =
      let tests = (head_kept f methods (suc n) (walk_test (code_fault b.code)) (listed_tests w k.method code) k.tests).1 in
      let later = (both_kept f methods (suc n) (map (target_test w code steps) code.lines) (numbered (clause_test w steps code.clauses) 0 code.clauses ++ pass_test (passed (ecma_sources files) (lattice_of (ecma_sources files)) (ClassOf (exception_of w)) k.method code) ∷ []) tests).1 in
      let told = (both_kept f methods (suc n) (numbered (clause_test w steps code.clauses) 0 code.clauses) (pass_test (passed (ecma_sources files) (lattice_of (ecma_sources files)) (ClassOf (exception_of w)) k.method code) ∷ []) later).0 in
      all_near code.clauses 0 (raw_code z.metadata b).clauses told
