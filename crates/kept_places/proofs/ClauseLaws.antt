-- The clauses of accepted code have a spelling: their regions begin and end with instructions, they are of a known kind and nest (rule 44).
use Rattle.std.proofs.Common.{◌≡◌, ℕ, zero, suc, ◌+◌, Bool, true, false, List, [], ◌∷◌, ◌++◌, map, take, Some, None, refl, sym, ap, ◌∙◌, subst, arith}
use Rattle.std.specs.Prelude.{◌&&◌, ◌||◌, nat_eq, nat_le, slice_get}
use Rattle.std.specs.List.{list_all}
use Rattle.std.proofs.lemmas.Bool.{and_parts, and_from, eqb-true, le-leb}
use Rattle.cil_code.specs.Bodies.{BodyPart}
use Rattle.cil_code.specs.Walk.{code_fault}
use Rattle.file_tables.specs.File.{FilePart}
use Rattle.machine.specs.Data.{ClassOf}
use Rattle.classes.specs.Code.{CodeClause, MethodCode}
use Rattle.classes.specs.Clauses.{is_proper, lies_well, lie_well}
use Rattle.assemblies.specs.Rows.{RawKind, RawCatch, RawFinally, RawOther, RawClause}
use Rattle.assemblies.specs.Binding.{numbered, kind_with, clause_with}
use Rattle.assemblies.specs.Closed.{Each}
use Rattle.image_form.specs.Form.{is_known_kind, regions_of, lies_in, clauses_nest}
use Rattle.short_code.specs.Short.{long_end, IsBound}
use Rattle.chosen_image.specs.Spells.{KindSpells, ClauseSpells}
use Rattle.world_rows.specs.Tokens.{methods}
use Rattle.world_rows.specs.Lines.{raw_code}
use Rattle.world_rows.specs.World.{size_of, rows_alone, assemblies_of, ecma_sources}
use Rattle.code_rules.specs.Pass.{Step}
use Rattle.code_rules.specs.Judgement.{is_start, is_bound, on_starts, end_of, lattice_of, catches_well, steps_of}
use Rattle.code_rules.specs.Verdict.{passed}
use Rattle.verdict_rules.specs.Order.{first_fault}
use Rattle.verdict_rules.specs.World.{World, world_of, classes_of, exception_of}
use Rattle.verdict_rules.specs.Code.{walk_test, target_test, clause_test, clause_well, pass_test, listed_tests}
use Rattle.verdict_laws.proofs.Kept.{head_kept}
use Rattle.rows_resolved.proofs.Codes.{BodyKept, both_kept}
use Rattle.code_places.specs.Places as places
use Rattle.code_tests.specs.Tests.{code_meant}
use Rattle.code_tests.proofs.TestLaws.{starts, ends}
use Rattle.code_shrink.specs.Lines.{AreBytes}
use Rattle.code_shrink.specs.Shrunk.{instrs_in, pieces_of}
use Rattle.code_shrink.proofs.Walking.{whole_of}
use Rattle.kept_places.proofs.StartLaws.{bound_inside, start_bound, end_bound}

-- each clause lies well against those before it, and so against those behind it
abbrev AllLie : List CodeClause → Type 0
AllLie all = (j : ℕ) (c : CodeClause) → slice_get all j ≡ Some c → (is_proper c ≡ true) × (list_all (λ b. lies_well b c) (take j all) ≡ true)

behind_one : (c : CodeClause) (cs : List CodeClause) → ((j : ℕ) (d : CodeClause) → slice_get cs j ≡ Some d → lies_well c d ≡ true) → list_all (lies_well c) cs ≡ true
behind_one c [] h = refl
behind_one c (d ∷ cs) h = and_from (lies_well c d) (list_all (lies_well c) cs) (h 0 d refl) (behind_one c cs (λ j e at. h (suc j) e at))

all_lie_well : (all : List CodeClause) → AllLie all → lie_well all ≡ true
all_lie_well [] h = refl
all_lie_well (c ∷ cs) h =
    and_from (is_proper c) (list_all (lies_well c) cs && lie_well cs) (h 0 c refl).0
    (and_from (list_all (lies_well c) cs) (lie_well cs)
    (behind_one c cs (λ j d at. (and_parts (lies_well c d) (list_all (λ b. lies_well b d) (take j cs)) (h (suc j) d at).1).0))
    (all_lie_well cs (λ j d at. (let both = h (suc j) d at in (both.0, (and_parts (lies_well c d) (list_all (λ b. lies_well b d) (take j cs)) both.1).1)))))

module _ (files : List FilePart) (f n : ℕ) (z : FilePart) (b : BodyPart) (k : BodyKept files f n z b) (bytes : AreBytes b.code) (fault : code_fault b.code ≡ None) where
  abbrev w : World
  w = world_of files

  abbrev code : MethodCode
  code = code_meant (world_of files) f z b

  abbrev steps : List Step
  steps = steps_of (ecma_sources files) (ClassOf (exception_of (world_of files))) k.method (code_meant (world_of files) f z b)

  abbrev B : ℕ → Type 0
  B at = IsBound (pieces_of b.code) at

  start_in : (at : ℕ) → is_start steps at ≡ true → B at
  start_in at e = start_bound b.code bytes (whole_of b.code fault) at (sym (starts w f z k.method b at) ∙ e)

  bound_in : (at : ℕ) → is_bound steps at ≡ true → B at
  bound_in at e = by (is_start steps at) refl e
    where
      by : (s : Bool) → is_start steps at ≡ s → (s || nat_eq at (end_of steps)) ≡ true → B at
      by true s h = start_in at s
      by false s h =
          let same : at ≡ places.end_of b.code = eqb-true at (end_of steps) h ∙ ends w f z k.method b in
          subst B (sym same) (end_bound b.code bytes (whole_of b.code fault))

  abbrev with : RawClause → CodeClause
  with c = clause_with (size_of (rows_alone files)) (assemblies_of files) f c

  known : (kind : RawKind) → catches_well (classes_of w) (exception_of w) (kind_with (size_of (rows_alone files)) (assemblies_of files) f kind) ≡ true → KindSpells kind
  known (RawCatch t) e = tt
  known RawFinally e = tt
  known RawOther e = absurd (cc e)

  clause_spells : (before : List CodeClause) (c : RawClause) → clause_well w steps before (with c) ≡ true → ClauseSpells (pieces_of b.code) c × ((is_proper (with c) ≡ true) × (list_all (λ b. lies_well b (with c)) before ≡ true))
  clause_spells before c e =
      let catches = and_parts (catches_well (classes_of w) (exception_of w) (with c).kind) (on_starts steps (with c) && (is_proper (with c) && list_all (λ b. lies_well b (with c)) before)) e in
      let lies = and_parts (on_starts steps (with c)) (is_proper (with c) && list_all (λ b. lies_well b (with c)) before) catches.1 in
      let first = and_parts (is_start steps c.start) (is_start steps c.try_start && (is_bound steps c.try_end && is_bound steps c.end)) lies.0 in
      let second = and_parts (is_start steps c.try_start) (is_bound steps c.try_end && is_bound steps c.end) first.1 in
      let third = and_parts (is_bound steps c.try_end) (is_bound steps c.end) second.1 in (
        record {
          kind = known c.kind catches.0;
          try_start = start_in c.try_start second.0;
          try_end = bound_in c.try_end third.0;
          start = start_in c.start first.0;
          end = bound_in c.end third.1;
        },
        and_parts (is_proper (with c)) (list_all (λ b. lies_well b (with c)) before) lies.1,
      )

  -- of a clause of a number among all of them
  abbrev Lies : List CodeClause → ℕ → RawClause → Type 0
  Lies all i c = ClauseSpells (pieces_of b.code) c × ((is_proper (with c) ≡ true) × (list_all (λ b. lies_well b (with c)) (take i all) ≡ true))

  all_lie : (all : List CodeClause) (i : ℕ) (cs : List RawClause) → first_fault f methods (suc n) (numbered (clause_test w steps all) i (map with cs)) ≡ None → (j : ℕ) (c : RawClause) → slice_get cs j ≡ Some c → (m : ℕ) → m ≡ i + j → Lies all m c
  all_lie all i [] e j c at m same = absurd (cc at)
  all_lie all i (d ∷ cs) e zero c at m same =
      let h = head_kept f methods (suc n) (clause_test w steps all i (with d)) (numbered (clause_test w steps all) (suc i) (map with cs)) e in
      let is : d ≡ c = cc at in
      let here : i ≡ m = omega (arith, same) in
      subst (λ m. Lies all m c) here (subst (Lies all i) is (clause_spells (take i all) d h.0))
  all_lie all i (d ∷ cs) e (suc j) c at m same =
      let h = head_kept f methods (suc n) (clause_test w steps all i (with d)) (numbered (clause_test w steps all) (suc i) (map with cs)) e in
      all_lie all (suc i) cs h.1 j c at m (omega (arith, same))

  abbrev clauses : List RawClause
  clauses = (raw_code z.metadata b).clauses

  each_lies : (j : ℕ) (c : RawClause) → slice_get clauses j ≡ Some c → Lies (map with clauses) j c
  each_lies j c at =
      let tests = (head_kept f methods (suc n) (walk_test (code_fault b.code)) (listed_tests w k.method code) k.tests).1 in
      let later = (both_kept f methods (suc n) (map (target_test w code steps) code.lines) (numbered (clause_test w steps code.clauses) 0 code.clauses ++ pass_test (passed (ecma_sources files) (lattice_of (ecma_sources files)) (ClassOf (exception_of w)) k.method code) ∷ []) tests).1 in
      let told = (both_kept f methods (suc n) (numbered (clause_test w steps code.clauses) 0 code.clauses) (pass_test (passed (ecma_sources files) (lattice_of (ecma_sources files)) (ClassOf (exception_of w)) k.method code) ∷ []) later).0 in
      let here : j ≡ 0 + j = omega arith in
      all_lie (map with clauses) 0 clauses told j c at j here

  each_at : (cs : List RawClause) → ((j : ℕ) (c : RawClause) → slice_get cs j ≡ Some c → ClauseSpells (pieces_of b.code) c) → Each (ClauseSpells (pieces_of b.code)) cs
  each_at [] h = tt
  each_at (c ∷ cs) h = (h 0 c refl, each_at cs (λ j d at. h (suc j) d at))

  pub clauses_spell : Each (ClauseSpells (pieces_of b.code)) (raw_code z.metadata b).clauses
  clauses_spell = each_at clauses (λ j c at. (each_lies j c at).0)

  -- ---- they nest

  known_kind : (kind : RawKind) → KindSpells kind → is_known_kind kind ≡ true
  known_kind (RawCatch t) h = refl
  known_kind RawFinally h = refl
  known_kind RawOther h = absurd h

  abbrev whole : ℕ
  whole = long_end (pieces_of b.code)

  all_within : (cs : List RawClause) → Each (ClauseSpells (pieces_of b.code)) cs → list_all (lies_in whole) cs ≡ true
  all_within [] h = refl
  all_within (c ∷ cs) h =
      let tried = bound_inside (instrs_in b.code) c.try_end h.0.try_end in
      let ended = bound_inside (instrs_in b.code) c.end h.0.end in
      and_from (lies_in whole c) (list_all (lies_in whole) cs)
      (and_from (is_known_kind c.kind && nat_le c.try_end whole) (nat_le c.end whole) (and_from (is_known_kind c.kind) (nat_le c.try_end whole) (known_kind c.kind h.0.kind) (le-leb c.try_end whole tried)) (le-leb c.end whole ended))
      (all_within cs h.1)

  mapped_at : (g : RawClause → CodeClause) (cs : List RawClause) (j : ℕ) (d : CodeClause) → slice_get (map g cs) j ≡ Some d → (c : RawClause) × ((slice_get cs j ≡ Some c) × (g c ≡ d))
  mapped_at g [] j d e = absurd (cc e)
  mapped_at g (c ∷ cs) zero d e = (c, (refl, cc e))
  mapped_at g (c ∷ cs) (suc j) d e = mapped_at g cs j d e

  -- the kind isn't looked at
  same_lie : (c : RawClause) (j : ℕ) (cs : List RawClause) → list_all (λ b. lies_well b (regions_of c)) (take j (map regions_of cs)) ≡ list_all (λ b. lies_well b (with c)) (take j (map with cs))
  same_lie c zero cs = refl
  same_lie c (suc j) [] = refl
  same_lie c (suc j) (d ∷ cs) = ap (λ b. lies_well (with d) (with c) && b) (same_lie c j cs)

  pub clauses_lie_well : clauses_nest (long_end (pieces_of b.code)) (raw_code z.metadata b).clauses ≡ true
  clauses_lie_well =
      and_from (list_all (lies_in whole) clauses) (lie_well (map regions_of clauses)) (all_within clauses clauses_spell)
      (all_lie_well (map regions_of clauses)
      (λ j d at.
      let c = mapped_at regions_of clauses j d at in
      let h = each_lies j c.0 c.1.0 in
      subst (λ (d : CodeClause). (is_proper d ≡ true) × (list_all (λ b. lies_well b d) (take j (map regions_of clauses)) ≡ true)) c.1.1 (h.1.0, same_lie c.0 j clauses ∙ h.1.1)))
