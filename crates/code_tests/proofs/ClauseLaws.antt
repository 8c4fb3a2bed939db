-- 44 clause by clause.
use Rattle.std.proofs.Common.{◌≡◌, ℕ, zero, suc, ◌+◌, ◌≤◌, Bool, true, false, cond, List, [], ◌∷◌, length, map, take, drop, get_or, Option, Some, None, refl, sym, ap, ◌∙◌, arith}
use Rattle.std.specs.Prelude.{◌&&◌, ◌||◌, nat_eq, slice_get, if◌then◌else◌}
use Rattle.std.specs.List.{list_all}
use Rattle.std.specs.Option.{option_map}
use Rattle.std.proofs.lemmas.List.{take-map, drop_all}
use Rattle.std.proofs.lemmas.List.Folds.{list_all-map}
use Rattle.std.proofs.lemmas.Option.{slice_get-map, get_or_from_slice_get}
use Rattle.cil_code.specs.declared.clause.Clause.{Clause}
use Rattle.cil_code.specs.Bodies.{BodyPart}
use Rattle.cil_code.specs.Walk.{starts_of}
use Rattle.file_tables.specs.File.{FilePart}
use Rattle.classes.specs.Code.{CodeClause}
use Rattle.classes.specs.Clauses.{is_proper, lies_well}
use Rattle.assemblies.specs.Rows.{RawClause}
use Rattle.assemblies.specs.Binding.{numbered, clause_with}
use Rattle.world_rows.specs.Lines.{raw_clause}
use Rattle.code_rules.specs.Pass.{Step}
use Rattle.code_rules.specs.Judgement as judgement
use Rattle.verdict_rules.specs.Order.{Test, test_at}
use Rattle.verdict_rules.specs.World.{World}
use Rattle.verdict_rules.specs.Code.{clause_well, clause_test}
use Rattle.code_places.specs.Among.{is_among}
use Rattle.code_places.specs.Places.{end_of}
use Rattle.code_places.specs.Clauses.{clause_seen, is_bound, stands_on_starts}
use Rattle.code_tests.specs.Tests.{first_broken, handles_well, clause_meant, clause_keeps, first_wrong}

both_by : {A B C : Type 0} (f : A → B → C) {a d : A} {b e : B} → a ≡ d → b ≡ e → f a b ≡ f d e
both_by f {a} {d} {b} {e} p q = ap (λ z. f z b) p ∙ ap (f d) q

abbrev pub wrong_test : Option ℕ → Option Test
wrong_test o = option_map (λ at. test_at 44 at false) o

wrong_step : (at : ℕ) (later : Option ℕ) (t g : Bool) → t ≡ g → (rest : Option Test) → rest ≡ wrong_test later → cond t rest (Some (test_at 44 at t)) ≡ wrong_test (if g then later else Some at)
wrong_step at later true true e rest h = h
wrong_step at later false false e rest h = refl
wrong_step at later true false e rest h = absurd cc
wrong_step at later false true e rest h = absurd cc

module _ (w : World) (file : ℕ) (x : FilePart) (b : BodyPart) (all : List Step) (starts : (n : ℕ) → judgement.is_start all n ≡ is_among (starts_of b.code) n) (ends : judgement.end_of all ≡ end_of b.code) where
  abbrev pub meant : List Clause → List CodeClause
  meant cs = map (clause_with w.size w.rows file) (map (raw_clause x.metadata) cs)

  bound : (n : ℕ) → judgement.is_bound all n ≡ is_bound b.code n
  bound n = both_by (λ s t. s || t) (starts n) (ap (nat_eq n) ends)

  on_starts : (c : Clause) → judgement.on_starts all (clause_meant w file x c) ≡ stands_on_starts b.code (clause_seen c)
  on_starts c = both_by (λ s t. s && t) (starts c.start) (both_by (λ s t. s && t) (starts c.try_start) (both_by (λ s t. s && t) (bound c.try_end) (bound c.end)))

  before : (n : ℕ) (cs : List Clause) (c : Clause) → list_all (λ d. lies_well d (clause_meant w file x c)) (take n (meant cs)) ≡ list_all (λ d. lies_well d (clause_seen c)) (map clause_seen (take n cs))
  before n cs c =
      ap (list_all (λ d. lies_well d (clause_meant w file x c))) (take-map (clause_with w.size w.rows file) n (map (raw_clause x.metadata) cs) ∙ ap (map (clause_with w.size w.rows file)) (take-map (raw_clause x.metadata) n cs))
      ∙ list_all-map (λ d. lies_well d (clause_meant w file x c)) (clause_with w.size w.rows file) (map (raw_clause x.metadata) (take n cs))
      ∙ list_all-map (λ (r : RawClause). lies_well (clause_with w.size w.rows file r) (clause_meant w file x c)) (raw_clause x.metadata) (take n cs)
      ∙ sym (list_all-map (λ d. lies_well d (clause_seen c)) clause_seen (take n cs))

  module _ (handled : List Bool) (told : handled ≡ map (handles_well w file x) b.clauses) where
    handles : (n : ℕ) (c : Clause) → slice_get b.clauses n ≡ Some c → handles_well w file x c ≡ get_or handled n false
    handles n c there =
        sym
        (ap (λ hs. get_or hs n false) told
        ∙ get_or_from_slice_get (map (handles_well w file x) b.clauses) n (handles_well w file x c) false (slice_get-map (handles_well w file x) b.clauses n ∙ ap (option_map (handles_well w file x)) there))

    keeps : (n : ℕ) (c : Clause) → slice_get b.clauses n ≡ Some c → clause_well w all (take n (meant b.clauses)) (clause_meant w file x c) ≡ clause_keeps handled b n c
    keeps n c there = both_by (λ s t. s && t) (handles n c there) (both_by (λ s t. s && t) (on_starts c) (ap (λ t. is_proper (clause_seen c) && t) (before n b.clauses c)))

    -- clauses that stand from a number on
    clauses_from : (n : ℕ) (cs : List Clause) → ((i : ℕ) → slice_get cs i ≡ slice_get b.clauses (n + i)) → first_broken (numbered (clause_test w all (meant b.clauses)) n (meant cs)) ≡ wrong_test (first_wrong (clause_keeps handled b) n cs)
    clauses_from n [] stand = refl
    clauses_from n (c ∷ cs) stand =
        let here : n + 0 ≡ n = omega arith in
        wrong_step c.try_start (first_wrong (clause_keeps handled b) (suc n) cs) (clause_well w all (take n (meant b.clauses)) (clause_meant w file x c)) (clause_keeps handled b n c) (keeps n c (sym (stand 0 ∙ ap (slice_get b.clauses) here)))
        (first_broken (numbered (clause_test w all (meant b.clauses)) (suc n) (meant cs)))
        (clauses_from (suc n) cs (λ i. let next : n + suc i ≡ suc n + i = omega arith in stand (suc i) ∙ ap (slice_get b.clauses) next))

    pub clause_law : first_broken (numbered (clause_test w all (meant b.clauses)) 0 (meant b.clauses)) ≡ wrong_test (first_wrong (clause_keeps handled b) 0 b.clauses)
    clause_law = clauses_from 0 b.clauses (λ i. let same : i ≡ 0 + i = omega arith in ap (slice_get b.clauses) same)

-- ---- one after the other

drop_at : {A : Type 0} (xs : List A) (n : ℕ) (x : A) → slice_get xs n ≡ Some x → drop n xs ≡ x ∷ drop (suc n) xs
drop_at [] n x e = absurd cc
drop_at (y ∷ ys) zero x e = let same : y ≡ x = cc in ap (λ z. z ∷ ys) same
drop_at (y ∷ ys) (suc n) x e = drop_at ys n x e

module _ (keep : ℕ → Clause → Bool) (cs : List Clause) (whole : Option ℕ) (n : ℕ) where
  next : (c : Clause) (t : Bool) → slice_get cs n ≡ Some c → keep n c ≡ t → first_wrong keep n (drop n cs) ≡ (if t then first_wrong keep (suc n) (drop (suc n) cs) else Some c.try_start)
  next c t there e = ap (first_wrong keep n) (drop_at cs n c there) ∙ ap (λ b. if b then first_wrong keep (suc n) (drop (suc n) cs) else Some c.try_start) e

  pub wrong_on : (c : Clause) → slice_get cs n ≡ Some c → keep n c ≡ true → first_wrong keep n (drop n cs) ≡ whole → first_wrong keep (n + 1) (drop (n + 1) cs) ≡ whole
  wrong_on c there e h =
      let one : n + 1 ≡ suc n = omega arith in
      ap (λ k. first_wrong keep k (drop k cs)) one ∙ sym (next c true there e) ∙ h

  pub wrong_here : (c : Clause) → slice_get cs n ≡ Some c → keep n c ≡ false → first_wrong keep n (drop n cs) ≡ whole → Some c.try_start ≡ whole
  wrong_here c there e h = sym (next c false there e) ∙ h

  pub wrong_none : length cs ≤ n → first_wrong keep n (drop n cs) ≡ whole → None ≡ whole
  wrong_none past h = sym (ap (first_wrong keep n) (drop_all n cs past)) ∙ h
