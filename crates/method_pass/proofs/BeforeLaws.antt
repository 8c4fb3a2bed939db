-- What the tests before the pass give: 41 to 44 are kept.
use Rattle.std.proofs.Common.{◌≡◌, ℕ, suc, Bool, true, false, cond, List, [], ◌∷◌, map, Option, Some, None, Ok, refl, sym, ap, subst, ◌∙◌}
use Rattle.std.specs.Prelude.{◌&&◌, ◌||◌, not, nat_eq, slice_index_or, if◌then◌else◌}
use Rattle.std.specs.List.{find, list_all}
use Rattle.std.specs.Option.{option_map}
use Rattle.std.proofs.lemmas.Bool.{eqb-true}
use Rattle.cil_code.specs.declared.clause.Clause.{Clause}
use Rattle.cil_code.specs.declared.fault.CodeFault.{CodeFault}
use Rattle.cil_code.specs.declared.instructions.Instr.{Instr}
use Rattle.cil_code.specs.Bodies.{BodyPart}
use Rattle.cil_code.specs.Instructions.{instruction_at}
use Rattle.cil_code.specs.Walk.{Placed, code_fault, instructions_of, starts_of}
use Rattle.file_tables.specs.File.{FilePart}
use Rattle.machine.specs.Program.{Method}
use Rattle.classes.specs.Clauses.{is_proper}
use Rattle.verdict_rules.specs.World.{World}
use Rattle.code_places.specs.Among.{is_among}
use Rattle.code_places.specs.Places.{first_astray, goes_well}
use Rattle.code_places.specs.Clauses.{clause_seen, stands_on_starts}
use Rattle.code_places.proofs.Table.{both}
use Rattle.code_tests.specs.Tests.{clause_keeps, first_broken, first_wrong, handles_well, tests_before}
use Rattle.code_tests.proofs.TestLaws.{told, whole}
use Rattle.pass_steps.proofs.PlaceLaws.{found_stands}

nothing_told : (fault : Option CodeFault) (astray clause : Option ℕ) → told fault astray clause ≡ None → (fault ≡ None) × (astray ≡ None) × (clause ≡ None)
nothing_told (Some fault) astray clause e = absurd (cc e)
nothing_told None (Some at) clause e = absurd (cc e)
nothing_told None None (Some at) e = absurd (cc e)
nothing_told None None None e = (refl, refl, refl)

not_mapped : {A B : Type 0} (f : A → B) (o : Option A) → option_map f o ≡ None → o ≡ None
not_mapped f None e = refl
not_mapped f (Some a) e = absurd (cc e)

or_true : (b rest : Bool) → b ≡ false → (b || rest) ≡ true → rest ≡ true
or_true true rest off e = absurd (cc off)
or_true false rest off e = e

-- ---- 43

abbrev offsets : List Placed → List ℕ
offsets ps = map (λ (p : Placed). p.at) ps

record Goes (code : List ℕ) (ps : List Placed) (n : ℕ) : Type 0 where
  p : Placed
  there : find (λ (q : Placed). nat_eq q.at n) ps ≡ Some p
  here : p.at ≡ n
  goes : goes_well code p ≡ true

module _ (code : List ℕ) where
  goes_by : (p : Placed) (ps : List Placed) (n : ℕ) (g b : Bool) → goes_well code p ≡ g → nat_eq p.at n ≡ b → cond (not g) (Some p) (find (λ q. not (goes_well code q)) ps) ≡ None → (b ≡ false → is_among (offsets ps) n ≡ true) → (find (λ q. not (goes_well code q)) ps ≡ None → is_among (offsets ps) n ≡ true → Goes code ps n) → Goes code (p ∷ ps) n
  goes_by p ps n false b e same h later go = absurd (cc h)
  goes_by p ps n true true e same h later go = record {
    p = p;
    there = ap (λ b. cond b (Some p) (find (λ (q : Placed). nat_eq q.at n) ps)) same;
    here = eqb-true p.at n same;
    goes = e;
  }
  goes_by p ps n true false e same h later go =
      let r = go h (later refl) in
      record {
        p = r.p;
        there = ap (λ b. cond b (Some p) (find (λ (q : Placed). nat_eq q.at n) ps)) same ∙ r.there;
        here = r.here;
        goes = r.goes;
      }

  none_astray : (ps : List Placed) (n : ℕ) → find (λ p. not (goes_well code p)) ps ≡ None → is_among (offsets ps) n ≡ true → Goes code ps n
  none_astray [] n h e = absurd (cc e)
  none_astray (p ∷ ps) n h e =
      goes_by p ps n (goes_well code p) (nat_eq p.at n) refl refl h (λ other. or_true (nat_eq p.at n) (is_among (offsets ps) n) other e) (none_astray ps n)

  pub goes_kept : first_astray code ≡ None → (at : ℕ) (instr : Instr) → is_among (starts_of code) at ≡ true → instruction_at code at ≡ Ok instr → goes_well code (record { at = at; instr = instr }) ≡ true
  goes_kept h at instr e stands =
      let r = none_astray (instructions_of code) at (not_mapped (λ (p : Placed). p.at) (find (λ p. not (goes_well code p)) (instructions_of code)) h) e in
      let it : Ok r.p.instr ≡ Ok instr = sym (found_stands code at r.p r.there) ∙ (ap (instruction_at code) r.here ∙ stands) in
      let instr_is : r.p.instr ≡ instr = cc it in
      let placed_is : Path Placed r.p (record { at = at; instr = instr }) = ap (λ n. record { at = n; instr = r.p.instr }) r.here ∙ ap (λ i. record { at = at; instr = i }) instr_is in
      subst (λ q. goes_well code q ≡ true) placed_is r.goes

-- ---- 44

module _ (handled : List Bool) (b : BodyPart) where
  proper_by : (n : ℕ) (c : Clause) (cs : List Clause) (k : Bool) → clause_keeps handled b n c ≡ k → (if k then first_wrong (clause_keeps handled b) (suc n) cs else Some c.try_start) ≡ None → (is_proper (clause_seen c) ≡ true) × (first_wrong (clause_keeps handled b) (suc n) cs ≡ None)
  proper_by n c cs true e h =
      let s = (both (slice_index_or handled n false) _ e).1 in
      let p = (both (stands_on_starts b.code (clause_seen c)) _ s).1 in
      ((both (is_proper (clause_seen c)) _ p).0, h)
  proper_by n c cs false e h = absurd (cc h)

  proper_from : (n : ℕ) (cs : List Clause) → first_wrong (clause_keeps handled b) n cs ≡ None → list_all is_proper (map clause_seen cs) ≡ true
  proper_from n [] h = refl
  proper_from n (c ∷ cs) h =
      let r = proper_by n c cs (clause_keeps handled b n c) refl h in
      ap (λ t. t && list_all is_proper (map clause_seen cs)) r.0 ∙ proper_from (suc n) cs r.1

-- ---- all of them

pub record AreKept (b : BodyPart) : Type 0 where
  pub fault : code_fault b.code ≡ None
  pub goes : (at : ℕ) (instr : Instr) → is_among (starts_of b.code) at ≡ true → instruction_at b.code at ≡ Ok instr → goes_well b.code (record { at = at; instr = instr }) ≡ true
  pub proper : list_all is_proper (map clause_seen b.clauses) ≡ true

pub are_kept : (w : World) (file : ℕ) (x : FilePart) (m : Method) (b : BodyPart) → first_broken (tests_before w file x m b) ≡ None → AreKept b
are_kept w file x m b e =
    let handled = map (handles_well w file x) b.clauses in
    let n = nothing_told (code_fault b.code) (first_astray b.code) (first_wrong (clause_keeps handled b) 0 b.clauses) (whole w file x m b handled refl (code_fault b.code) (first_astray b.code) (first_wrong (clause_keeps handled b) 0 b.clauses) refl refl refl ∙ e) in
    record { fault = n.0; goes = goes_kept b.code n.1; proper = proper_from handled b 0 b.clauses n.2 }
