-- What is searched again is the rest of the plan.
use Rattle.std.proofs.Common.{◌≡◌, ℕ, zero, suc, ◌<◌, ◌≤◌, Bool, true, false, List, [], ◌∷◌, ◌++◌, map, Option, Some, None, refl, sym, ap, ◌∙◌, subst, arith}
use Rattle.std.specs.Prelude.{if◌then◌else◌}
use Rattle.machine.specs.Data.{Id, Frame, Turn, Finally, EndFrame}
use Rattle.machine.specs.Program.{Program, Method, Clause, ClauseKind, Catch, Final, Idle}
use Rattle.machine.specs.Throw.{on_some, Scan, scanned, scan, Route, route_of, search_frames}
use Rattle.machine_rename.specs.Again.{scan_by, after, again, Nested}

some_same : {A : Type 0} (x y : A) → Some x ≡ Some y → x ≡ y
some_same x y e = cc e

pub after_next : (i : ℕ) (all : List Clause) (c : Clause) (cs : List Clause) → after i all ≡ c ∷ cs → after (suc i) all ≡ cs
after_next zero [] c cs e = absurd (cc e)
after_next zero (d ∷ all) c cs e = cc e
after_next (suc i) [] c cs e = absurd (cc e)
after_next (suc i) (d ∷ all) c cs e = after_next i all c cs e

module _ (p : Program) where
  pub scan_same : (m : Id) (place : ℕ) (class : Id) (k : ℕ) (cs : List Clause) → scan p m place class k cs ≡ scan_by p (λ j. p.try_holds m j place) class k cs
  scan_same m place class k [] = refl
  scan_same m place class k (c ∷ cs) = ap (scanned p class k (p.try_holds m k place) c.kind) (scan_same m place class (suc k) cs)

  agrees : (test other : ℕ → Bool) (class : Id) (k : ℕ) → ((j : ℕ) → k < j → other j ≡ test j) → (i : ℕ) → k < i → (cs : List Clause) → scan_by p other class i cs ≡ scan_by p test class i cs
  agrees test other class k h i lt [] = refl
  agrees test other class k h i lt (c ∷ cs) =
      ap (λ b. scanned p class i b c.kind (scan_by p other class (suc i) cs)) (h i lt)
      ∙ ap (scanned p class i (test i) c.kind) (agrees test other class k h (suc i) (omega arith) cs)

  -- behind its first finally a scan is the scan from there on
  record Tail (test : ℕ → Bool) (class : Id) (all : List Clause) (i k : ℕ) (ks : List ℕ) (catch : Option ℕ) : Type 0 where
    from : i ≤ k
    held : test k ≡ true
    rest : scan_by p test class (suc k) (after (suc k) all) ≡ record { finals = ks; catch = catch }

  tail_of : (test : ℕ → Bool) (class : Id) (all : List Clause) (i : ℕ) (cs : List Clause) → after i all ≡ cs → (k : ℕ) (ks : List ℕ) → (scan_by p test class i cs).finals ≡ k ∷ ks → Tail test class all i k ks (scan_by p test class i cs).catch
  tail_of test class all i [] e k ks h = absurd (cc h)
  tail_of test class all i (c ∷ cs) e k ks h = by_test (test i) refl c.kind refl (λ g. tail_of test class all (suc i) cs (after_next i all c cs e) k ks g) h
    where
      rest : Scan
      rest = scan_by p test class (suc i) cs

      later : (rest.finals ≡ k ∷ ks → Tail test class all (suc i) k ks rest.catch) → rest.finals ≡ k ∷ ks → Tail test class all i k ks rest.catch
      later ih g = let y = ih g in record { from = let z = y.from in omega arith; held = y.held; rest = y.rest }

      by_sub : (b : Bool) → (rest.finals ≡ k ∷ ks → Tail test class all (suc i) k ks rest.catch) → (if b then (let z : Scan = record { finals = []; catch = Some i } in z) else rest).finals ≡ k ∷ ks → Tail test class all i k ks (if b then (let z : Scan = record { finals = []; catch = Some i } in z) else rest).catch
      by_sub true ih g = absurd (cc g)
      by_sub false ih g = later ih g

      by_test : (b : Bool) → test i ≡ b → (kind : ClauseKind) → c.kind ≡ kind → (rest.finals ≡ k ∷ ks → Tail test class all (suc i) k ks rest.catch) → (scanned p class i b kind rest).finals ≡ k ∷ ks → Tail test class all i k ks (scanned p class i b kind rest).catch
      by_test false t kind q ih g = later ih g
      by_test true t (Catch d) q ih g = by_sub (p.is_sub class d) ih g
      by_test true t Idle q ih g = later ih g
      by_test true t Final q ih g =
          let same : i ≡ k = cc g in
          let finals : rest.finals ≡ ks = cc g in
          record {
            from = omega arith;
            held = subst (λ n. test n ≡ true) same t;
            rest =
                subst (λ n. scan_by p test class (suc n) (after (suc n) all) ≡ record { finals = ks; catch = rest.catch }) same
                (ap (scan_by p test class (suc i)) (after_next i all c cs e) ∙ ap (λ ns. let z : Scan = record { finals = ns; catch = rest.catch } in z) finals);
          }

  -- a way whose first turn is a finally
  first_final : (initialiser : Bool) (r : Scan) (o : Option Route) (k : ℕ) (turns : List Turn) (catch : ℕ) → route_of initialiser r.finals r.catch o ≡ Some (record { turns = Finally k ∷ turns; catch = catch }) → (ks : List ℕ) × (r.finals ≡ k ∷ ks) × (route_of initialiser ks r.catch o ≡ Some (record { turns = turns; catch = catch }))
  first_final initialiser r o k turns catch e = at r.finals refl r.catch initialiser o e
    where
      made : List Turn → ℕ → Option Route
      made ts q = Some (record { turns = ts; catch = q })

      -- the two parts of a way
      parts : (n : ℕ) (ts : List Turn) (q : ℕ) → made (Finally n ∷ ts) q ≡ made (Finally k ∷ turns) catch → (n ≡ k) × (ts ≡ turns) × (q ≡ catch)
      parts n ts q e =
          let lists : Finally n ∷ ts ≡ Finally k ∷ turns = ap (λ (w : Route). w.turns) (some_same _ _ e) in
          let ends : q ≡ catch = ap (λ (w : Route). w.catch) (some_same _ _ e) in
          let heads : n ≡ k = cc lists in
          let tails : ts ≡ turns = cc lists in
          (heads, tails, ends)

      no_end : (ts : List Turn) (q : ℕ) → made (EndFrame ∷ ts) q ≡ made (Finally k ∷ turns) catch → ⊥
      no_end ts q e = let lists : EndFrame ∷ ts ≡ Finally k ∷ turns = ap (λ (w : Route). w.turns) (some_same _ _ e) in cc lists

      no_nil : (q : ℕ) → made [] q ≡ made (Finally k ∷ turns) catch → ⊥
      no_nil q e = let lists : [] ≡ Finally k ∷ turns = ap (λ (w : Route). w.turns) (some_same _ _ e) in cc lists

      at : (ns : List ℕ) → r.finals ≡ ns → (c : Option ℕ) (b : Bool) (o : Option Route) → route_of b ns c o ≡ Some (record { turns = Finally k ∷ turns; catch = catch }) → (ks : List ℕ) × (r.finals ≡ k ∷ ks) × (route_of b ks c o ≡ Some (record { turns = turns; catch = catch }))
      at [] q (Some x) b o e = absurd (no_nil x e)
      at [] q None true o e = absurd (cc e)
      at [] q None false None e = absurd (cc e)
      at [] q None false (Some w) e = absurd (no_end w.turns w.catch e)
      at (n ∷ ns) q (Some x) b o e =
          let y = parts n (map Finally ns) x e in (ns, q ∙ ap (λ z. z ∷ ns) y.0, ap (λ ts. made ts x) y.1 ∙ ap (made turns) y.2)
      at (n ∷ ns) q None true o e = absurd (cc e)
      at (n ∷ ns) q None false None e = absurd (cc e)
      at (n ∷ ns) q None false (Some w) e =
          let y = parts n (map Finally ns ++ EndFrame ∷ w.turns) w.catch e in (ns, q ∙ ap (λ z. z ∷ ns) y.0, ap (λ ts. made ts w.catch) y.1 ∙ ap (made turns) y.2)

  module _ (outer : Id → ℕ → ℕ → Bool) (nested : Nested p outer) (class : Id) (fs : List Frame) (id : Id) (m : Method) (is : p.method id ≡ Some m) (initialiser : Bool) where
    -- from any scan on
    go_on : (test : ℕ → Bool) (i : ℕ) (cs : List Clause) → after i m.clauses ≡ cs → ((k : ℕ) → i ≤ k → test k ≡ true → (j : ℕ) → k < j → outer id j k ≡ test j) → (k : ℕ) (turns : List Turn) (catch : ℕ) → route_of initialiser (scan_by p test class i cs).finals (scan_by p test class i cs).catch (search_frames p class fs) ≡ Some (record { turns = Finally k ∷ turns; catch = catch }) → again p outer id initialiser k class fs ≡ Some (record { turns = turns; catch = catch })
    go_on test i cs e same k turns catch h =
        let x = first_final initialiser (scan_by p test class i cs) (search_frames p class fs) k turns catch h in
        let y = tail_of test class m.clauses i cs e k x.0 x.1 in
        let z = agrees test (λ j. outer id j k) class k (same k y.from y.held) (suc k) (omega arith) (after (suc k) m.clauses) ∙ y.rest in
        subst (λ o. on_some o (λ m. route_of initialiser (scan_by p (λ j. outer id j k) class (suc k) (after (suc k) m.clauses)).finals (scan_by p (λ j. outer id j k) class (suc k) (after (suc k) m.clauses)).catch (search_frames p class fs)) ≡ Some (record { turns = turns; catch = catch })) (sym is)
        (subst (λ (s : Scan). route_of initialiser s.finals s.catch (search_frames p class fs) ≡ Some (record { turns = turns; catch = catch })) (sym z) x.2)

    -- after the first finally of a throw
    pub again_first : (place : ℕ) (k : ℕ) (turns : List Turn) (catch : ℕ) → route_of initialiser (scan p id place class 0 m.clauses).finals (scan p id place class 0 m.clauses).catch (search_frames p class fs) ≡ Some (record { turns = Finally k ∷ turns; catch = catch }) → again p outer id initialiser k class fs ≡ Some (record { turns = turns; catch = catch })
    again_first place k turns catch h =
        go_on (λ j. p.try_holds id j place) 0 m.clauses refl (λ k le held j lt. nested.at id j k place lt held) k turns catch
        (subst (λ (s : Scan). route_of initialiser s.finals s.catch (search_frames p class fs) ≡ Some (record { turns = Finally k ∷ turns; catch = catch })) (scan_same id place class 0 m.clauses) h)

    -- after a later one
    pub again_next : (k l : ℕ) (turns : List Turn) (catch : ℕ) → again p outer id initialiser k class fs ≡ Some (record { turns = Finally l ∷ turns; catch = catch }) → again p outer id initialiser l class fs ≡ Some (record { turns = turns; catch = catch })
    again_next k l turns catch h =
        go_on (λ j. outer id j k) (suc k) (after (suc k) m.clauses) refl (λ n le held j lt. nested.up id j n k (omega arith) lt held) l turns catch
        (subst (λ o. on_some o (λ m. route_of initialiser (scan_by p (λ j. outer id j k) class (suc k) (after (suc k) m.clauses)).finals (scan_by p (λ j. outer id j k) class (suc k) (after (suc k) m.clauses)).catch (search_frames p class fs)) ≡ Some (record { turns = Finally l ∷ turns; catch = catch })) is h)
