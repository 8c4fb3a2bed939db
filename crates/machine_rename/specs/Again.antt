-- The rest of a plan, searched again from the finally that has ended.
use Rattle.std.specs.Prelude.{◌≡◌, ℕ, zero, suc, ◌<◌, Bool, true, ◌&&◌, not, if◌then◌else◌, List, [], ◌∷◌, Option, None}
use Rattle.machine.specs.Data.{Id, Frame}
use Rattle.machine.specs.Program.{Program, Clause}
use Rattle.machine.specs.Throw.{on_some, Scan, scanned, Route, route_of, search_frames, is_final}

abbrev pub scan_by : Program → (ℕ → Bool) → Id → ℕ → List Clause → Scan
scan_by p test class k [] = record { finals = []; catch = None }
scan_by p test class k (c ∷ cs) = scanned p class k (test k) c.kind (scan_by p test class (suc k) cs)

abbrev pub after : ℕ → List Clause → List Clause
after zero cs = cs
after (suc n) [] = []
after (suc n) (c ∷ cs) = after n cs

-- outer m j k: whether the try of clause j holds the try of clause k
abbrev pub again : Program → (Id → ℕ → ℕ → Bool) → Id → Bool → ℕ → Id → List Frame → Option Route
again p outer id initialiser k class fs =
    on_some (p.method id) (λ m.
    let r = scan_by p (λ j. outer id j k) class (suc k) (after (suc k) m.clauses) in
    route_of initialiser r.finals r.catch (search_frames p class fs))

-- the finally blocks among the clauses from the k-th on that pass the test
abbrev pub left_by : (ℕ → Bool) → ℕ → List Clause → List ℕ
left_by test k [] = []
left_by test k (c ∷ cs) = let rest = left_by test (suc k) cs in if is_final c.kind && test k then k ∷ rest else rest

-- the finally blocks that a leave has still to run behind that of clause k: those round it that don't hold the target
abbrev pub left_again : Program → (Id → ℕ → ℕ → Bool) → Id → ℕ → ℕ → List Clause → List ℕ
left_again p outer id k target clauses =
    left_by (λ j. outer id j k && not (p.try_holds id j target)) (suc k) (after (suc k) clauses)

-- tries lie in one another, or apart
pub record Nested (p : Program) (outer : Id → ℕ → ℕ → Bool) : Type 0 where
  pub at : (m : Id) (j k place : ℕ) → k < j → p.try_holds m k place ≡ true → outer m j k ≡ p.try_holds m j place
  pub up : (m : Id) (i j k : ℕ) → k < j → j < i → outer m j k ≡ true → outer m i j ≡ outer m i k
