-- A scan of the machine's clauses finds what is looked for among those that are told.
use Rattle.std.proofs.Common.{◌≡◌, ℕ, zero, suc, Bool, true, false, ◌==◌, List, [], ◌∷◌, length, drop, Option, Some, None, refl, sym, ap, ◌∙◌, subst}
use Rattle.std.specs.Prelude.{if◌then◌else◌, ◌&&◌, ◌||◌, not, slice_get}
use Rattle.board_types.specs.declared.board.TypeAt.{TypeAt}
use Rattle.board_types.specs.declared.board.ClauseAt.{ClauseAt}
use Rattle.machine.specs.Program.{Program, Clause, ClauseKind, Catch, Final, Idle}
use Rattle.machine.specs.Throw.{Scan, scanned, is_final}
use Rattle.machine_rename.specs.Again.{scan_by, after, left_by}
use Rattle.memory_states.specs.Told.{Told, in_try}
use Rattle.memory_states.specs.Values.{id_of}
use Rattle.memory_states.specs.States.{KindIs, ClausesAre}
use Rattle.tiny_except.specs.Clauses.{counts, first_sought}
use Rattle.tiny_except.specs.declared.clauses.Found.{Found}
use Rattle.tiny_except.specs.declared.clauses.Regions.{Regions}
use Rattle.tiny_except.specs.declared.clauses.Goal.TheVariants as goal
use Rattle.tiny_except.proofs.Firsts.{drop_next, drop_at}

-- the next stop of a plan
pub data Turning : Type 0 where
  NoTurn : Turning
  RunFinally : (k : ℕ) → Turning
  TakeCatch : (k : ℕ) → Turning

abbrev pub turn_by : List ℕ → Option ℕ → Turning
turn_by [] None = NoTurn
turn_by [] (Some k) = TakeCatch k
turn_by (k ∷ ks) catch = RunFinally k

abbrev pub turn_of : Scan → Turning
turn_of r = turn_by r.finals r.catch

abbrev pub turn_at : Option Found → Turning
turn_at None = NoTurn
turn_at (Some x) = if x.clause.kind == 0 then TakeCatch x.number else RunFinally x.number

abbrev pub number_of : Option Found → Option ℕ
number_of None = None
number_of (Some x) = Some x.number

abbrev pub first_of : List ℕ → Option ℕ
first_of [] = None
first_of (k ∷ ks) = Some k

-- the test is whether the regions count, for the clauses from the k-th on
abbrev pub Tested : (ℕ → Bool) → Regions → ℕ → List ClauseAt → Type 0
Tested test r k [] = Unit {0}
Tested test r k (c ∷ cs) = (test k ≡ counts r c) × Tested test r (suc k) cs

pub tested : (test : ℕ → Bool) (r : Regions) (all : List ClauseAt) → ((j : ℕ) (c : ClauseAt) → slice_get all j ≡ Some c → test j ≡ counts r c) → (k : ℕ) (cs : List ClauseAt) → drop k all ≡ cs → Tested test r k cs
tested test r all h k [] q = tt
tested test r all h k (c ∷ cs) q = (h k c (drop_at all k c cs q), tested test r all h (suc k) cs (drop_next all k c cs q))

pub clauses_after : (p : Program) (t : Told) (k : ℕ) (cs : List ClauseAt) (ds : List Clause) → ClausesAre p t cs ds → ClausesAre p t (drop k cs) (after k ds)
clauses_after p t zero cs ds h = h
clauses_after p t (suc k) [] [] h = tt
clauses_after p t (suc k) (c ∷ cs) (d ∷ ds) h = clauses_after p t k cs ds h.1
clauses_after p t (suc k) [] (d ∷ ds) h = absurd h
clauses_after p t (suc k) (c ∷ cs) [] h = absurd h

pub same_count : (p : Program) (t : Told) (cs : List ClauseAt) (ds : List Clause) → ClausesAre p t cs ds → length cs ≡ length ds
same_count p t [] [] h = refl
same_count p t (c ∷ cs) (d ∷ ds) h = ap suc (same_count p t cs ds h.1)
same_count p t [] (d ∷ ds) h = absurd h
same_count p t (c ∷ cs) [] h = absurd h

-- the machine's clause of a number
pub record Twin (p : Program) (t : Told) (c : ClauseAt) (ds : List Clause) (k : ℕ) : Type 0 where
  pub clause : Clause
  pub is : slice_get ds k ≡ Some clause
  pub kind : KindIs p t c clause.kind
  pub start : clause.start ≡ c.start

pub twin : (p : Program) (t : Told) (cs : List ClauseAt) (ds : List Clause) → ClausesAre p t cs ds → (k : ℕ) (c : ClauseAt) → slice_get cs k ≡ Some c → Twin p t c ds k
twin p t [] ds h k c e = absurd (cc e)
twin p t (b ∷ cs) [] h k c e = absurd h
twin p t (b ∷ cs) (d ∷ ds) h zero c e =
    let same : b ≡ c = cc e in
    subst (λ (z : ClauseAt). Twin p t z (d ∷ ds) 0) same (record { clause = d; is = refl; kind = h.0.0; start = h.0.1 })
twin p t (b ∷ cs) (d ∷ ds) h (suc k) c e = let w = twin p t cs ds h.1 k c e in record { clause = w.clause; is = w.is; kind = w.kind; start = w.start }

module _ (p : Program) (t : Told) (class : TypeAt) (r : Regions) (test : ℕ → Bool) where
  -- one clause, by what its tests say
  abbrev caught_by : ℕ → ClauseAt → Bool → Bool → Bool → Option Found → Option ℕ
  caught_by k c b z s rest = number_of (if b && (z && s) then Some (let x : Found = record { number = k; clause = c } in x) else rest)

  one_catch : (k : ℕ) (c : ClauseAt) (kind : ClauseKind) → KindIs p t c kind → (b : Bool) (rest : Option Found) (more : Scan) → number_of rest ≡ more.catch → caught_by k c b (c.kind == 0) (t.sub class c.class) rest ≡ (scanned p (id_of class) k b kind more).catch
  one_catch k c kind h false rest more e = e
  one_catch k c Final h true rest more e = ap (λ n. caught_by k c true (n == 0) (t.sub class c.class) rest) h ∙ e
  one_catch k c Idle h true rest more e = ap (λ n. caught_by k c true (n == 0) (t.sub class c.class) rest) h.0 ∙ ap (λ s. caught_by k c true true s rest) (h.1 class) ∙ e
  one_catch k c (Catch d) h true rest more e =
      ap (λ n. caught_by k c true (n == 0) (t.sub class c.class) rest) h.0 ∙ ap (λ s. caught_by k c true true s rest) (sym (h.1 class)) ∙ by (p.is_sub (id_of class) d)
    where
      by : (s : Bool) → caught_by k c true true s rest ≡ (if s then (let z : Scan = record { finals = []; catch = Some k } in z) else more).catch
      by true = refl
      by false = e

  pub catch_is : (k : ℕ) (cs : List ClauseAt) (ds : List Clause) → ClausesAre p t cs ds → Tested test r k cs → number_of (first_sought t (record { regions = r; goal = goal.Catch class }) k cs) ≡ (scan_by p test (id_of class) k ds).catch
  catch_is k [] [] h w = refl
  catch_is k (c ∷ cs) (d ∷ ds) h w =
      ap (λ b. caught_by k c b (c.kind == 0) (t.sub class c.class) (first_sought t (record { regions = r; goal = goal.Catch class }) (suc k) cs)) (sym w.0)
      ∙ one_catch k c d.kind h.0.0 (test k) (first_sought t (record { regions = r; goal = goal.Catch class }) (suc k) cs) (scan_by p test (id_of class) (suc k) ds) (catch_is (suc k) cs ds h.1 w.1)
  catch_is k [] (d ∷ ds) h w = absurd h
  catch_is k (c ∷ cs) [] h w = absurd h

  abbrev stopped_by : ℕ → ClauseAt → Bool → Bool → Bool → Bool → Option Found → Turning
  stopped_by k c b f z s rest = turn_at (if b && (f || (z && s)) then Some (let x : Found = record { number = k; clause = c } in x) else rest)

  one_stop : (k : ℕ) (c : ClauseAt) (kind : ClauseKind) → KindIs p t c kind → (b : Bool) (rest : Option Found) (more : Scan) → turn_at rest ≡ turn_of more → stopped_by k c b (c.kind == 2) (c.kind == 0) (t.sub class c.class) rest ≡ turn_of (scanned p (id_of class) k b kind more)
  one_stop k c kind h false rest more e = e
  one_stop k c Final h true rest more e =
      ap (λ n. stopped_by k c true (n == 2) (c.kind == 0) (t.sub class c.class) rest) h ∙ ap (λ n. if n == 0 then TakeCatch k else RunFinally k) h
  one_stop k c Idle h true rest more e =
      ap (λ n. stopped_by k c true (n == 2) (n == 0) (t.sub class c.class) rest) h.0 ∙ ap (λ s. stopped_by k c true false true s rest) (h.1 class) ∙ e
  one_stop k c (Catch d) h true rest more e =
      ap (λ n. stopped_by k c true (n == 2) (n == 0) (t.sub class c.class) rest) h.0 ∙ ap (λ s. stopped_by k c true false true s rest) (sym (h.1 class)) ∙ by (p.is_sub (id_of class) d)
    where
      by : (s : Bool) → stopped_by k c true false true s rest ≡ turn_of (if s then (let z : Scan = record { finals = []; catch = Some k } in z) else more)
      by true = ap (λ n. if n == 0 then TakeCatch k else RunFinally k) h.0
      by false = e

  pub stop_is : (k : ℕ) (cs : List ClauseAt) (ds : List Clause) → ClausesAre p t cs ds → Tested test r k cs → turn_at (first_sought t (record { regions = r; goal = goal.Stop class }) k cs) ≡ turn_of (scan_by p test (id_of class) k ds)
  stop_is k [] [] h w = refl
  stop_is k (c ∷ cs) (d ∷ ds) h w =
      ap (λ b. stopped_by k c b (c.kind == 2) (c.kind == 0) (t.sub class c.class) (first_sought t (record { regions = r; goal = goal.Stop class }) (suc k) cs)) (sym w.0)
      ∙ one_stop k c d.kind h.0.0 (test k) (first_sought t (record { regions = r; goal = goal.Stop class }) (suc k) cs) (scan_by p test (id_of class) (suc k) ds) (stop_is (suc k) cs ds h.1 w.1)
  stop_is k [] (d ∷ ds) h w = absurd h
  stop_is k (c ∷ cs) [] h w = absurd h

-- the finally blocks that a leave runs
module _ (p : Program) (t : Told) (r : Regions) (target : ℕ) (test : ℕ → Bool) where
  -- the test is whether the regions count and the try doesn't hold the target
  abbrev pub Leaves : ℕ → List ClauseAt → Type 0
  Leaves k [] = Unit {0}
  Leaves k (c ∷ cs) = (test k ≡ (counts r c && not (in_try c target))) × Leaves (suc k) cs

  pub leaves : (all : List ClauseAt) → ((j : ℕ) (c : ClauseAt) → slice_get all j ≡ Some c → test j ≡ (counts r c && not (in_try c target))) → (k : ℕ) (cs : List ClauseAt) → drop k all ≡ cs → Leaves k cs
  leaves all h k [] q = tt
  leaves all h k (c ∷ cs) q = (h k c (drop_at all k c cs q), leaves all h (suc k) cs (drop_next all k c cs q))

  abbrev left_clause : ℕ → ClauseAt → Bool → Bool → Bool → Option Found → Option ℕ
  left_clause k c b f x rest = number_of (if b && (f && x) then Some (let z : Found = record { number = k; clause = c } in z) else rest)

  one_left : (k : ℕ) (c : ClauseAt) (kind : ClauseKind) → KindIs p t c kind → (b x : Bool) (rest : Option Found) (more : List ℕ) → number_of rest ≡ first_of more → left_clause k c b (c.kind == 2) x rest ≡ first_of (if is_final kind && (b && x) then k ∷ more else more)
  one_left k c (Catch d) h false x rest more e = e
  one_left k c (Catch d) h true x rest more e = ap (λ n. left_clause k c true (n == 2) x rest) h.0 ∙ e
  one_left k c Idle h false x rest more e = e
  one_left k c Idle h true x rest more e = ap (λ n. left_clause k c true (n == 2) x rest) h.0 ∙ e
  one_left k c Final h false x rest more e = e
  one_left k c Final h true false rest more e = ap (λ n. left_clause k c true (n == 2) false rest) h ∙ e
  one_left k c Final h true true rest more e = ap (λ n. left_clause k c true (n == 2) true rest) h

  pub left_is : (k : ℕ) (cs : List ClauseAt) (ds : List Clause) → ClausesAre p t cs ds → Leaves k cs → number_of (first_sought t (record { regions = r; goal = goal.Leaving target }) k cs) ≡ first_of (left_by test k ds)
  left_is k [] [] h w = refl
  left_is k (c ∷ cs) (d ∷ ds) h w =
      one_left k c d.kind h.0.0 (counts r c) (not (in_try c target)) (first_sought t (record { regions = r; goal = goal.Leaving target }) (suc k) cs) (left_by test (suc k) ds) (left_is (suc k) cs ds h.1 w.1)
      ∙ ap (λ b. first_of (if is_final d.kind && b then k ∷ left_by test (suc k) ds else left_by test (suc k) ds)) (sym w.0)
  left_is k [] (d ∷ ds) h w = absurd h
  left_is k (c ∷ cs) [] h w = absurd h
