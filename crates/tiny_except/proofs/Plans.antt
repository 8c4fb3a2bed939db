-- The machine's plan, and the search over a memory that stands for its state.
use Rattle.std.specs.Int.{w32, cast_unsigned}
use Rattle.std.proofs.Common.{◌≡◌, ℕ, suc, Bool, true, false, not, ◌==◌, List, [], ◌∷◌, ◌++◌, map, drop, Option, Some, None, refl, sym, ap, ◌∙◌}
use Rattle.std.specs.Prelude.{◌||◌, ◌&&◌, slice_get, is_some}
use Rattle.std.proofs.lemmas.Int.{of_z-to_z}
use Rattle.board_types.specs.declared.board.TypeAt.{TypeAt}
use Rattle.board_types.specs.declared.board.ClauseAt.{ClauseAt}
use Rattle.machine.specs.Data.{Id, Thing, Turn, Finally, EndFrame, Frame}
use Rattle.machine.specs.Program.{Program, Method, ClauseKind, Catch, Final, Idle}
use Rattle.machine.specs.Throw.{on_some, Scan, scan, Route, route_of, search_frames, is_final}
use Rattle.machine_rename.specs.Again.{scan_by, after}
use Rattle.machine_rename.proofs.AgainLaws.{scan_same}
use Rattle.tiny_ram.specs.Memory.{RamFrame}
use Rattle.memory_states.specs.Told.{Told, in_try, is_round}
use Rattle.memory_states.specs.Values.{id_of}
use Rattle.memory_states.specs.States.{KindIs, ClausesAre, Tells, IsMachineFrame, AreFrames}
use Rattle.tiny_except.specs.declared.clauses.Found.{Found}
use Rattle.tiny_except.specs.declared.clauses.Regions.TheVariants.{Try, Round}
use Rattle.tiny_except.specs.declared.clauses.Goal.TheVariants as goal
use Rattle.tiny_except.specs.Unwinding.{code_place, stop_in, fits}
use Rattle.tiny_except.proofs.Scans.{NoTurn, RunFinally, TakeCatch, turn_by, turn_of, turn_at, number_of, Tested, tested, clauses_after, catch_is, stop_is}

some_same : {A : Type 0} (x y : A) → Some x ≡ Some y → x ≡ y
some_same x y e = cc e

-- ---- the forms of a route

pub no_turn : (finals : List ℕ) (catch : Option ℕ) → NoTurn ≡ turn_by finals catch → (finals ≡ []) × (catch ≡ None)
no_turn [] None e = (refl, refl)
no_turn [] (Some k) e = absurd (cc e)
no_turn (k ∷ ks) catch e = absurd (cc e)

pub catch_turn : (n : ℕ) (finals : List ℕ) (catch : Option ℕ) → TakeCatch n ≡ turn_by finals catch → (finals ≡ []) × (catch ≡ Some n)
catch_turn n [] None e = absurd (cc e)
catch_turn n [] (Some k) e = let same : n ≡ k = cc e in (refl, ap Some (sym same))
catch_turn n (k ∷ ks) catch e = absurd (cc e)

pub final_turn : (n : ℕ) (finals : List ℕ) (catch : Option ℕ) → RunFinally n ≡ turn_by finals catch → (ks : List ℕ) × (finals ≡ n ∷ ks)
final_turn n [] None e = absurd (cc e)
final_turn n [] (Some k) e = absurd (cc e)
final_turn n (k ∷ ks) catch e = let same : n ≡ k = cc e in (ks, ap (λ z. z ∷ ks) (sym same))

-- a frame without a stop ends
pub ended_route : (i : Bool) (rest : Option Route) (r : Route) → route_of i [] None rest ≡ Some r → (q : Route) × (rest ≡ Some q) × (r ≡ record { turns = EndFrame ∷ q.turns; catch = q.catch })
ended_route true rest r e = absurd (cc e)
ended_route false None r e = absurd (cc e)
ended_route false (Some q) r e = (q, refl, sym (some_same _ r e))

-- the first finally of a frame is the first turn
pub final_route : (i : Bool) (n : ℕ) (ks : List ℕ) (catch : Option ℕ) (rest : Option Route) (r : Route) → route_of i (n ∷ ks) catch rest ≡ Some r → (ts : List Turn) × (r.turns ≡ Finally n ∷ ts)
final_route i n ks (Some k) rest r e = (map Finally ks, ap (λ (z : Route). z.turns) (sym (some_same _ r e)))
final_route true n ks None rest r e = absurd (cc e)
final_route false n ks None None r e = absurd (cc e)
final_route false n ks None (Some q) r e = (map Finally ks ++ EndFrame ∷ q.turns, ap (λ (z : Route). z.turns) (sym (some_same _ r e)))

is_some_route : (i : Bool) (finals : List ℕ) (catch : Option ℕ) (rest : Option Route) → is_some (route_of i finals catch rest) ≡ (is_some catch || (not i && is_some rest))
is_some_route i finals (Some k) rest = refl
is_some_route true finals None rest = refl
is_some_route false finals None None = refl
is_some_route false finals None (Some q) = refl

some_number : (o : Option Found) → is_some (number_of o) ≡ is_some o
some_number None = refl
some_number (Some x) = refl

pub final_by : (p : Program) (t : Told) (c : ClauseAt) (kind : ClauseKind) (b : Bool) → KindIs p t c kind → (c.kind == 0) ≡ b → is_final kind ≡ not b
final_by p t c Final b h q = ap not (sym (ap (λ n. n == 0) h) ∙ q)
final_by p t c (Catch class) b h q = ap not (sym (ap (λ n. n == 0) h.0) ∙ q)
final_by p t c Idle b h q = ap not (sym (ap (λ n. n == 0) h.0) ∙ q)

-- ---- one frame

module _ (p : Program) (t : Told) (outer : Id → ℕ → ℕ → Bool) (tells : Tells t p outer) (heap : List Thing) (room : ℕ) where
  pub clauses_are : (f : RamFrame) (fs : List RamFrame) (g : Frame) (gs : List Frame) (k : IsMachineFrame p outer heap room f fs g gs) → ClausesAre p t (t.clauses f.method) k.of.clauses
  clauses_are f fs g gs k = tells.clauses f.method k.of (ap p.method k.method ∙ k.is)

  pub place_is : (f : RamFrame) (fs : List RamFrame) (g : Frame) (gs : List Frame) (k : IsMachineFrame p outer heap room f fs g gs) → code_place f ≡ g.place
  place_is f fs g gs k = ap (cast_unsigned w32) k.place ∙ of_z-to_z w32 g.place k.place_fits

  abbrev pub EndedIs : Option Found → RamFrame → Type 0
  EndedIs None f = Unit {0}
  EndedIs (Some e) f = slice_get (t.clauses f.method) e.number ≡ Some e.clause

  pub tries_are : (f : RamFrame) (fs : List RamFrame) (g : Frame) (gs : List Frame) (k : IsMachineFrame p outer heap room f fs g gs) (place j : ℕ) (c : ClauseAt) → slice_get (t.clauses f.method) j ≡ Some c → p.try_holds g.method j place ≡ in_try c place
  tries_are f fs g gs k place j c e = ap (λ (i : Id). p.try_holds i j place) (sym k.method) ∙ tells.tries f.method j c e place

  pub rounds_are : (f : RamFrame) (fs : List RamFrame) (g : Frame) (gs : List Frame) (k : IsMachineFrame p outer heap room f fs g gs) (x : Found) → EndedIs (Some x) f → (j : ℕ) (c : ClauseAt) → slice_get (t.clauses f.method) j ≡ Some c → outer g.method j x.number ≡ is_round c x.clause
  rounds_are f fs g gs k x h j c e = ap (λ (i : Id). outer i j x.number) (sym k.method) ∙ tells.rounds f.method j x.number c x.clause e h

  module _ (class : TypeAt) where
    abbrev pub scan_in : Option Found → Frame → Method → Scan
    scan_in None g m = scan p g.method g.place (id_of class) 0 m.clauses
    scan_in (Some e) g m = scan_by p (λ j. outer g.method j e.number) (id_of class) (suc e.number) (after (suc e.number) m.clauses)

    -- both searches of a frame find what the machine's scan finds
    pub record IsFoundBy (f : RamFrame) (ended : Option Found) (z : Scan) : Type 0 where
      pub catch : number_of (stop_in t (goal.Catch class) ended f) ≡ z.catch
      pub stop : turn_at (stop_in t (goal.Stop class) ended f) ≡ turn_of z

    pub found_by : (f : RamFrame) (fs : List RamFrame) (g : Frame) (gs : List Frame) (k : IsMachineFrame p outer heap room f fs g gs) (ended : Option Found) → EndedIs ended f → IsFoundBy f ended (scan_in ended g k.of)
    found_by f fs g gs k None h =
        let test : ℕ → Bool = λ j. p.try_holds g.method j g.place in
        let tests : Tested test (Try (code_place f)) 0 (t.clauses f.method) =
        tested test (Try (code_place f)) (t.clauses f.method) (λ j c e. tries_are f fs g gs k g.place j c e ∙ ap (in_try c) (sym (place_is f fs g gs k))) 0 (t.clauses f.method) refl in
        let same : scan_by p test (id_of class) 0 k.of.clauses ≡ scan p g.method g.place (id_of class) 0 k.of.clauses = sym (scan_same p g.method g.place (id_of class) 0 k.of.clauses) in
        record {
          catch = catch_is p t class (Try (code_place f)) test 0 (t.clauses f.method) k.of.clauses (clauses_are f fs g gs k) tests ∙ ap (λ (z : Scan). z.catch) same;
          stop = stop_is p t class (Try (code_place f)) test 0 (t.clauses f.method) k.of.clauses (clauses_are f fs g gs k) tests ∙ ap turn_of same;
        }
    found_by f fs g gs k (Some x) h =
        let test : ℕ → Bool = λ j. outer g.method j x.number in
        let tests : Tested test (Round x.clause) (suc x.number) (drop (suc x.number) (t.clauses f.method)) =
        tested test (Round x.clause) (t.clauses f.method) (λ j c e. rounds_are f fs g gs k x h j c e) (suc x.number) (drop (suc x.number) (t.clauses f.method)) refl in
        let clauses : ClausesAre p t (drop (suc x.number) (t.clauses f.method)) (after (suc x.number) k.of.clauses) =
        clauses_after p t (suc x.number) (t.clauses f.method) k.of.clauses (clauses_are f fs g gs k) in
        record {
          catch = catch_is p t class (Round x.clause) test (suc x.number) (drop (suc x.number) (t.clauses f.method)) (after (suc x.number) k.of.clauses) clauses tests;
          stop = stop_is p t class (Round x.clause) test (suc x.number) (drop (suc x.number) (t.clauses f.method)) (after (suc x.number) k.of.clauses) clauses tests;
        }

    -- the first pass
    pub fits_is : (fs : List RamFrame) (gs : List Frame) → AreFrames p outer heap room fs gs → fits t class fs ≡ is_some (search_frames p (id_of class) gs)
    fits_is [] [] h = refl
    fits_is (f ∷ fs) (g ∷ gs) h =
        let k = h.0 in
        let z : Scan = scan p g.method g.place (id_of class) 0 k.of.clauses in
        let found = found_by f fs g gs k None tt in
        ap (λ b. b || (not f.initialiser && fits t class fs)) (sym (some_number (stop_in t (goal.Catch class) None f)) ∙ ap is_some found.catch)
        ∙ ap (λ i. is_some z.catch || (not i && fits t class fs)) k.initialiser
        ∙ ap (λ b. is_some z.catch || (not g.initialiser && b)) (fits_is fs gs h.1)
        ∙ sym (is_some_route g.initialiser z.finals z.catch (search_frames p (id_of class) gs))
        ∙ ap (λ (o : Option Method). is_some (on_some o (λ m. let r = scan p g.method g.place (id_of class) 0 m.clauses in route_of g.initialiser r.finals r.catch (search_frames p (id_of class) gs)))) (sym k.is)
    fits_is [] (g ∷ gs) h = absurd h
    fits_is (f ∷ fs) [] h = absurd h
