-- A next state that keeps the rest, through what rows are made of.
use Rattle.std.proofs.Common.{◌≡◌, ℕ, Bool, true, false, List, [], ◌∷◌, Option, Some, None, refl, subst}
use Rattle.std.specs.Prelude.{◌++◌, map, nat_le, length, if◌then◌else◌}
use Rattle.board_types.specs.declared.board.Known.{Known}
use Rattle.machine.specs.Data.{Id, end_of, Instance, Turn, Finally, EndFrame, Value, Slot, Caught, Throwing, Frame, State}
use Rattle.machine.specs.Program.{Program}
use Rattle.machine.specs.Numbers.{zero_of}
use Rattle.machine.specs.Throw.{on_some, goes, enter_clause, Route, follow, taken, throw, raise}
use Rattle.machine.specs.Rows.{on_top}
use Rattle.tiny_except.specs.Machine.{KeepsRest}

module _ (s : State) where
  -- where there is a next state, it keeps the rest
  pub record Keeps (next : Option State) : Type 0 where
    pub at : (t : State) → next ≡ Some t → KeepsRest s t

  pub none : Keeps None
  none = record { at = λ t e. absurd (cc e) }

  pub one : (t : State) → KeepsRest s t → Keeps (Some t)
  one t k = record { at = λ u e. let same : t ≡ u = cc e in subst (λ (x : State). KeepsRest s x) same k }

  pub some : {A : Type 0} (o : Option A) (go : A → Option State) → ((x : A) → Keeps (go x)) → Keeps (on_some o go)
  some None go h = none
  some (Some x) go h = h x

  pub then_some : (o : Option State) (go : State → Option State) → Keeps o → ((t : State) → KeepsRest s t → Keeps (go t)) → Keeps (on_some o go)
  then_some None go k h = none
  then_some (Some t) go k h = h t (k.at t refl)

  pub top : {A : Type 0} (xs : List A) (go : A → List A → Option State) → ((v : A) (rest : List A) → Keeps (go v rest)) → Keeps (on_top xs go)
  top [] go h = none
  top (v ∷ rest) go h = h v rest

  pub either : (b : Bool) (x y : Option State) → Keeps x → Keeps y → Keeps (if b then x else y)
  either true x y k l = k
  either false x y k l = l

  pub same : KeepsRest s s
  same = record { literals = refl; statics = refl; started = refl; output = refl }

  module _ (p : Program) where
    pub went : (u : State) → KeepsRest s u → (f : Frame) (fs : List Frame) (place : ℕ) (stack : List Value) → Keeps (goes p u f fs place stack)
    unfolding goes
    went u k f fs place stack =
        some (p.method f.method) _ (λ m.
        either (nat_le (length stack) m.max_stack) _ _
        (one (record u { frames = record f { place = place; stack = stack } ∷ fs }) (record { literals = k.literals; statics = k.statics; started = k.started; output = k.output }))
        none)

    pub entered : (u : State) → KeepsRest s u → (f : Frame) (fs : List Frame) (n : ℕ) (stack : List Value) (slot : Slot) → Keeps (enter_clause p u f fs n stack slot)
    unfolding enter_clause
    entered u k f fs n stack slot = some (p.method f.method) _ (λ m. some _ _ (λ c. went u k _ fs c.start stack))

    pub followed : (u : State) → KeepsRest s u → (fs : List Frame) (turns : List Turn) (catch object : ℕ) → Keeps (follow p u fs turns catch object)
    followed u k [] turns catch object = none
    followed u k (f ∷ fs) [] catch object = entered u k f fs catch _ (Caught object)
    followed u k (f ∷ fs) (Finally n ∷ turns) catch object = entered u k f fs n [] (Throwing turns catch object)
    followed u k (f ∷ fs) (EndFrame ∷ turns) catch object = followed u k fs turns catch object

    took : (u : State) → KeepsRest s u → (class : Id) (object : ℕ) (r : Option Route) → Keeps (taken p u class object r)
    took u k class object None = one _ (record { literals = k.literals; statics = k.statics; started = k.started; output = k.output })
    took u k class object (Some r) = followed u k u.frames r.turns r.catch object

    pub threw : (u : State) → KeepsRest s u → (class : Id) (object : ℕ) → Keeps (throw p u class object)
    unfolding throw
    threw u k class object = took u k class object _

    pub raised : (known : Known) → Keeps (raise p s known)
    unfolding raise
    raised known =
        some (p.known known) _ (λ class. some (p.fields class) _ (λ kinds.
        threw (record s { heap = s.heap ++ Instance class (map zero_of kinds) ∷ [] }) (record { literals = refl; statics = refl; started = refl; output = refl }) class (end_of s.heap)))
