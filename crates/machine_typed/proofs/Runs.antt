-- Whole runs of a typed program.
use Rattle.std.proofs.Common.{◌≡◌, ⊎_elim, ℕ, zero, suc, Bool, true, false, List, [], ◌∷◌, map, length, Option, Some, None, refl, sym, subst}
use Rattle.std.specs.Prelude.{if◌then◌else◌}
use Rattle.plain_types.specs.declared.elem.Elem.TheVariants as elem
use Rattle.machine.specs.Data.{Id, Basic, PlaceType, Plain, Value, Object, Thing, Elements, Nothing, Frame, State, End, Going, Returned, Threw}
use Rattle.machine.specs.Program.{Program, Method, Initialiser, Code}
use Rattle.machine.specs.Throw.{on_some}
use Rattle.machine.specs.Calls.{start_frame, if_none}
use Rattle.machine.specs.Step.{step}
use Rattle.machine.specs.Trace.{begun, passes, Trace, Finish, MemorySpent, StepsSpent, NoCase, NoStart, is_stuck, at_end, top_place, trace_from, strings, given_for, is_main_result, started_state, start, trace}
use Rattle.machine_typed.specs.Typing.{loaded}
use Rattle.machine_typed.specs.Accepted.{Typing, Needs, MethodFits, BodyFits, Accepted, Begins}
use Rattle.machine_typed.proofs.Heaps.{get_either, length-replicate}
use Rattle.machine_typed.proofs.Values.{HaveAll, places_have}
use Rattle.machine_typed.proofs.States.{over, ThingFits, Things, Base, Slots, Meets, FineAt, Goes, some_goes}
use Rattle.machine_typed.proofs.InstructionRows.{step_fine}

module _ (p : Program) (t : Typing) (a : Accepted p t) where
  abbrev IsFineEnd : Finish → Type 0
  IsFineEnd x = is_stuck x ≡ false

  if_end : (b : Bool) (x y : Trace) → IsFineEnd x.finish → IsFineEnd y.finish → IsFineEnd (if b then x else y).finish
  if_end true x y g h = g
  if_end false x y g h = h

  end_fine : (s : State) (e : End) (x : Trace) → (e ≡ Going → IsFineEnd x.finish) → IsFineEnd (at_end p s e x).finish
  end_fine s Going x h = h refl
  end_fine s (Returned n) x h = refl
  end_fine s (Threw c) x h = refl

  trace_fine : (most n : ℕ) (before : List ℕ) (s : State) → FineAt p t s s.end → IsFineEnd (trace_from p most n before s).finish
  trace_fine most zero before s h =
      if_end (passes p s most) _ _ refl (end_fine s s.end (record { output = s.output; finish = StepsSpent }) (λ e. refl))
  trace_fine most (suc n) before s h =
      if_end (passes p s most) (record { output = before; finish = MemorySpent }) _ refl (end_fine s s.end _ (λ e. go (λ u g. trace_fine most n s.output u g) (step p s) (let k = subst (FineAt p t s) e h in step_fine p t a s k.0 k.1)))
    where
      go : ((u : State) → FineAt p t u u.end → IsFineEnd (trace_from p most n s.output u).finish) → (o : Option State) → Goes p t o → IsFineEnd (elim o as (λ _. Trace) [ None ↦ record { output = s.output; finish = NoCase (top_place s.frames) } | Some u ↦ trace_from p most n s.output u ]).finish
      go ih None g = absurd g
      go ih (Some u) g = ih u g

  callee_of : (id : Id) (m : Method) → p.method id ≡ Some m → m.body ≡ Code → MethodFits p t id m
  callee_of id m is code = subst (λ b. BodyFits p t id m b) code (a.methods id m is)

  frame_base : (heap : List Thing) (q : Bool) (id : Id) (m : Method) (vs : List Value) (fs : List Frame) → p.method id ≡ Some m → m.body ≡ Code → HaveAll p (over heap (start_frame q id m vs ∷ fs)) vs (map loaded m.arguments) → Base p t heap (start_frame q id m vs) fs m
  frame_base heap q id m vs fs is code have =
      record {
        is = is;
        code = code;
        arguments = have;
        locals = places_have p (over heap (start_frame q id m vs ∷ fs)) m.locals (callee_of id m is code).locals;
        count = length-replicate (length m.clauses) Nothing;
      }

  frame_slots : (heap : List Thing) (q : Bool) (id : Id) (m : Method) (vs : List Value) (fs : List Frame) → p.method id ≡ Some m → m.body ≡ Code → Slots p t heap (start_frame q id m vs) fs m
  frame_slots heap q id m vs fs is code = record { at = λ k e. absurd ((callee_of id m is code).outside k e) }

  frame_meets : (heap : List Thing) (q : Bool) (id : Id) (m : Method) (vs : List Value) (fs : List Frame) → p.method id ≡ Some m → m.body ≡ Code → Meets p t heap (start_frame q id m vs) fs
  frame_meets heap q id m vs fs is code = record { types = []; typed = (callee_of id m is code).begin; stack = tt }

  abbrev b : Begins p t
  b = a.begins

  -- the entry method stands over its arguments, which lie in the heap
  begins : (heap : List Thing) (vs : List Value) → Things p t heap → ((fs : List Frame) → HaveAll p (over heap fs) vs (map loaded b.method.arguments)) → (o : Option Initialiser) → Needs p t o → Goes p t (started_state p heap (start_frame false b.id b.method vs) o)
  begins heap vs things have None w = (
    record { heap = things; statics = λ g v k e o. absurd (cc e); literals = λ us n e. absurd (cc e); going = refl },
    (b.method, frame_base heap false b.id b.method vs [] b.there b.code (have (start_frame false b.id b.method vs ∷ [])), frame_slots heap false b.id b.method vs [] b.there b.code, frame_meets heap false b.id b.method vs [] b.there b.code, b.returns),
  )
  begins heap vs things have (Some i) w =
      some_goes p t (p.method i.method) w.0 _ w.1
      (subst (λ ks. Goes p t (if_none ks (Some (begun heap (start_frame true i.method w.0 [] ∷ main ∷ []) (i.class ∷ []))))) (sym w.2) (
        record { heap = things; statics = λ g v k e o. absurd (cc e); literals = λ us n e. absurd (cc e); going = refl },
        (
          w.0,
          frame_base heap true i.method w.0 [] (main ∷ []) w.1 w.3 (subst (λ ks. HaveAll p (over heap (start_frame true i.method w.0 [] ∷ main ∷ [])) [] (map loaded ks)) (sym w.2) tt),
          frame_slots heap true i.method w.0 [] (main ∷ []) w.1 w.3,
          frame_meets heap true i.method w.0 [] (main ∷ []) w.1 w.3,
          (
            b.method,
            frame_base heap false b.id b.method vs [] b.there b.code (have (main ∷ [])),
            frame_slots heap false b.id b.method vs [] b.there b.code,
            frame_meets heap false b.id b.method vs [] b.there b.code,
            b.returns,
          ),
        ),
      ))
    where
      main : Frame
      main = start_frame false b.id b.method vs

  -- an empty array of strings
  abbrev empty : List Thing
  empty = Elements (Basic elem.String) [] ∷ []

  empty_things : t.made strings ≡ true → Things p t empty
  empty_things made n x e = ⊎_elim (λ o. absurd (cc o)) (λ same. subst (ThingFits p t (over empty [])) (sym same) (tt, refl, made)) (get_either [] (Elements (Basic elem.String) []) n x e)

  abbrev Started : List PlaceType → Type 0
  Started ks = Goes p t (on_some (given_for ks) (λ given. if is_main_result b.method.returns then started_state p given.heap (start_frame false b.id b.method given.arguments) p.first else None))

  start_fine : Goes p t (start p)
  unfolding start
  start_fine =
      some_goes p t p.entry b.id _ b.is (some_goes p t (p.method b.id) b.method _ b.there (⊎_elim none one b.arguments))
    where
      result : (o : Option State) → Goes p t o → Goes p t (if is_main_result b.method.returns then o else None)
      result o g = subst (λ (q : Bool). Goes p t (if q then o else None)) (sym b.returns) g

      none : b.method.arguments ≡ [] → Started b.method.arguments
      none e =
          subst Started (sym e)
          (result _ (begins [] [] (λ n x h. absurd (cc h)) (λ fs. subst (λ ks. HaveAll p (over [] fs) [] (map loaded ks)) (sym e) tt) p.first b.first))

      one : (b.method.arguments ≡ Plain strings ∷ []) × (t.made strings ≡ true) → Started b.method.arguments
      one x =
          subst Started (sym x.0)
          (result _ (begins empty (Object 0 ∷ []) (empty_things x.1) (λ fs. subst (λ ks. HaveAll p (over empty fs) (Object 0 ∷ []) (map loaded ks)) (sym x.0)
          (record { own = strings; at = refl; below = a.same strings }, tt)) p.first b.first))

  -- no run of a typed program ends where the machine has no case, or has no start
  pub never_stuck : (n most : ℕ) → is_stuck (trace p n most).finish ≡ false
  unfolding trace
  never_stuck n most = go (start p) start_fine
    where
      go : (o : Option State) → Goes p t o → IsFineEnd (elim o as (λ _. Trace) [ None ↦ record { output = []; finish = NoStart } | Some s ↦ trace_from p most n [] s ]).finish
      go None g = absurd g
      go (Some s) g = trace_fine most n [] s g
