-- Cells and whole runs under a renaming.
use Rattle.std.proofs.Common.{◌≡◌, ℕ, zero, suc, ◌+◌, Bool, true, false, ◌||◌, List, [], ◌∷◌, map, length, Option, Some, None, refl, ap, ◌∙◌}
use Rattle.std.specs.Prelude.{if◌then◌else◌, nat_lt}
use Rattle.std.specs.Option.{option_map}
use Rattle.machine.specs.Data.{Id, CliType, Basic, EnumOf, ClassOf, ValueOf, ArrayOf, type_eq, PlaceType, Plain, To, end_of, Frame, State, End, Going, Returned, Threw}
use Rattle.machine.specs.Program.{Program, Method, Initialiser}
use Rattle.machine.specs.Rows.{frames_cells}
use Rattle.machine.specs.Calls.{start_frame}
use Rattle.machine.specs.Step.{step}
use Rattle.machine.specs.Trace.{cells, passes, Finish, WithNumber, WithClass, MemorySpent, StepsSpent, NoCase, NoStart, is_stuck, Trace, at_end, top_place, trace_from, Given, strings, given_for, is_main_result, begun, started_state, start, trace}
use Rattle.machine_rename.specs.Rename.{Renaming, Answers, type_to, place_type_to, value_to, thing_to, frame_to, end_to, state_to, initialiser_to, method_to, code_place_to, finish_to, trace_to}
use Rattle.machine_rename.proofs.Base.{some_law, if_law, end_law}
use Rattle.machine_rename.proofs.RowLaws.{frames_law}
use Rattle.machine_rename.proofs.CallLaws.{start_frame_law, if_none_law}
use Rattle.machine_rename.proofs.StepLaws.{step_law}

module _ (r : Renaming) where
  top_place_law : (fs : List Frame) → top_place (map (frame_to r) fs) ≡ option_map (code_place_to r) (top_place fs)
  top_place_law [] = refl
  top_place_law (f ∷ fs) = refl

  strings_law : (t : CliType) → type_eq (type_to r t) strings ≡ type_eq t strings
  strings_law (Basic e) = refl
  strings_law (EnumOf e class) = refl
  strings_law (ClassOf class) = refl
  strings_law (ValueOf class) = refl
  strings_law (ArrayOf (Basic e)) = refl
  strings_law (ArrayOf (EnumOf e class)) = refl
  strings_law (ArrayOf (ClassOf class)) = refl
  strings_law (ArrayOf (ValueOf class)) = refl
  strings_law (ArrayOf (ArrayOf element)) = refl

  abbrev given_to : Given → Given
  given_to g = record { heap = map (thing_to r) g.heap; arguments = map (value_to r) g.arguments }

  given_law : (ks : List PlaceType) → given_for (map (place_type_to r) ks) ≡ option_map given_to (given_for ks)
  given_law [] = refl
  given_law (Plain type ∷ []) = if_law given_to _ _ _ _ _ _ (strings_law type) refl refl
  given_law (To type ∷ []) = refl
  given_law (k ∷ l ∷ more) = go k
    where
      go : (k : PlaceType) → given_for (place_type_to r k ∷ place_type_to r l ∷ map (place_type_to r) more) ≡ option_map given_to (given_for (k ∷ l ∷ more))
      go (Plain type) = refl
      go (To type) = refl

  result_law : (o : Option PlaceType) → is_main_result (option_map (place_type_to r) o) ≡ is_main_result o
  result_law None = refl
  result_law (Some (Plain (Basic e))) = refl
  result_law (Some (Plain (EnumOf e class))) = refl
  result_law (Some (Plain (ClassOf class))) = refl
  result_law (Some (Plain (ValueOf class))) = refl
  result_law (Some (Plain (ArrayOf element))) = refl
  result_law (Some (To type)) = refl

  finish_same : (f : Finish) → is_stuck f ≡ false → finish_to r f ≡ f
  finish_same (NoCase at) e = absurd (cc e)
  finish_same NoStart e = refl
  finish_same (WithNumber number) e = refl
  finish_same (WithClass name) e = refl
  finish_same MemorySpent e = refl
  finish_same StepsSpent e = refl

  -- a run that isn't stuck shows no number of the program
  pub shown_same : (t : Trace) → is_stuck t.finish ≡ false → trace_to r t ≡ t
  shown_same t e = ap (λ f. record { output = t.output; finish = f }) (finish_same t.finish e)

  stuck_law : (f : Finish) → is_stuck (finish_to r f) ≡ is_stuck f
  stuck_law (NoCase at) = refl
  stuck_law NoStart = refl
  stuck_law (WithNumber number) = refl
  stuck_law (WithClass name) = refl
  stuck_law MemorySpent = refl
  stuck_law StepsSpent = refl

  pub is_stuck_law : (t u : Trace) → u ≡ trace_to r t → is_stuck u.finish ≡ is_stuck t.finish
  is_stuck_law t u e = ap (λ (x : Trace). is_stuck x.finish) e ∙ stuck_law t.finish

module _ (r : Renaming) (low high : Program) (a : Answers r low high) where
  pub cells_law : (s : State) → cells high (state_to r s) ≡ cells low s
  cells_law s =
      ap (λ n. n + frames_cells high (map (frame_to r) s.frames)) (end_law r s.heap)
      ∙ ap (λ n. end_of s.heap + n) (frames_law r low high a s.frames)

  passes_law : (s : State) (most : ℕ) → passes high (state_to r s) most ≡ passes low s most
  unfolding passes
  passes_law s most = ap (λ n. nat_lt most n || nat_lt 4194304 (length s.output)) (cells_law s)

  at_end_law : (s : State) (e : End) (t u : Trace) → u ≡ trace_to r t → at_end high (state_to r s) (end_to r e) u ≡ trace_to r (at_end low s e t)
  at_end_law s Going t u h = h
  at_end_law s (Returned n) t u h = refl
  at_end_law s (Threw class) t u h = ap (λ n. record { output = s.output; finish = WithClass n }) (a.name class)

  if_trace : (b b' : Bool) (x y x' y' : Trace) → b' ≡ b → x' ≡ trace_to r x → y' ≡ trace_to r y → (if b' then x' else y') ≡ trace_to r (if b then x else y)
  if_trace b b' x y x' y' e g h = ap (λ c. if c then x' else y') e ∙ go b
    where
      go : (b : Bool) → (if b then x' else y') ≡ trace_to r (if b then x else y)
      go true = g
      go false = h

  trace_from_law : (most n : ℕ) (before : List ℕ) (s : State) → trace_from high most n before (state_to r s) ≡ trace_to r (trace_from low most n before s)
  trace_from_law most zero before s = if_trace _ _ _ _ _ _ (passes_law s most) refl (at_end_law s s.end _ _ refl)
  trace_from_law most (suc n) before s =
      if_trace _ _ _ _ _ _ (passes_law s most) refl (at_end_law s s.end _ _
      (ap (λ (o : Option State). elim o as (λ _. Trace) [ None ↦ record { output = s.output; finish = NoCase (top_place (map (frame_to r) s.frames)) } | Some t ↦ trace_from high most n s.output t ]) (step_law r low high a s)
      ∙ go (λ t. trace_from_law most n s.output t) (step low s)))
    where
      go : ((t : State) → trace_from high most n s.output (state_to r t) ≡ trace_to r (trace_from low most n s.output t)) → (o : Option State) → (elim (option_map (state_to r) o) as (λ _. Trace) [ None ↦ record { output = s.output; finish = NoCase (top_place (map (frame_to r) s.frames)) } | Some t ↦ trace_from high most n s.output t ]) ≡ trace_to r (elim o as (λ _. Trace) [ None ↦ record { output = s.output; finish = NoCase (top_place s.frames) } | Some t ↦ trace_from low most n s.output t ])
      go h None = ap (λ at. record { output = s.output; finish = NoCase at }) (top_place_law r s.frames)
      go h (Some t) = h t

  started_state_law : (id : Id) (m : Method) (g : Given) (i : Option Initialiser) → started_state high (map (thing_to r) g.heap) (start_frame false (r.method id) (method_to r id m) (map (value_to r) g.arguments)) (option_map (initialiser_to r) i) ≡ option_map (state_to r) (started_state low g.heap (start_frame false id m g.arguments) i)
  started_state_law id m g None =
      ap (λ f. Some (begun (map (thing_to r) g.heap) (f ∷ []) [])) (start_frame_law r low high a false id m g.arguments)
  started_state_law id m g (Some i) =
      some_law (state_to r) (method_to r i.method) _ _ _ _ (a.method i.method) (λ n.
      if_none_law r (place_type_to r) n.arguments _ _
      (ap (λ f. Some (begun (map (thing_to r) g.heap) (start_frame true (r.method i.method) (method_to r i.method n) [] ∷ f ∷ []) (r.type i.class ∷ []))) (start_frame_law r low high a false id m g.arguments)
      ∙ ap (λ f. Some (begun (map (thing_to r) g.heap) (f ∷ frame_to r (start_frame false id m g.arguments) ∷ []) (r.type i.class ∷ []))) (start_frame_law r low high a true i.method n [])))

  pub start_law : start high ≡ option_map (state_to r) (start low)
  unfolding start
  start_law =
      some_law (state_to r) r.method _ _ _ _ a.entry (λ id.
      some_law (state_to r) (method_to r id) _ _ _ _ (a.method id) (λ m.
      some_law (state_to r) (given_to r) _ _ _ _ (given_law r m.arguments) (λ g.
      if_law (state_to r) _ _ _ _ _ _ (result_law r m.returns)
      (ap (started_state high (map (thing_to r) g.heap) (start_frame false (r.method id) (method_to r id m) (map (value_to r) g.arguments))) a.first ∙ started_state_law id m g low.first)
      refl)))

  pub trace_law : (n most : ℕ) → trace high n most ≡ trace_to r (trace low n most)
  unfolding trace
  trace_law n most =
      ap (λ (o : Option State). elim o as (λ _. Trace) [ None ↦ record { output = []; finish = NoStart } | Some s ↦ trace_from high most n [] s ]) start_law ∙ go (start low)
    where
      go : (o : Option State) → (elim (option_map (state_to r) o) as (λ _. Trace) [ None ↦ record { output = []; finish = NoStart } | Some s ↦ trace_from high most n [] s ]) ≡ trace_to r (elim o as (λ _. Trace) [ None ↦ record { output = []; finish = NoStart } | Some s ↦ trace_from low most n [] s ])
      go None = refl
      go (Some s) = trace_from_law most n [] s

  pub trace_same : (n most : ℕ) → is_stuck (trace low n most).finish ≡ false → trace high n most ≡ trace low n most
  trace_same n most e = trace_law n most ∙ shown_same r (trace low n most) e
