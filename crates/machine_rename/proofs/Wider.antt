-- A program with more places where an instruction starts.
use Rattle.std.proofs.Common.{◌≡◌, ℕ, Bool, true, false, List, [], ◌∷◌, zero, suc, Option, Some, None, refl, sym, ap, ◌∙◌, subst}
use Rattle.std.specs.Prelude.{if◌then◌else◌}
use Rattle.std.specs.List.{list_any}
use Rattle.machine.specs.Data.{Id, id_eq, Value, Frame, State, End, Going, Returned, Threw}
use Rattle.machine.specs.Program.{Program, Instruction, Nop, Return, Initialiser, Line}
use Rattle.machine.specs.Throw.{on_some, goes, enter_clause, throw, raise, throw_thing, throw_exception}
use Rattle.machine.specs.Rows.{on_frames}
use Rattle.machine.specs.Objects.{load_field, store_field, load_field_address, load_static, store_static, load_static_address, load_text, load_indirect, store_indirect, new_array, load_length, load_element, store_element, load_element_address, cast_class, is_instance, box_value, unbox, unbox_value}
use Rattle.machine.specs.Natives.{new_text, copy_elements, object_to_string, enum_equals, enum_to_string, array_length, array_copy, string_length, string_chars, string_concat, string_substring, string_equals, string_compare, string_from_chars, string_from_char, number_signed, number_unsigned, initialize_array, debug_print}
use Rattle.machine.specs.Calls.{starts, invoke, call, call_virtual, new_object, with_result, result_of, hand_back, return_value, start_class}
use Rattle.machine.specs.Step.{act, after_start, step}
use Rattle.machine.specs.Trace.{passes, Trace, MemorySpent, StepsSpent, NoCase, NoStart, is_stuck, at_end, top_place, trace_from, start, trace}

-- where the value came from
pub some_inv : {A B : Type 0} (o : Option A) (k : A → Option B) (y : B) → on_some o k ≡ Some y → (x : A) × (o ≡ Some x) × (k x ≡ Some y)
some_inv None k y e = absurd (cc e)
some_inv (Some x) k y e = (x, refl, e)

module _ (p : Program) (more : Id → ℕ → Option Line) (h : (m : Id) (at : ℕ) (l : Line) → p.fetch m at ≡ Some l → more m at ≡ Some l) where
  abbrev wide : Program
  wide = record p { fetch = more }

  act_same : (s : State) (f : Frame) (fs : List Frame) (next : ℕ) (i : Instruction) → (i ≡ Return → ⊥) → act wide s f fs next i ≡ act p s f fs next i
  unfolding goes enter_clause throw raise throw_thing throw_exception starts invoke call call_virtual new_object load_field store_field load_field_address load_static store_static load_static_address load_text load_indirect store_indirect new_array load_length load_element store_element load_element_address cast_class is_instance box_value unbox unbox_value new_text copy_elements object_to_string enum_equals enum_to_string array_length array_copy string_length string_chars string_concat string_substring string_equals string_compare string_from_chars string_from_char number_signed number_unsigned initialize_array debug_print
  act_same s f fs next Return n = absurd (n refl)
  act_same s f fs next _ n = refl

  hand_back_wide : (s u : State) (b : Bool) (v : Option Value) (fs : List Frame) → hand_back p s b v fs ≡ Some u → hand_back wide s b v fs ≡ Some u
  unfolding goes
  hand_back_wide s u true v [] e = e
  hand_back_wide s u false v [] e = e
  hand_back_wide s u true v (g ∷ gs) e = e
  hand_back_wide s u false v (g ∷ gs) e =
      let l = some_inv (p.fetch g.method g.place) _ u e in
      subst (λ o. on_some o (λ line. goes wide s g gs line.next (with_result v g.stack)) ≡ Some u) (sym (h g.method g.place l.0 l.1)) l.2

  return_wide : (s u : State) (f : Frame) (fs : List Frame) → return_value p s f fs ≡ Some u → return_value wide s f fs ≡ Some u
  unfolding return_value
  return_wide s u f fs e =
      let m = some_inv (p.method f.method) _ u e in
      let v = some_inv (result_of m.0.returns f.stack) _ u m.2 in
      subst (λ o. on_some o (λ m. on_some (result_of m.returns f.stack) (λ v. hand_back wide s f.initialiser v fs)) ≡ Some u) (sym m.1)
      (subst (λ o. on_some o (λ v. hand_back wide s f.initialiser v fs) ≡ Some u) (sym v.1) (hand_back_wide s u f.initialiser v.0 fs v.2))

  act_wide : (s u : State) (f : Frame) (fs : List Frame) (next : ℕ) (i : Instruction) → act p s f fs next i ≡ Some u → act wide s f fs next i ≡ Some u
  act_wide s u f fs next Return e = return_wide s u f fs e
  act_wide s u f fs next Nop e = act_same s f fs next Nop (λ x. cc x) ∙ e
  act_wide s u f fs next i e = act_same s f fs next i (λ x. cc x) ∙ e

  start_same : (s : State) (i : Initialiser) → start_class wide s i ≡ start_class p s i
  unfolding start_class
  start_same s i = refl

  after_wide : (s u : State) (f : Frame) (fs : List Frame) (l : Line) (o : Option Initialiser) → after_start p s f fs l o ≡ Some u → after_start wide s f fs l o ≡ Some u
  after_wide s u f fs l None e = act_wide s u f fs l.next l.instruction e
  after_wide s u f fs l (Some i) e = pick (list_any (id_eq i.class) s.started) e
    where
      pick : (b : Bool) → (if b then act p s f fs l.next l.instruction else start_class p s i) ≡ Some u → (if b then act wide s f fs l.next l.instruction else start_class wide s i) ≡ Some u
      pick true e = act_wide s u f fs l.next l.instruction e
      pick false e = start_same s i ∙ e

  pub step_wide : (s u : State) → step p s ≡ Some u → step wide s ≡ Some u
  unfolding step
  step_wide s u e = at s.frames e
    where
      at : (fs : List Frame) → on_frames fs (λ f fs. on_some (p.fetch f.method f.place) (λ line. after_start p s f fs line line.needs)) ≡ Some u → on_frames fs (λ f fs. on_some (more f.method f.place) (λ line. after_start wide s f fs line line.needs)) ≡ Some u
      at [] e = absurd (cc e)
      at (f ∷ fs) e =
          let l = some_inv (p.fetch f.method f.place) _ u e in
          subst (λ o. on_some o (λ line. after_start wide s f fs line line.needs) ≡ Some u) (sym (h f.method f.place l.0 l.1)) (after_wide s u f fs l.0 l.0.needs l.2)

  passes_same : (s : State) (most : ℕ) → passes wide s most ≡ passes p s most
  unfolding passes
  passes_same s most = refl

  pub start_wide : start wide ≡ start p
  unfolding start
  start_wide = refl

  trace_from_wide : (most n : ℕ) (before : List ℕ) (s : State) → is_stuck (trace_from p most n before s).finish ≡ false → trace_from wide most n before s ≡ trace_from p most n before s
  trace_from_wide most zero before s x =
      ap (λ (b : Bool). if b then record { output = before; finish = MemorySpent } else at_end p s s.end (record { output = s.output; finish = StepsSpent })) (passes_same s most) ∙ ends s.end
    where
      ends : (e : End) → (if passes p s most then record { output = before; finish = MemorySpent } else at_end wide s e (record { output = s.output; finish = StepsSpent })) ≡ (if passes p s most then record { output = before; finish = MemorySpent } else at_end p s e (record { output = s.output; finish = StepsSpent }))
      ends Going = refl
      ends (Returned n) = refl
      ends (Threw c) = refl
  trace_from_wide most (suc n) before s x =
      ap (λ (b : Bool). if b then record { output = before; finish = MemorySpent } else at_end wide s s.end (after wide (step wide s))) (passes_same s most)
      ∙ by_test (passes p s most) s.end (step p s) refl (λ u g. trace_from_wide most n s.output u g) x
    where
      after : Program → Option State → Trace
      after q o = elim o as (λ _. Trace) [ None ↦ record { output = s.output; finish = NoCase (top_place s.frames) } | Some t ↦ trace_from q most n s.output t ]

      by_test : (b : Bool) (e : End) (o : Option State) → step p s ≡ o → ((u : State) → is_stuck (trace_from p most n s.output u).finish ≡ false → trace_from wide most n s.output u ≡ trace_from p most n s.output u) → is_stuck (if b then record { output = before; finish = MemorySpent } else at_end p s e (after p o)).finish ≡ false → (if b then record { output = before; finish = MemorySpent } else at_end wide s e (after wide (step wide s))) ≡ (if b then record { output = before; finish = MemorySpent } else at_end p s e (after p o))
      by_test true e o w ih x = refl
      by_test false (Returned k) o w ih x = refl
      by_test false (Threw c) o w ih x = refl
      by_test false Going None w ih x = absurd (cc x)
      by_test false Going (Some u) w ih x = ap (after wide) (step_wide s u w) ∙ ih u x

  pub trace_wide : (n most : ℕ) → is_stuck (trace p n most).finish ≡ false → trace wide n most ≡ trace p n most
  unfolding trace
  trace_wide n most x = ap (go wide) start_wide ∙ at (start p) x
    where
      go : Program → Option State → Trace
      go q o = elim o as (λ _. Trace) [ None ↦ record { output = []; finish = NoStart } | Some s ↦ trace_from q most n [] s ]

      at : (o : Option State) → is_stuck (go p o).finish ≡ false → go wide o ≡ go p o
      at None x = refl
      at (Some s) x = trace_from_wide most n [] s x
