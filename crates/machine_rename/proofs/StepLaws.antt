-- Each instruction, and a step, under a renaming.
use Rattle.std.proofs.Common.{◌≡◌, ℕ, Bool, true, false, ◌||◌, List, [], ◌∷◌, map, Option, Some, None, refl, sym, ap, ◌∙◌}
use Rattle.std.specs.Prelude.{if◌then◌else◌, slice_get, slice_set, unwrap_or}
use Rattle.std.specs.Option.{option_map}
use Rattle.std.specs.Int.{w32, cast_unsigned}
use Rattle.std.specs.List.{list_any}
use Rattle.std.proofs.lemmas.List.{map-set}
use Rattle.std.proofs.lemmas.Option.{slice_get-map}
use Rattle.machine.specs.Data.{Id, id_eq, PlaceType, Plain, To, InArgument, InLocal, Value, Pointer, Frame, State}
use Rattle.machine.specs.Program.{Program, Instruction, Nop, Push, Dup, Pop, LoadArgument, StoreArgument, LoadArgumentAddress, LoadLocal, StoreLocal, LoadLocalAddress, Binary, Shift, Unary, Compare, Convert, ConvertChecked, Branch, BranchIf, BranchCompare, Switch, Call, CallVirtual, NewObject, Return, LoadField, StoreField, LoadFieldAddress, LoadStatic, StoreStatic, LoadStaticAddress, LoadText, LoadIndirect, StoreIndirect, NewArray, LoadLength, LoadElement, StoreElement, LoadElementAddress, CastClass, IsInstance, Box, Unbox, UnboxAny, Throw, Rethrow, Leave, EndFinally, Initialiser, Line}
use Rattle.machine.specs.Numbers.{agree, of_bool, binary, convert_checked}
use Rattle.machine.specs.Throw.{on_some, goes, left, leave, take_up, throw_again}
use Rattle.machine.specs.Rows.{answered, on_frames, frames_cells}
use Rattle.machine.specs.Objects.{literal_object}
use Rattle.machine.specs.Step.{branch_if, place_cell, act, after_start, step}
use Rattle.machine_rename.specs.Rename.{Renaming, Answers, place_type_to, value_to, slot_to, frame_to, state_to, instruction_to, initialiser_to, line_to, method_to}
use Rattle.machine_rename.proofs.Base.{cell_law, some_law, same_law, if_law, top_law, two_law, goes_law}
use Rattle.machine_rename.proofs.ThrowLaws.{left_law, leave_law, take_up_law, throw_value_law, throw_again_law}
use Rattle.machine_rename.proofs.ValueLaws.{binary_law, binary_allowed, shift_law, unary_law, compare_law, branch_compare_law, truth_law, convert_law, convert_checked_law, convert_checked_allowed, as_int_law, kept_law}
use Rattle.machine_rename.proofs.RowLaws.{answered_law, frames_law}
use Rattle.machine_rename.proofs.ObjectLaws.{load_field_law, store_field_law, load_field_address_law, load_static_law, store_static_law, load_static_address_law, load_text_law, load_indirect_law, store_indirect_law, new_array_law, load_length_law, load_element_law, store_element_law, load_element_address_law, cast_class_law, is_instance_law, box_value_law, unbox_law, unbox_any_law}
use Rattle.machine_rename.proofs.CallLaws.{call_law, call_virtual_law, new_object_law, return_law, start_class_law}

module _ (r : Renaming) (low high : Program) (a : Answers r low high) where
  if_place : (m : Id) (b : Bool) (x y : ℕ) → (if b then r.place m x else r.place m y) ≡ r.place m (if b then x else y)
  if_place m true x y = refl
  if_place m false x y = refl

  branch_law : (s : State) (f : Frame) (fs : List Frame) (next : ℕ) (on : Bool) (target : ℕ) (o o' : Option Bool) (rest : List Value) → o' ≡ o → branch_if high (state_to r s) (frame_to r f) (map (frame_to r) fs) (r.place f.method next) on (r.place f.method target) o' (map (value_to r) rest) ≡ option_map (state_to r) (branch_if low s f fs next on target o rest)
  branch_law s f fs next on target o o' rest e =
      same_law (state_to r) _ _ _ _ e (λ b.
      ap (λ at. goes high (state_to r s) (frame_to r f) (map (frame_to r) fs) at (map (value_to r) rest)) (if_place f.method (agree b on) target next)
      ∙ goes_law r low high a s f fs (if agree b on then target else next) rest)

  switch_place : (m : Id) (targets : List ℕ) (n next : ℕ) → unwrap_or (slice_get (map (r.place m) targets) n) (r.place m next) ≡ r.place m (unwrap_or (slice_get targets n) next)
  switch_place m targets n next = ap (λ o. unwrap_or o (r.place m next)) (slice_get-map (r.place m) targets n) ∙ go (slice_get targets n)
    where
      go : (o : Option ℕ) → unwrap_or (option_map (r.place m) o) (r.place m next) ≡ r.place m (unwrap_or o next)
      go None = refl
      go (Some k) = refl

  place_cell_law : (k : PlaceType) → place_cell (place_type_to r k) ≡ place_cell k
  place_cell_law (Plain type) = cell_law r type
  place_cell_law (To type) = refl

  act_law : (s : State) (f : Frame) (fs : List Frame) (next : ℕ) (i : Instruction) → act high (state_to r s) (frame_to r f) (map (frame_to r) fs) (r.place f.method next) (instruction_to r f.method i) ≡ option_map (state_to r) (act low s f fs next i)
  act_law s f fs next Nop = goes_law r low high a s f fs next f.stack
  act_law s f fs next (Push v) = goes_law r low high a s f fs next (v ∷ f.stack)
  act_law s f fs next Dup = top_law (state_to r) (value_to r) f.stack _ _ (λ v rest. goes_law r low high a s f fs next (v ∷ v ∷ rest))
  act_law s f fs next Pop = top_law (state_to r) (value_to r) f.stack _ _ (λ v rest. goes_law r low high a s f fs next rest)
  act_law s f fs next (LoadArgument n) =
      some_law (state_to r) (value_to r) _ _ _ _ (slice_get-map (value_to r) f.arguments n) (λ v. goes_law r low high a s f fs next (v ∷ f.stack))
  act_law s f fs next (StoreArgument n) =
      some_law (state_to r) (method_to r f.method) _ _ _ _ (a.method f.method) (λ m.
      some_law (state_to r) (place_type_to r) _ _ _ _ (slice_get-map (place_type_to r) m.arguments n) (λ type.
      top_law (state_to r) (value_to r) f.stack _ _ (λ v rest.
      some_law (state_to r) (value_to r) _ _ _ _ (kept_law r type v) (λ w.
      ap (λ vs. goes high (state_to r s) (record (frame_to r f) { arguments = vs }) (map (frame_to r) fs) (r.place f.method next) (map (value_to r) rest)) (sym (map-set (value_to r) f.arguments n w))
      ∙ goes_law r low high a s (record f { arguments = slice_set f.arguments n w }) fs next rest))))
  act_law s f fs next (LoadArgumentAddress n) =
      some_law (state_to r) (method_to r f.method) _ _ _ _ (a.method f.method) (λ m.
      some_law (state_to r) (place_type_to r) _ _ _ _ (slice_get-map (place_type_to r) m.arguments n) (λ type.
      same_law (state_to r) _ _ _ _ (place_cell_law type) (λ cell.
      ap (λ d. goes high (state_to r s) (frame_to r f) (map (frame_to r) fs) (r.place f.method next) (Pointer cell (InArgument d n) ∷ map (value_to r) f.stack)) (frames_law r low high a (f ∷ fs))
      ∙ goes_law r low high a s f fs next (Pointer cell (InArgument (frames_cells low (f ∷ fs)) n) ∷ f.stack))))
  act_law s f fs next (LoadLocal n) =
      some_law (state_to r) (value_to r) _ _ _ _ (slice_get-map (value_to r) f.locals n) (λ v. goes_law r low high a s f fs next (v ∷ f.stack))
  act_law s f fs next (StoreLocal n) =
      some_law (state_to r) (method_to r f.method) _ _ _ _ (a.method f.method) (λ m.
      some_law (state_to r) (place_type_to r) _ _ _ _ (slice_get-map (place_type_to r) m.locals n) (λ type.
      top_law (state_to r) (value_to r) f.stack _ _ (λ v rest.
      some_law (state_to r) (value_to r) _ _ _ _ (kept_law r type v) (λ w.
      ap (λ vs. goes high (state_to r s) (record (frame_to r f) { locals = vs }) (map (frame_to r) fs) (r.place f.method next) (map (value_to r) rest)) (sym (map-set (value_to r) f.locals n w))
      ∙ goes_law r low high a s (record f { locals = slice_set f.locals n w }) fs next rest))))
  act_law s f fs next (LoadLocalAddress n) =
      some_law (state_to r) (method_to r f.method) _ _ _ _ (a.method f.method) (λ m.
      some_law (state_to r) (place_type_to r) _ _ _ _ (slice_get-map (place_type_to r) m.locals n) (λ type.
      same_law (state_to r) _ _ _ _ (place_cell_law type) (λ cell.
      ap (λ d. goes high (state_to r s) (frame_to r f) (map (frame_to r) fs) (r.place f.method next) (Pointer cell (InLocal d n) ∷ map (value_to r) f.stack)) (frames_law r low high a (f ∷ fs))
      ∙ goes_law r low high a s f fs next (Pointer cell (InLocal (frames_cells low (f ∷ fs)) n) ∷ f.stack))))
  act_law s f fs next (Binary operator) =
      two_law (state_to r) (value_to r) f.stack _ _ (λ x y rest.
      ap (answered high (state_to r s) (frame_to r f) (map (frame_to r) fs) (r.place f.method next) (map (value_to r) rest)) (binary_law r operator x y)
      ∙ answered_law r low high a s f fs next rest (binary operator x y) (binary_allowed r operator x y))
  act_law s f fs next (Shift operator) =
      two_law (state_to r) (value_to r) f.stack _ _ (λ x y rest.
      some_law (state_to r) (value_to r) _ _ _ _ (shift_law r operator x y) (λ v. goes_law r low high a s f fs next (v ∷ rest)))
  act_law s f fs next (Unary operator) =
      top_law (state_to r) (value_to r) f.stack _ _ (λ x rest.
      some_law (state_to r) (value_to r) _ _ _ _ (unary_law r operator x) (λ v. goes_law r low high a s f fs next (v ∷ rest)))
  act_law s f fs next (Compare comparison) =
      two_law (state_to r) (value_to r) f.stack _ _ (λ x y rest.
      same_law (state_to r) _ _ _ _ (compare_law r comparison x y) (λ b. goes_law r low high a s f fs next (of_bool b ∷ rest)))
  act_law s f fs next (Convert integer) =
      top_law (state_to r) (value_to r) f.stack _ _ (λ x rest.
      some_law (state_to r) (value_to r) _ _ _ _ (convert_law r integer x) (λ v. goes_law r low high a s f fs next (v ∷ rest)))
  act_law s f fs next (ConvertChecked integer source) =
      top_law (state_to r) (value_to r) f.stack _ _ (λ x rest.
      ap (answered high (state_to r s) (frame_to r f) (map (frame_to r) fs) (r.place f.method next) (map (value_to r) rest)) (convert_checked_law r integer source x)
      ∙ answered_law r low high a s f fs next rest (convert_checked integer source x) (convert_checked_allowed r integer source x))
  act_law s f fs next (Branch target) = goes_law r low high a s f fs target f.stack
  act_law s f fs next (BranchIf on target) =
      top_law (state_to r) (value_to r) f.stack _ _ (λ v rest. branch_law s f fs next on target _ _ rest (truth_law r v))
  act_law s f fs next (BranchCompare comparison on target) =
      two_law (state_to r) (value_to r) f.stack _ _ (λ x y rest. branch_law s f fs next on target _ _ rest (branch_compare_law r comparison x y))
  act_law s f fs next (Switch targets) =
      top_law (state_to r) (value_to r) f.stack _ _ (λ v rest.
      same_law (state_to r) _ _ _ _ (as_int_law r v) (λ n.
      ap (λ at. goes high (state_to r s) (frame_to r f) (map (frame_to r) fs) at (map (value_to r) rest)) (switch_place f.method targets (cast_unsigned w32 n) next)
      ∙ goes_law r low high a s f fs (unwrap_or (slice_get targets (cast_unsigned w32 n)) next) rest))
  act_law s f fs next (Call id) = call_law r low high a id s f fs next
  act_law s f fs next (CallVirtual id) = call_virtual_law r low high a id s f fs next
  act_law s f fs next (NewObject class constructor) = new_object_law r low high a class constructor s f fs
  act_law s f fs next Return = return_law r low high a s f fs
  act_law s f fs next (LoadField owner n) = load_field_law r low high a owner n s f fs next
  act_law s f fs next (StoreField owner n) = store_field_law r low high a owner n s f fs next
  act_law s f fs next (LoadFieldAddress owner n) = load_field_address_law r low high a owner n s f fs next
  act_law s f fs next (LoadStatic id) = load_static_law r low high a id s f fs next
  act_law s f fs next (StoreStatic id) = store_static_law r low high a id s f fs next
  act_law s f fs next (LoadStaticAddress id) = load_static_address_law r low high a id s f fs next
  act_law s f fs next (LoadText units) = load_text_law r low high a units (literal_object s.literals units) s f fs next
  act_law s f fs next (LoadIndirect access) = load_indirect_law r low high a access s f fs next
  act_law s f fs next (StoreIndirect access) = store_indirect_law r low high a access s f fs next
  act_law s f fs next (NewArray element) = new_array_law r low high a element s f fs next
  act_law s f fs next LoadLength = load_length_law r low high a s f fs next
  act_law s f fs next (LoadElement access) = load_element_law r low high a access s f fs next
  act_law s f fs next (StoreElement access) = store_element_law r low high a access s f fs next
  act_law s f fs next (LoadElementAddress element) = load_element_address_law r low high a element s f fs next
  act_law s f fs next (CastClass type) = cast_class_law r low high a type s f fs next
  act_law s f fs next (IsInstance type) = is_instance_law r low high a type s f fs next
  act_law s f fs next (Box type) = box_value_law r low high a type s f fs next
  act_law s f fs next (Unbox type) = unbox_law r low high a type s f fs next
  act_law s f fs next (UnboxAny type) = same_law (state_to r) _ _ _ _ (cell_law r type) (λ cell. unbox_any_law r low high a type cell s f fs next)
  act_law s f fs next Throw = top_law (state_to r) (value_to r) f.stack _ _ (λ v rest. throw_value_law r low high a s v)
  act_law s f fs next (Rethrow k) =
      ap (throw_again high (state_to r s)) (slice_get-map (slot_to r f.method) f.slots k) ∙ throw_again_law r low high a s f (slice_get f.slots k)
  act_law s f fs next (Leave target) =
      some_law (state_to r) (method_to r f.method) _ _ _ _ (a.method f.method) (λ m.
      ap (λ ks. leave high (state_to r s) (frame_to r f) (map (frame_to r) fs) ks (r.place f.method target)) (left_law r low high a f.method f.place target 0 m.clauses)
      ∙ leave_law r low high a s f fs (left low f.method f.place target 0 m.clauses) target)
  act_law s f fs next (EndFinally k) =
      ap (take_up high (state_to r s) (frame_to r f) (map (frame_to r) fs)) (slice_get-map (slot_to r f.method) f.slots k) ∙ take_up_law r low high a s f fs (slice_get f.slots k)

  started_law : (class : Id) (started : List Id) → list_any (id_eq (r.type class)) (map r.type started) ≡ list_any (id_eq class) started
  started_law class [] = refl
  started_law class (x ∷ xs) = ap (λ b. b || list_any (id_eq (r.type class)) (map r.type xs)) (a.types class x) ∙ ap (λ b. id_eq class x || b) (started_law class xs)

  after_start_law : (s : State) (f : Frame) (fs : List Frame) (line : Line) (needs : Option Initialiser) → after_start high (state_to r s) (frame_to r f) (map (frame_to r) fs) (line_to r f.method line) (option_map (initialiser_to r) needs) ≡ option_map (state_to r) (after_start low s f fs line needs)
  after_start_law s f fs line None = act_law s f fs line.next line.instruction
  after_start_law s f fs line (Some i) =
      if_law (state_to r) _ _ _ _ _ _ (started_law i.class s.started) (act_law s f fs line.next line.instruction) (start_class_law r low high a s i)

  pub step_law : (s : State) → step high (state_to r s) ≡ option_map (state_to r) (step low s)
  unfolding step
  step_law s = go s.frames
    where
      go : (fs : List Frame) → on_frames (map (frame_to r) fs) (λ f fs. on_some (high.fetch f.method f.place) (λ line. after_start high (state_to r s) f fs line line.needs)) ≡ option_map (state_to r) (on_frames fs (λ f fs. on_some (low.fetch f.method f.place) (λ line. after_start low s f fs line line.needs)))
      go [] = refl
      go (f ∷ fs) =
          some_law (state_to r) (line_to r f.method) _ _ _ _ (a.fetch f.method f.place) (λ line. after_start_law s f fs line line.needs)
