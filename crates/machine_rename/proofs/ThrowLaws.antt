-- Exceptions under a renaming.
use Rattle.std.proofs.Common.{◌≡◌, ℕ, suc, Bool, true, false, ◌&&◌, not, List, [], ◌∷◌, ◌++◌, map, Option, Some, None, refl, sym, ap, ◌∙◌, inl}
use Rattle.std.specs.Prelude.{if◌then◌else◌, pos, slice_set}
use Rattle.std.specs.Option.{option_map}
use Rattle.std.proofs.lemmas.List.{map-append, map-set}
use Rattle.std.proofs.lemmas.Option.{slice_get-map}
use Rattle.board_types.specs.declared.board.Known.{Known}
use Rattle.board_types.specs.declared.board.Known.TheVariants.{NullReference}
use Rattle.machine.specs.Data.{Id, end_of, CliType, PlaceType, Plain, To, Cell, Bits, Refers, cell_of, Value, Int, Long, Null, Object, Handle, Pointer, Thing, Instance, Text, Elements, Boxed, StaticCell, Turn, Finally, EndFrame, Slot, Nothing, Caught, Throwing, Leaving, Frame, State}
use Rattle.machine.specs.Program.{Program, Clause, ClauseKind, Catch, Final, Idle}
use Rattle.machine.specs.Numbers.{is_long, zero_in, zero_of, zero_place}
use Rattle.machine.specs.Throw.{goes, Scan, scanned, scan, Route, route_of, search_frames, enter_clause, follow, taken, throw, raise, is_final, left, leave, take_up, thrown_class, throw_thing, throw_value, throw_again, throw_exception}
use Rattle.machine_rename.specs.Rename.{Renaming, Answers, Asked, type_to, place_type_to, value_to, thing_to, slot_to, frame_to, state_to, method_to, kind_to, clause_to}
use Rattle.machine_rename.proofs.Base.{if_law, cell_law, some_law, some_eq, end_law, thing_at_law, goes_law}

module _ (r : Renaming) where
  zero_bits : (b : Bool) → value_to r (if b then Long (pos 0) else Int (pos 0)) ≡ (if b then Long (pos 0) else Int (pos 0))
  zero_bits true = refl
  zero_bits false = refl

  zero_in_law : (c : Option Cell) → value_to r (zero_in c) ≡ zero_in c
  zero_in_law None = refl
  zero_in_law (Some Refers) = refl
  zero_in_law (Some (Bits integer)) = zero_bits (is_long integer)

  pub zero_law : (t : CliType) → value_to r (zero_of t) ≡ zero_of (type_to r t)
  unfolding zero_of
  zero_law t = zero_in_law (cell_of t) ∙ ap zero_in (sym (cell_law r t))

  pub zero_place_law : (k : PlaceType) → value_to r (zero_place k) ≡ zero_place (place_type_to r k)
  unfolding zero_place
  zero_place_law (Plain type) = zero_law type
  zero_place_law (To type) = refl

  pub zeros_law : (ks : List CliType) → map (value_to r) (map zero_of ks) ≡ map zero_of (map (type_to r) ks)
  zeros_law [] = refl
  zeros_law (k ∷ ks) = ap (λ v. v ∷ map (value_to r) (map zero_of ks)) (zero_law k) ∙ ap (λ vs. zero_of (type_to r k) ∷ vs) (zeros_law ks)

  -- a new object at the end of the heap
  pub made_law : (heap : List Thing) (class : Id) (ks : List CliType) → map (thing_to r) (heap ++ Instance class (map zero_of ks) ∷ []) ≡ map (thing_to r) heap ++ Instance (r.type class) (map zero_of (map (type_to r) ks)) ∷ []
  made_law heap class ks =
      map-append (thing_to r) heap (Instance class (map zero_of ks) ∷ []) ∙ ap (λ vs. map (thing_to r) heap ++ Instance (r.type class) vs ∷ []) (zeros_law ks)

  is_final_law : (k : ClauseKind) → is_final (kind_to r k) ≡ is_final k
  is_final_law Final = refl
  is_final_law (Catch c) = refl
  is_final_law Idle = refl

module _ (r : Renaming) (low high : Program) (a : Answers r low high) where
  scanned_law : (class : Id) (k : ℕ) (b : Bool) (kind : ClauseKind) (rest : Scan) → scanned high (r.type class) k b (kind_to r kind) rest ≡ scanned low class k b kind rest
  scanned_law class k false kind rest = refl
  scanned_law class k true Final rest = refl
  scanned_law class k true Idle rest = refl
  scanned_law class k true (Catch c) rest =
      ap (λ (b : Bool). if b then record { finals = []; catch = Some k } else rest) (a.is_sub class c)

  scan_law : (m : Id) (place : ℕ) (class : Id) (k : ℕ) (cs : List Clause) → scan high (r.method m) (r.place m place) (r.type class) k (map (clause_to r m) cs) ≡ scan low m place class k cs
  scan_law m place class k [] = refl
  scan_law m place class k (c ∷ cs) =
      ap (λ b. scanned high (r.type class) k b (kind_to r c.kind) (scan high (r.method m) (r.place m place) (r.type class) (suc k) (map (clause_to r m) cs))) (a.try_holds m k place)
      ∙ ap (scanned high (r.type class) k (low.try_holds m k place) (kind_to r c.kind)) (scan_law m place class (suc k) cs)
      ∙ scanned_law class k (low.try_holds m k place) c.kind (scan low m place class (suc k) cs)

  search_law : (class : Id) (fs : List Frame) → search_frames high (r.type class) (map (frame_to r) fs) ≡ search_frames low class fs
  search_law class [] = refl
  search_law class (f ∷ fs) =
      some_eq (method_to r f.method) _ _ _ _ (a.method f.method) (λ m.
      ap (λ (s : Scan). route_of f.initialiser s.finals s.catch (search_frames high (r.type class) (map (frame_to r) fs))) (scan_law f.method f.place class 0 m.clauses)
      ∙ ap (route_of f.initialiser (scan low f.method f.place class 0 m.clauses).finals (scan low f.method f.place class 0 m.clauses).catch) (search_law class fs))

  enter_clause_law : (s : State) (f : Frame) (fs : List Frame) (k : ℕ) (stack : List Value) (slot : Slot) → enter_clause high (state_to r s) (frame_to r f) (map (frame_to r) fs) k (map (value_to r) stack) (slot_to r f.method slot) ≡ option_map (state_to r) (enter_clause low s f fs k stack slot)
  unfolding enter_clause
  enter_clause_law s f fs k stack slot =
      some_law (state_to r) (method_to r f.method) _ _ _ _ (a.method f.method) (λ m.
      some_law (state_to r) (clause_to r f.method) _ _ _ _ (slice_get-map (clause_to r f.method) m.clauses k) (λ c.
      ap (λ ss. goes high (state_to r s) (record (frame_to r f) { slots = ss }) (map (frame_to r) fs) (r.place f.method c.start) (map (value_to r) stack)) (sym (map-set (slot_to r f.method) f.slots k slot))
      ∙ goes_law r low high a s (record f { slots = slice_set f.slots k slot }) fs c.start stack))

  follow_law : (s : State) (fs : List Frame) (turns : List Turn) (catch object : ℕ) → follow high (state_to r s) (map (frame_to r) fs) turns catch object ≡ option_map (state_to r) (follow low s fs turns catch object)
  follow_law s [] turns catch object = refl
  follow_law s (f ∷ fs) [] catch object = enter_clause_law s f fs catch (Object object ∷ []) (Caught object)
  follow_law s (f ∷ fs) (Finally k ∷ turns) catch object = enter_clause_law s f fs k [] (Throwing turns catch object)
  follow_law s (f ∷ fs) (EndFrame ∷ turns) catch object = follow_law s fs turns catch object

  taken_law : (s : State) (class : Id) (object : ℕ) (way : Option Route) → taken high (state_to r s) (r.type class) object way ≡ option_map (state_to r) (taken low s class object way)
  taken_law s class object None = refl
  taken_law s class object (Some w) = follow_law s s.frames w.turns w.catch object

  pub throw_law : (s : State) (class : Id) (object : ℕ) → throw high (state_to r s) (r.type class) object ≡ option_map (state_to r) (throw low s class object)
  unfolding throw
  throw_law s class object =
      ap (taken high (state_to r s) (r.type class) object) (search_law class s.frames) ∙ taken_law s class object (search_frames low class s.frames)

  pub raise_law : (s : State) (known : Known) → Asked low known → raise high (state_to r s) known ≡ option_map (state_to r) (raise low s known)
  unfolding raise
  raise_law s known asked =
      some_law (state_to r) r.type _ _ _ _ (a.known known asked) (λ class.
      some_law (state_to r) (map (type_to r)) _ _ _ _ (a.fields class) (λ ks.
      ap (λ n. throw high (record (state_to r s) { heap = map (thing_to r) s.heap ++ Instance (r.type class) (map zero_of (map (type_to r) ks)) ∷ [] }) (r.type class) n) (end_law r s.heap)
      ∙ ap (λ h. throw high (record (state_to r s) { heap = h }) (r.type class) (end_of s.heap)) (sym (made_law r s.heap class ks))
      ∙ throw_law (record s { heap = s.heap ++ Instance class (map zero_of ks) ∷ [] }) class (end_of s.heap)))

  pub left_law : (m : Id) (from to k : ℕ) (cs : List Clause) → left high (r.method m) (r.place m from) (r.place m to) k (map (clause_to r m) cs) ≡ left low m from to k cs
  left_law m from to k [] = refl
  left_law m from to k (c ∷ cs) =
      ap (λ (b : Bool). let rest = left high (r.method m) (r.place m from) (r.place m to) (suc k) (map (clause_to r m) cs) in if b && (high.try_holds (r.method m) k (r.place m from) && not (high.try_holds (r.method m) k (r.place m to))) then k ∷ rest else rest) (is_final_law r c.kind)
      ∙ ap (λ (b : Bool). let rest = left high (r.method m) (r.place m from) (r.place m to) (suc k) (map (clause_to r m) cs) in if is_final c.kind && (b && not (high.try_holds (r.method m) k (r.place m to))) then k ∷ rest else rest) (a.try_holds m k from)
      ∙ ap (λ (b : Bool). let rest = left high (r.method m) (r.place m from) (r.place m to) (suc k) (map (clause_to r m) cs) in if is_final c.kind && (low.try_holds m k from && not b) then k ∷ rest else rest) (a.try_holds m k to)
      ∙ ap (λ (rest : List ℕ). if is_final c.kind && (low.try_holds m k from && not (low.try_holds m k to)) then k ∷ rest else rest) (left_law m from to (suc k) cs)

  pub leave_law : (s : State) (f : Frame) (fs : List Frame) (finals : List ℕ) (target : ℕ) → leave high (state_to r s) (frame_to r f) (map (frame_to r) fs) finals (r.place f.method target) ≡ option_map (state_to r) (leave low s f fs finals target)
  leave_law s f fs [] target = goes_law r low high a s f fs target []
  leave_law s f fs (k ∷ ks) target = enter_clause_law s f fs k [] (Leaving ks target)

  pub take_up_law : (s : State) (f : Frame) (fs : List Frame) (slot : Option Slot) → take_up high (state_to r s) (frame_to r f) (map (frame_to r) fs) (option_map (slot_to r f.method) slot) ≡ option_map (state_to r) (take_up low s f fs slot)
  take_up_law s f fs (Some (Throwing turns catch object)) = follow_law s (f ∷ fs) turns catch object
  take_up_law s f fs (Some (Leaving finals target)) = leave_law s f fs finals target
  take_up_law s f fs (Some Nothing) = refl
  take_up_law s f fs (Some (Caught object)) = refl
  take_up_law s f fs None = refl

  thrown_class_law : (t : Thing) → thrown_class (thing_to r t) ≡ option_map r.type (thrown_class t)
  thrown_class_law (Instance class fields) = refl
  thrown_class_law (Text units) = refl
  thrown_class_law (Elements element values) = refl
  thrown_class_law (Boxed type value) = refl
  thrown_class_law (StaticCell type value) = refl

  throw_thing_law : (s : State) (object : ℕ) → throw_thing high (state_to r s) object ≡ option_map (state_to r) (throw_thing low s object)
  unfolding throw_thing
  throw_thing_law s object =
      some_law (state_to r) (thing_to r) _ _ _ _ (thing_at_law r s.heap object) (λ thing.
      some_law (state_to r) r.type _ _ _ _ (thrown_class_law thing) (λ class. throw_law s class object))

  throw_exception_law : (s : State) (object : ℕ) → throw_exception high (state_to r s) object ≡ option_map (state_to r) (throw_exception low s object)
  unfolding throw_exception
  throw_exception_law s object =
      some_law (state_to r) (thing_to r) _ _ _ _ (thing_at_law r s.heap object) (λ thing.
      some_law (state_to r) r.type _ _ _ _ (thrown_class_law thing) (λ class.
      some_law (state_to r) r.type _ _ _ _ a.exception (λ top.
      if_law (state_to r) _ _ _ _ _ _ (a.is_sub class top) (throw_law s class object) refl)))

  pub throw_value_law : (s : State) (v : Value) → throw_value high (state_to r s) (value_to r v) ≡ option_map (state_to r) (throw_value low s v)
  throw_value_law s (Object n) = throw_exception_law s n
  throw_value_law s Null = raise_law s NullReference (inl refl)
  throw_value_law s (Int n) = refl
  throw_value_law s (Long n) = refl
  throw_value_law s (Handle h) = refl
  throw_value_law s (Pointer c x) = refl

  pub throw_again_law : (s : State) (f : Frame) (slot : Option Slot) → throw_again high (state_to r s) (option_map (slot_to r f.method) slot) ≡ option_map (state_to r) (throw_again low s slot)
  throw_again_law s f (Some (Caught object)) = throw_thing_law s object
  throw_again_law s f (Some (Throwing turns catch object)) = refl
  throw_again_law s f (Some (Leaving finals target)) = refl
  throw_again_law s f (Some Nothing) = refl
  throw_again_law s f None = refl
