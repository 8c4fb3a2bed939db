-- What rows are made of, under a renaming: references, objects and the memory that pointers lead to.
use Rattle.std.proofs.Common.{◌≡◌, ℕ, ◌+◌, Bool, true, false, ◌==◌, ◌&&◌, List, [], ◌∷◌, ◌++◌, map, length, Option, Some, None, refl, sym, ap, ◌∙◌, inl}
use Rattle.std.specs.Prelude.{if◌then◌else◌, slice_set}
use Rattle.std.specs.Option.{option_map}
use Rattle.std.proofs.lemmas.List.{map-append, map-set}
use Rattle.std.proofs.lemmas.Option.{slice_get-map}
use Rattle.board_types.specs.declared.board.Known.{Known}
use Rattle.board_types.specs.declared.board.Known.TheVariants.{NullReference}
use Rattle.machine.specs.Data.{Id, elem_number, put_thing, type_of, type_eq, CliType, Basic, EnumOf, ClassOf, ValueOf, ArrayOf, Cell, Spot, InArgument, InLocal, InObject, Value, Int, Long, Null, Object, Handle, Pointer, Thing, Instance, Text, Elements, Boxed, StaticCell, Frame, State}
use Rattle.machine.specs.Program.{Program, Method}
use Rattle.machine.specs.Numbers.{Answer, Gives, Raises, NoCase}
use Rattle.machine.specs.Rows.{answered, or_raise, on_thing_or, on_thing, on_instance, on_elements, on_cell, total, method_cells, frames_cells, frame_at, put_frame, value_in, with_value, read, Written, write, on_pointer}
use Rattle.machine_rename.specs.Rename.{Renaming, Answers, Asked, type_to, place_type_to, value_to, thing_to, frame_to, state_to, method_to, clause_to}
use Rattle.machine_rename.proofs.Base.{cell_law, some_law, same_law, if_law, length-map_lem, thing_at_law, put_thing_law, goes_law}
use Rattle.machine_rename.proofs.ThrowLaws.{raise_law}
use Rattle.machine_rename.proofs.ValueLaws.{answer_to, Allowed}

-- objects alone
module _ (r : Renaming) where
  pub type_of_law : (x : Thing) → type_of (thing_to r x) ≡ option_map (type_to r) (type_of x)
  type_of_law (Instance class fields) = refl
  type_of_law (Text units) = refl
  type_of_law (Elements element values) = refl
  type_of_law (Boxed type value) = refl
  type_of_law (StaticCell type value) = refl

  pub value_in_law : (x : Thing) (n : ℕ) → value_in (thing_to r x) n ≡ option_map (value_to r) (value_in x n)
  value_in_law (Instance class fields) n = slice_get-map (value_to r) fields n
  value_in_law (Elements element values) n = slice_get-map (value_to r) values n
  value_in_law (Boxed type value) n = refl
  value_in_law (StaticCell type value) n = refl
  value_in_law (Text units) n = refl

  with_value_law : (x : Thing) (n : ℕ) (v : Value) → thing_to r (with_value x n v) ≡ with_value (thing_to r x) n (value_to r v)
  with_value_law (Instance class fields) n v = ap (Instance (r.type class)) (map-set (value_to r) fields n v)
  with_value_law (Elements element values) n v = ap (Elements (type_to r element)) (map-set (value_to r) values n v)
  with_value_law (Boxed type value) n v = refl
  with_value_law (StaticCell type value) n v = refl
  with_value_law (Text units) n v = refl

  -- an object of the heap has a value of its changed
  pub put_value_law : (heap : List Thing) (object : ℕ) (x : Thing) (n : ℕ) (v : Value) → map (thing_to r) (put_thing heap object (with_value x n v)) ≡ put_thing (map (thing_to r) heap) object (with_value (thing_to r x) n (value_to r v))
  put_value_law heap object x n v =
      put_thing_law r heap object (with_value x n v) ∙ ap (put_thing (map (thing_to r) heap) object) (with_value_law x n v)

  -- an object is added
  pub added_law : (heap : List Thing) (x : Thing) → map (thing_to r) (heap ++ x ∷ []) ≡ map (thing_to r) heap ++ thing_to r x ∷ []
  added_law heap x = map-append (thing_to r) heap (x ∷ [])

  pub elements_law : (x : Thing) (k' k : CliType → List Value → Option State) → ((t : CliType) (vs : List Value) → k' (type_to r t) (map (value_to r) vs) ≡ option_map (state_to r) (k t vs)) → on_elements (thing_to r x) k' ≡ option_map (state_to r) (on_elements x k)
  elements_law (Elements element values) k' k h = h element values
  elements_law (Instance class fields) k' k h = refl
  elements_law (Text units) k' k h = refl
  elements_law (Boxed type value) k' k h = refl
  elements_law (StaticCell type value) k' k h = refl

  pub on_cell_law : (t : CliType) (wide : Cell) (k' k : Cell → Option State) → ((c : Cell) → k' c ≡ option_map (state_to r) (k c)) → on_cell (type_to r t) wide k' ≡ option_map (state_to r) (on_cell t wide k)
  on_cell_law t wide k' k h =
      same_law (state_to r) _ _ _ _ (cell_law r t) (λ c. if_law (state_to r) _ _ _ _ _ _ refl (h c) refl)

  pub pointer_law : (v : Value) (wide : Cell) (k' k : Cell → Spot → Option State) → ((c : Cell) (x : Spot) → k' c x ≡ option_map (state_to r) (k c x)) → on_pointer (value_to r v) wide k' ≡ option_map (state_to r) (on_pointer v wide k)
  pointer_law (Pointer c x) wide k' k h = if_law (state_to r) _ _ _ _ _ _ refl (h c x) refl
  pointer_law (Int n) wide k' k h = refl
  pointer_law (Long n) wide k' k h = refl
  pointer_law Null wide k' k h = refl
  pointer_law (Object n) wide k' k h = refl
  pointer_law (Handle f) wide k' k h = refl

module _ (r : Renaming) (low high : Program) (a : Answers r low high) where
  pub type_eq_law : (t u : CliType) → type_eq (type_to r t) (type_to r u) ≡ type_eq t u
  type_eq_law (Basic e) (Basic g) = refl
  type_eq_law (Basic e) (EnumOf g d) = refl
  type_eq_law (Basic e) (ClassOf d) = refl
  type_eq_law (Basic e) (ValueOf d) = refl
  type_eq_law (Basic e) (ArrayOf u) = refl
  type_eq_law (EnumOf e c) (Basic g) = refl
  type_eq_law (EnumOf e c) (EnumOf g d) = ap (λ b. (elem_number e == elem_number g) && b) (a.types c d)
  type_eq_law (EnumOf e c) (ClassOf d) = refl
  type_eq_law (EnumOf e c) (ValueOf d) = refl
  type_eq_law (EnumOf e c) (ArrayOf u) = refl
  type_eq_law (ClassOf c) (Basic g) = refl
  type_eq_law (ClassOf c) (EnumOf g d) = refl
  type_eq_law (ClassOf c) (ClassOf d) = a.types c d
  type_eq_law (ClassOf c) (ValueOf d) = refl
  type_eq_law (ClassOf c) (ArrayOf u) = refl
  type_eq_law (ValueOf c) (Basic g) = refl
  type_eq_law (ValueOf c) (EnumOf g d) = refl
  type_eq_law (ValueOf c) (ClassOf d) = refl
  type_eq_law (ValueOf c) (ValueOf d) = a.types c d
  type_eq_law (ValueOf c) (ArrayOf u) = refl
  type_eq_law (ArrayOf t) (Basic g) = refl
  type_eq_law (ArrayOf t) (EnumOf g d) = refl
  type_eq_law (ArrayOf t) (ClassOf d) = refl
  type_eq_law (ArrayOf t) (ValueOf d) = refl
  type_eq_law (ArrayOf t) (ArrayOf u) = type_eq_law t u

  pub answered_law : (s : State) (f : Frame) (fs : List Frame) (next : ℕ) (rest : List Value) (o : Answer) → Allowed r o → answered high (state_to r s) (frame_to r f) (map (frame_to r) fs) (r.place f.method next) (map (value_to r) rest) (answer_to r o) ≡ option_map (state_to r) (answered low s f fs next rest o)
  answered_law s f fs next rest (Gives v) h = goes_law r low high a s f fs next (v ∷ rest)
  answered_law s f fs next rest (Raises k) h = raise_law r low high a s k (inl h)
  answered_law s f fs next rest NoCase h = refl

  pub or_raise_law : {A A' : Type 0} (h : A → A') (s : State) (known : Known) (o : Option A) (o' : Option A') (k' : A' → Option State) (k : A → Option State) → Asked low known → o' ≡ option_map h o → ((x : A) → k' (h x) ≡ option_map (state_to r) (k x)) → or_raise high (state_to r s) known o' k' ≡ option_map (state_to r) (or_raise low s known o k)
  or_raise_law h s known o o' k' k asked e f = ap (λ q. or_raise high (state_to r s) known q k') e ∙ go o
    where
      go : (o : Option _) → or_raise high (state_to r s) known (option_map h o) k' ≡ option_map (state_to r) (or_raise low s known o k)
      go None = raise_law r low high a s known asked
      go (Some x) = f x

  pub thing_or_law : (s : State) (known : Known) (v : Value) (k' k : ℕ → Thing → Option State) → Asked low known → ((n : ℕ) (t : Thing) → k' n (thing_to r t) ≡ option_map (state_to r) (k n t)) → on_thing_or high (state_to r s) known (value_to r v) k' ≡ option_map (state_to r) (on_thing_or low s known v k)
  thing_or_law s known (Object n) k' k asked h = some_law (state_to r) (thing_to r) _ _ _ _ (thing_at_law r s.heap n) (h n)
  thing_or_law s known Null k' k asked h = raise_law r low high a s known asked
  thing_or_law s known (Int n) k' k asked h = refl
  thing_or_law s known (Long n) k' k asked h = refl
  thing_or_law s known (Handle f) k' k asked h = refl
  thing_or_law s known (Pointer c x) k' k asked h = refl

  pub thing_law : (s : State) (v : Value) (k' k : ℕ → Thing → Option State) → ((n : ℕ) (t : Thing) → k' n (thing_to r t) ≡ option_map (state_to r) (k n t)) → on_thing high (state_to r s) (value_to r v) k' ≡ option_map (state_to r) (on_thing low s v k)
  thing_law s v k' k h = thing_or_law s NullReference v k' k (inl refl) h

  pub instance_law : (owner : Id) (t : Thing) (k' k : Id → List Value → Option State) → ((c : Id) (vs : List Value) → k' (r.type c) (map (value_to r) vs) ≡ option_map (state_to r) (k c vs)) → on_instance high (r.type owner) (thing_to r t) k' ≡ option_map (state_to r) (on_instance low owner t k)
  instance_law owner (Instance c vs) k' k h = if_law (state_to r) _ _ _ _ _ _ (a.is_sub c owner) (h c vs) refl
  instance_law owner (Text units) k' k h = refl
  instance_law owner (Elements element values) k' k h = refl
  instance_law owner (Boxed type value) k' k h = refl
  instance_law owner (StaticCell type value) k' k h = refl

  -- frames
  method_cells_law : (id : Id) (o : Option Method) → method_cells (option_map (method_to r id) o) ≡ method_cells o
  method_cells_law id None = refl
  method_cells_law id (Some m) =
      ap (λ n. 2 + n + length (map (place_type_to r) m.locals) + m.max_stack + length (map (clause_to r id) m.clauses)) (length-map_lem (place_type_to r) m.arguments)
      ∙ ap (λ n. 2 + length m.arguments + n + m.max_stack + length (map (clause_to r id) m.clauses)) (length-map_lem (place_type_to r) m.locals)
      ∙ ap (λ n. 2 + length m.arguments + length m.locals + m.max_stack + n) (length-map_lem (clause_to r id) m.clauses)

  pub frames_law : (fs : List Frame) → frames_cells high (map (frame_to r) fs) ≡ frames_cells low fs
  frames_law [] = refl
  frames_law (f ∷ fs) =
      ap (λ n. n + total (λ g. method_cells (high.method g.method)) (map (frame_to r) fs)) (ap method_cells (a.method f.method) ∙ method_cells_law f.method (low.method f.method))
      ∙ ap (λ n. method_cells (low.method f.method) + n) (frames_law fs)

  frame_at_law : (fs : List Frame) (depth : ℕ) → frame_at high (map (frame_to r) fs) depth ≡ option_map (frame_to r) (frame_at low fs depth)
  frame_at_law [] depth = refl
  frame_at_law (f ∷ fs) depth =
      if_law (frame_to r) _ _ _ _ _ _ (ap (λ n. n == depth) (frames_law (f ∷ fs))) refl (frame_at_law fs depth)

  if_frames : (b b' : Bool) (x y x' y' : List Frame) → b' ≡ b → x' ≡ map (frame_to r) x → y' ≡ map (frame_to r) y → (if b' then x' else y') ≡ map (frame_to r) (if b then x else y)
  if_frames b b' x y x' y' e p q = ap (λ c. if c then x' else y') e ∙ go b
    where
      go : (b : Bool) → (if b then x' else y') ≡ map (frame_to r) (if b then x else y)
      go true = p
      go false = q

  put_frame_law : (fs : List Frame) (depth : ℕ) (g : Frame) → put_frame high (map (frame_to r) fs) depth (frame_to r g) ≡ map (frame_to r) (put_frame low fs depth g)
  put_frame_law [] depth g = refl
  put_frame_law (f ∷ fs) depth g =
      if_frames _ _ _ _ _ _ (ap (λ n. n == depth) (frames_law (f ∷ fs))) refl (ap (λ gs. frame_to r f ∷ gs) (put_frame_law fs depth g))

  -- memory
  pub read_law : (s : State) (f : Frame) (fs : List Frame) (x : Spot) → read high (state_to r s) (frame_to r f) (map (frame_to r) fs) x ≡ option_map (value_to r) (read low s f fs x)
  read_law s f fs (InArgument depth n) =
      some_law (value_to r) (frame_to r) _ _ _ _ (frame_at_law (f ∷ fs) depth) (λ g. slice_get-map (value_to r) g.arguments n)
  read_law s f fs (InLocal depth n) =
      some_law (value_to r) (frame_to r) _ _ _ _ (frame_at_law (f ∷ fs) depth) (λ g. slice_get-map (value_to r) g.locals n)
  read_law s f fs (InObject object n) =
      some_law (value_to r) (thing_to r) _ _ _ _ (thing_at_law r s.heap object) (λ x. value_in_law r x n)

  abbrev pub written_to : Written → Written
  written_to w = record { state = state_to r w.state; arguments = map (value_to r) w.arguments; locals = map (value_to r) w.locals; callers = map (frame_to r) w.callers }

  pub write_law : (s : State) (f : Frame) (fs : List Frame) (x : Spot) (v : Value) → write high (state_to r s) (frame_to r f) (map (frame_to r) fs) x (value_to r v) ≡ option_map written_to (write low s f fs x v)
  write_law s f fs (InArgument depth n) v =
      if_law written_to _ _ _ _ _ _ (ap (λ k. k == depth) (frames_law (f ∷ fs)))
      (ap (λ vs. Some (record { state = state_to r s; arguments = vs; locals = map (value_to r) f.locals; callers = map (frame_to r) fs })) (sym (map-set (value_to r) f.arguments n v)))
      (some_law written_to (frame_to r) _ _ _ _ (frame_at_law fs depth) (λ g.
      ap (λ vs. Some (record { state = state_to r s; arguments = map (value_to r) f.arguments; locals = map (value_to r) f.locals; callers = put_frame high (map (frame_to r) fs) depth (record (frame_to r g) { arguments = vs }) })) (sym (map-set (value_to r) g.arguments n v))
      ∙ ap (λ gs. Some (record { state = state_to r s; arguments = map (value_to r) f.arguments; locals = map (value_to r) f.locals; callers = gs })) (put_frame_law fs depth (record g { arguments = slice_set g.arguments n v }))))
  write_law s f fs (InLocal depth n) v =
      if_law written_to _ _ _ _ _ _ (ap (λ k. k == depth) (frames_law (f ∷ fs)))
      (ap (λ vs. Some (record { state = state_to r s; arguments = map (value_to r) f.arguments; locals = vs; callers = map (frame_to r) fs })) (sym (map-set (value_to r) f.locals n v)))
      (some_law written_to (frame_to r) _ _ _ _ (frame_at_law fs depth) (λ g.
      ap (λ vs. Some (record { state = state_to r s; arguments = map (value_to r) f.arguments; locals = map (value_to r) f.locals; callers = put_frame high (map (frame_to r) fs) depth (record (frame_to r g) { locals = vs }) })) (sym (map-set (value_to r) g.locals n v))
      ∙ ap (λ gs. Some (record { state = state_to r s; arguments = map (value_to r) f.arguments; locals = map (value_to r) f.locals; callers = gs })) (put_frame_law fs depth (record g { locals = slice_set g.locals n v }))))
  write_law s f fs (InObject object n) v =
      some_law written_to (thing_to r) _ _ _ _ (thing_at_law r s.heap object) (λ x.
      ap (λ h. Some (record { state = record (state_to r s) { heap = h }; arguments = map (value_to r) f.arguments; locals = map (value_to r) f.locals; callers = map (frame_to r) fs })) (sym (put_value_law r s.heap object x n v)))
