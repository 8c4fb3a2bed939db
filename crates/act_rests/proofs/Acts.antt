-- Each act keeps the rest.
use Rattle.std.proofs.Common.{ℕ, ◌-◌, Bool, List, [], ◌∷◌, ◌++◌, map, length, replicate, Option, refl}
use Rattle.std.specs.Prelude.{if◌then◌else◌, slice_get, slice_set, unsigned_abs}
use Rattle.board_types.specs.declared.board.Known.TheVariants.{IndexOutOfRange, Overflow, InvalidCast, ArrayTypeMismatch}
use Rattle.machine.specs.Data.{Id, CliType, Plain, Bits, Refers, Cell, cell_of, InArgument, InLocal, InObject, put_thing, end_of, Value, Null, Object, Pointer, Thing, Instance, Elements, Boxed, Frame, State}
use Rattle.machine.specs.Numbers.{is_negative, kept, kept_in, zero_of, as_int}
use Rattle.machine.specs.Rows.{frames_cells, index_of, read, take_arguments, keep_all}
use Rattle.machine.specs.Throw.{goes, left}
use Rattle.machine.specs.Program.{Program, Access, access_cell, Instruction, Nop, Push, Dup, Pop, LoadArgument, StoreArgument, LoadArgumentAddress, LoadLocal, StoreLocal, LoadLocalAddress, Binary, Shift, Unary, Compare, Convert, ConvertChecked, Branch, BranchIf, BranchCompare, Switch, Call, CallVirtual, NewObject, Return, LoadField, StoreField, LoadFieldAddress, LoadStatic, StoreStatic, LoadStaticAddress, LoadText, LoadIndirect, StoreIndirect, NewArray, LoadLength, LoadElement, StoreElement, LoadElementAddress, CastClass, IsInstance, Box, Unbox, UnboxAny, Throw, Rethrow, Leave, EndFinally}
use Rattle.machine.specs.Objects.{load_field, store_field, load_field_address, load_indirect, store_indirect, new_array, load_length, load_element, store_element, load_element_address, cast_class, is_instance, box_value, unbox, unbox_value, unbox_any, value_fits, is_exact}
use Rattle.machine.specs.Calls.{new_object, return_value, result_of}
use Rattle.machine.specs.Step.{branch_if, place_cell, act}
use Rattle.act_rests.specs.Rests.{LeavesRest}
use Rattle.act_rests.proofs.Kept.{Keeps, some, top, either, same, went, raised}
use Rattle.act_rests.proofs.Rows.{two, three, answer, or_raised, thing, instance, elements, cell, pointer, written, left_by, took_up, thrown, thrown_again, constructed, handed_back}

module _ (p : Program) (s : State) (f : Frame) (fs : List Frame) (next : ℕ) where
  -- the frame goes on, with the state's objects as they are or changed
  on : (place : ℕ) (stack : List Value) → Keeps s (goes p s f fs place stack)
  on place stack = went s p s (same s) f fs place stack

  heaped : (heap : List Thing) (stack : List Value) → Keeps s (goes p (record s { heap = heap }) f fs next stack)
  heaped heap stack = went s p (record s { heap = heap }) (record { literals = refl; statics = refl; started = refl; output = refl }) f fs next stack

  branched : (b : Bool) (target : ℕ) (test : Option Bool) (rest : List Value) → Keeps s (branch_if p s f fs next b target test rest)
  branched b target test rest = some s test _ (λ x. on _ rest)

  field_loaded : (owner : Id) (n : ℕ) → Keeps s (load_field p s f fs next owner n)
  unfolding load_field
  field_loaded owner n = top s f.stack _ (λ this rest. thing p s this _ (λ object x. instance p s owner x _ (λ class fields. some s _ _ (λ v. on next (v ∷ rest)))))

  field_stored : (owner : Id) (n : ℕ) → Keeps s (store_field p s f fs next owner n)
  unfolding store_field
  field_stored owner n = two p s f.stack _ (λ this v rest. some s (p.fields owner) _ (λ types. some s (slice_get types n) _ (λ type. some s (kept (Plain type) v) _ (λ w. thing p s this _ (λ object x. instance p s owner x _ (λ class fields. heaped (put_thing s.heap object (Instance class (slice_set fields n w))) rest))))))

  field_pointed : (owner : Id) (n : ℕ) → Keeps s (load_field_address p s f fs next owner n)
  unfolding load_field_address
  field_pointed owner n = top s f.stack _ (λ this rest. some s (p.fields owner) _ (λ types. some s (slice_get types n) _ (λ type. some s (cell_of type) _ (λ c. thing p s this _ (λ object x. instance p s owner x _ (λ class fields. on next (Pointer c (InObject object n) ∷ rest)))))))

  indirect_loaded : (access : Access) → Keeps s (load_indirect p s f fs next access)
  unfolding load_indirect
  indirect_loaded access = some s (access_cell access) _ (λ wide. top s f.stack _ (λ v rest. pointer p s v wide _ (λ c spot. some s (read p s f fs spot) _ (λ w. some s (kept_in wide w) _ (λ x. on next (x ∷ rest))))))

  indirect_stored : (access : Access) → Keeps s (store_indirect p s f fs next access)
  unfolding store_indirect
  indirect_stored access = some s (access_cell access) _ (λ wide. two p s f.stack _ (λ at v rest. pointer p s at wide _ (λ c spot. some s (kept_in c v) _ (λ w. written p s f fs spot w _ (λ t k. went s p t.state k (record f { arguments = t.arguments; locals = t.locals }) t.callers next rest)))))

  array_made : (element : CliType) → Keeps s (new_array p s f fs next element)
  unfolding new_array
  array_made element = some s (cell_of element) _ (λ c. top s f.stack _ (λ v rest. some s (as_int v) _ (λ n. either s (is_negative n) _ _ (raised s p Overflow) (heaped (s.heap ++ Elements element (replicate (unsigned_abs n) (zero_of element)) ∷ []) (Object (end_of s.heap) ∷ rest)))))

  length_loaded : Keeps s (load_length p s f fs next)
  unfolding load_length
  length_loaded = top s f.stack _ (λ this rest. thing p s this _ (λ object x. elements p s x _ (λ element values. on next _)))

  element_loaded : (access : Access) → Keeps s (load_element p s f fs next access)
  unfolding load_element
  element_loaded access = some s (access_cell access) _ (λ wide. two p s f.stack _ (λ this index rest. some s (as_int index) _ (λ i. thing p s this _ (λ object x. elements p s x _ (λ element values. cell p s element wide _ (λ c. or_raised p s IndexOutOfRange (slice_get values (index_of i)) _ (λ v. some s (kept_in wide v) _ (λ w. on next (w ∷ rest)))))))))

  element_stored : (access : Access) → Keeps s (store_element p s f fs next access)
  unfolding store_element
  element_stored access =
      some s (access_cell access) _ (λ wide. three p s f.stack _ (λ this index v rest. some s (as_int index) _ (λ i. some s (kept_in wide v) _ (λ w. thing p s this _ (λ object x. elements p s x _ (λ element values. cell p s element wide _ (λ c. or_raised p s IndexOutOfRange (slice_get values (index_of i)) _ (λ old.
      some s (value_fits p s.heap element w) _ (λ ok. either s ok _ _ (some s (kept_in c w) _ (λ y. heaped (put_thing s.heap object (Elements element (slice_set values (index_of i) y))) rest)) (raised s p ArrayTypeMismatch))))))))))

  element_pointed : (type : CliType) → Keeps s (load_element_address p s f fs next type)
  unfolding load_element_address
  element_pointed type = some s (cell_of type) _ (λ wide. two p s f.stack _ (λ this index rest. some s (as_int index) _ (λ i. thing p s this _ (λ object x. elements p s x _ (λ element values. cell p s element wide _ (λ c. or_raised p s IndexOutOfRange (slice_get values (index_of i)) _ (λ old. either s (is_exact c element type) _ _ (on next (Pointer c (InObject object (index_of i)) ∷ rest)) (raised s p ArrayTypeMismatch))))))))

  cast : (type : CliType) → Keeps s (cast_class p s f fs next type)
  unfolding cast_class
  cast type = top s f.stack _ (λ v rest. some s (kept_in Refers v) _ (λ w. some s (value_fits p s.heap type w) _ (λ ok. either s ok _ _ (on next (w ∷ rest)) (raised s p InvalidCast))))

  tested : (type : CliType) → Keeps s (is_instance p s f fs next type)
  unfolding is_instance
  tested type = top s f.stack _ (λ v rest. some s (kept_in Refers v) _ (λ w. some s (value_fits p s.heap type w) _ (λ ok. on next ((if ok then w else Null) ∷ rest))))

  boxed : (type : CliType) → Keeps s (box_value p s f fs next type)
  unfolding box_value
  boxed type = some s (cell_of type) _ (λ c. top s f.stack _ (λ v rest. some s (kept_in c v) _ (λ w. heaped (s.heap ++ Boxed type w ∷ []) (Object (end_of s.heap) ∷ rest))))

  unboxed : (type : CliType) → Keeps s (unbox p s f fs next type)
  unfolding unbox
  unboxed type = some s _ _ (λ c. top s f.stack _ (λ v rest. thing p s v _ (λ object x. or_raised p s InvalidCast _ _ (λ old. on next _))))

  any_unboxed : (type : CliType) (c : Cell) → Keeps s (unbox_any p s f fs next type c)
  unfolding unbox_value
  any_unboxed type Refers = cast type
  any_unboxed type (Bits integer) = top s f.stack _ (λ v rest. thing p s v _ (λ object x. or_raised p s InvalidCast _ _ (λ w. on next (w ∷ rest))))

  object_made : (class constructor : Id) → Keeps s (new_object p s f fs class constructor)
  unfolding new_object
  object_made class constructor =
      some s (p.method constructor) _ (λ m. some s (p.fields class) _ (λ types. some s (take_arguments (length m.arguments - 1) f.stack []) _ (λ t. some s (keep_all m.arguments (Object (end_of s.heap) ∷ t.arguments)) _ (λ arguments.
      constructed p s (record s { heap = s.heap ++ Instance class (map zero_of types) ∷ [] }) (record { literals = refl; statics = refl; started = refl; output = refl }) f fs (Object (end_of s.heap) ∷ t.rest) constructor m arguments m.body))))

  returned : Keeps s (return_value p s f fs)
  unfolding return_value
  returned = some s (p.method f.method) _ (λ m. some s (result_of m.returns f.stack) _ (λ v. handed_back p s f.initialiser v fs))

  pub acted : (i : Instruction) → LeavesRest i → Keeps s (act p s f fs next i)
  acted Nop h = on next f.stack
  acted (Push v) h = on next (v ∷ f.stack)
  acted Dup h = top s f.stack _ (λ v rest. on next (v ∷ v ∷ rest))
  acted Pop h = top s f.stack _ (λ v rest. on next rest)
  acted (LoadArgument n) h = some s _ _ (λ v. on next (v ∷ f.stack))
  acted (StoreArgument n) h = some s (p.method f.method) _ (λ m. some s (slice_get m.arguments n) _ (λ type. top s f.stack _ (λ v rest. some s (kept type v) _ (λ w. went s p s (same s) (record f { arguments = slice_set f.arguments n w }) fs next rest))))
  acted (LoadArgumentAddress n) h = some s (p.method f.method) _ (λ m. some s (slice_get m.arguments n) _ (λ type. some s (place_cell type) _ (λ c. on next (Pointer c (InArgument (frames_cells p (f ∷ fs)) n) ∷ f.stack))))
  acted (LoadLocal n) h = some s _ _ (λ v. on next (v ∷ f.stack))
  acted (StoreLocal n) h = some s (p.method f.method) _ (λ m. some s (slice_get m.locals n) _ (λ type. top s f.stack _ (λ v rest. some s (kept type v) _ (λ w. went s p s (same s) (record f { locals = slice_set f.locals n w }) fs next rest))))
  acted (LoadLocalAddress n) h = some s (p.method f.method) _ (λ m. some s (slice_get m.locals n) _ (λ type. some s (place_cell type) _ (λ c. on next (Pointer c (InLocal (frames_cells p (f ∷ fs)) n) ∷ f.stack))))
  acted (Binary operator) h = two p s f.stack _ (λ x y rest. answer p s f fs next rest _)
  acted (Shift operator) h = two p s f.stack _ (λ x y rest. some s _ _ (λ v. on next (v ∷ rest)))
  acted (Unary operator) h = top s f.stack _ (λ x rest. some s _ _ (λ v. on next (v ∷ rest)))
  acted (Compare comparison) h = two p s f.stack _ (λ x y rest. some s _ _ (λ b. on next _))
  acted (Convert integer) h = top s f.stack _ (λ x rest. some s _ _ (λ v. on next (v ∷ rest)))
  acted (ConvertChecked integer source) h = top s f.stack _ (λ x rest. answer p s f fs next rest _)
  acted (Branch target) h = on target f.stack
  acted (BranchIf b target) h = top s f.stack _ (λ v rest. branched b target _ rest)
  acted (BranchCompare comparison b target) h = two p s f.stack _ (λ x y rest. branched b target _ rest)
  acted (Switch targets) h = top s f.stack _ (λ v rest. some s _ _ (λ n. on _ rest))
  acted (Call method) h = absurd h
  acted (CallVirtual method) h = absurd h
  acted (NewObject class constructor) h = object_made class constructor
  acted Return h = returned
  acted (LoadField owner n) h = field_loaded owner n
  acted (StoreField owner n) h = field_stored owner n
  acted (LoadFieldAddress owner n) h = field_pointed owner n
  acted (LoadStatic field) h = absurd h
  acted (StoreStatic field) h = absurd h
  acted (LoadStaticAddress field) h = absurd h
  acted (LoadText units) h = absurd h
  acted (LoadIndirect access) h = indirect_loaded access
  acted (StoreIndirect access) h = indirect_stored access
  acted (NewArray element) h = array_made element
  acted LoadLength h = length_loaded
  acted (LoadElement access) h = element_loaded access
  acted (StoreElement access) h = element_stored access
  acted (LoadElementAddress type) h = element_pointed type
  acted (CastClass type) h = cast type
  acted (IsInstance type) h = tested type
  acted (Box type) h = boxed type
  acted (Unbox type) h = unboxed type
  acted (UnboxAny type) h = some s _ _ (λ c. any_unboxed type c)
  acted Throw h = top s f.stack _ (λ v rest. thrown p s v)
  acted (Rethrow k) h = thrown_again p s _
  acted (Leave target) h = some s (p.method f.method) _ (λ m. left_by p s f fs (left p f.method f.place target 0 m.clauses) target)
  acted (EndFinally k) h = took_up p s f fs _
