-- The rows of every instruction, of the two kinds of rows.
use Rattle.std.proofs.Common.{◌≡◌, ℕ, ℤ, Bool, true, false, ◌&&◌, ◌||◌, not, List, [], ◌∷◌, ◌++◌, map, length, Option, Some, None, refl, sym, ap, ◌∙◌, subst}
use Rattle.std.specs.Prelude.{if◌then◌else◌, slice_get, nat_lt, is_some, unsigned_abs}
use Rattle.std.specs.Option.{option_map}
use Rattle.std.specs.List.{position}
use Rattle.std.proofs.lemmas.Bool.{and_parts}
use Rattle.cil_opcodes.specs.declared.shape.Access.{Access}
use Rattle.cil_opcodes.specs.declared.shape.Shape.{Shape}
use Rattle.cil_opcodes.specs.declared.shape.Shape.TheVariants as shape
use Rattle.machine.specs.Data.{Id, id_eq, CliType, Basic, ClassOf, ArrayOf, PlaceType, Int, Long, Null, Handle}
use Rattle.plain_types.specs.declared.elem.Elem.TheVariants as elem
use Rattle.machine.specs.Program.{Program, Method, Instruction, Nop, Push, Dup, Pop, LoadArgument, StoreArgument, LoadArgumentAddress, LoadLocal, StoreLocal, LoadLocalAddress, Binary, Shift, Unary, Compare, Convert, ConvertChecked, Branch, BranchIf, BranchCompare, Switch, Call, CallVirtual, NewObject, Return, LoadField, StoreField, LoadFieldAddress, LoadStatic, StoreStatic, LoadStaticAddress, LoadText, LoadIndirect, StoreIndirect, NewArray, LoadLength, LoadElement, StoreElement, LoadElementAddress, CastClass, IsInstance, Box, Unbox, UnboxAny, Throw, Rethrow, Leave, EndFinally, Typed}
use Rattle.machine.specs.Program.{Access as MemoryAccess}
use Rattle.machine.specs.Numbers.{is_long}
use Rattle.machine.specs.Throw.{on_some}
use Rattle.machine_typed.specs.Typing.{StackType, I, L, Nil, O, P, Sort, IntSort, LongSort, ReferenceSort, OtherSort, number, of_type, loaded, is_plain, is_number, assignable, when, sort_of, binary_type, shift_type, unary_type, is_comparable, compares_references, branches_on_references, is_condition, is_int, is_reference, accessed, array_takes, has_body, has_receiver}
use Rattle.classes.specs.Classes.{Classes, OwnField, OwnMethod}
use Rattle.classes.specs.Code.{Operand as CodeOperand, CodeClause, MethodCode, Sources}
use Rattle.classes.specs.Queries.{is_instance_kind, is_static_kind, data_of, field_at, method_at, instance_fields}
use Rattle.classes.specs.Queries.{this_of, type_of as type_in, place_of as place_in}
use Rattle.class_rules.specs.Made.{is_made as is_made_in}
use Rattle.classes.specs.Listed.{target_of, targets_of, type_of_operand, field_of, method_of, text_of, access_of, innermost, is_catch_kind, is_finally_kind, is_constructor, instruction_of, program_of}
use Rattle.class_rules.specs.Rules.{holds_some}
use Rattle.class_rules.specs.Facts.{is_reference_class}
use Rattle.code_rules.specs.Rows.{Row, row, one, two, none, named, with_place, pushing, storing, address_row, row_of}
use Rattle.code_rules.specs.Verdict.{names_type, names_field, names_method, has_this, typed_access, number_fits, stands, stands_without}
use Rattle.code_rules.specs.Verdict.{is_callable as may_be_called, is_new as may_be_made, is_instance_field as is_of_instance, operand_fits as operand_fits_in}
use Rattle.code_rules.proofs.OperandLaws.{some_holds}
use Rattle.place_types.specs.Types.{id_of, type_of, place_of, id_up, type_up, place_up, stack_up}
use Rattle.verify_ops.specs.declared.facts.Facts.{Facts}
use Rattle.verify_ops.specs.declared.facts.FieldOperand.{FieldOperand}
use Rattle.verify_ops.specs.declared.facts.MethodOperand.{MethodOperand}
use Rattle.verify_ops.specs.Facts.{field_named, method_named, is_abstract, is_callable, is_new, is_instance_field, is_static_field, is_data_field, access_named, with_type, this_place, callee, body_of, somewhere, operand_fits, instruction_by, method_by, program_by}
use Rattle.verify_ops.specs.Effects.{is_never}
use Rattle.ecma_effects.specs.Known.{IsField, IsMethod, IsWhole, IsKnown}
use Rattle.ecma_effects.specs.Steps.{FitsUp}
use Rattle.ecma_effects.proofs.Renamed.{access_up, array_up, plain_up, number_up, number_kept, number_has, of_type_up, loaded_up, sort_up, int_up, reference_up, pointee_up, array_of_up, pointer_takes_up, accessed_up, accessed_has, element_loaded_up, element_has, array_takes_up, element_takes_up, plain_has}
use Rattle.ecma_effects.proofs.Rows.{Maps, maps_none, maps_empty, maps_single, maps_when, maps_on, none_gives, one_gives, two_gives, three_gives, Alike, row_alike}
use Rattle.ecma_effects.proofs.Owners.{class_refers, place_receives, class_receives}
use Rattle.ecma_effects.proofs.Operands.{and_same, plain_takes, types_take, element_takes_type, access_takes, element_access_takes, type_there, access_there, both_some, fields_take, methods_take, instance_asks, static_asks, data_asks, call_asks, virtual_asks, new_asks}
use Rattle.ecma_effects.proofs.Members.{place_rows, place_counts, BreaksNumber, no_place, load_alike, address_alike, fits_place, storing_alike, return_alike, field_rows, static_rows, data_rows, call_rows, new_rows, called}

-- ---- operators

binary_maps : (s t : Sort) → Maps (on_some (binary_type s t) (λ r. Some (r ∷ []))) (on_some (binary_type s t) (λ r. Some (r ∷ [])))
binary_maps IntSort IntSort = maps_single I I refl refl
binary_maps IntSort LongSort = maps_none
binary_maps IntSort ReferenceSort = maps_none
binary_maps IntSort OtherSort = maps_none
binary_maps LongSort IntSort = maps_none
binary_maps LongSort LongSort = maps_single L L refl refl
binary_maps LongSort ReferenceSort = maps_none
binary_maps LongSort OtherSort = maps_none
binary_maps ReferenceSort IntSort = maps_none
binary_maps ReferenceSort LongSort = maps_none
binary_maps ReferenceSort ReferenceSort = maps_none
binary_maps ReferenceSort OtherSort = maps_none
binary_maps OtherSort IntSort = maps_none
binary_maps OtherSort LongSort = maps_none
binary_maps OtherSort ReferenceSort = maps_none
binary_maps OtherSort OtherSort = maps_none

shift_maps : (s t : Sort) → Maps (on_some (shift_type s t) (λ r. Some (r ∷ []))) (on_some (shift_type s t) (λ r. Some (r ∷ [])))
shift_maps IntSort IntSort = maps_single I I refl refl
shift_maps IntSort LongSort = maps_none
shift_maps IntSort ReferenceSort = maps_none
shift_maps IntSort OtherSort = maps_none
shift_maps LongSort IntSort = maps_single L L refl refl
shift_maps LongSort LongSort = maps_none
shift_maps LongSort ReferenceSort = maps_none
shift_maps LongSort OtherSort = maps_none
shift_maps ReferenceSort IntSort = maps_none
shift_maps ReferenceSort LongSort = maps_none
shift_maps ReferenceSort ReferenceSort = maps_none
shift_maps ReferenceSort OtherSort = maps_none
shift_maps OtherSort IntSort = maps_none
shift_maps OtherSort LongSort = maps_none
shift_maps OtherSort ReferenceSort = maps_none
shift_maps OtherSort OtherSort = maps_none

unary_maps : (s : Sort) → Maps (on_some (unary_type s) (λ r. Some (r ∷ []))) (on_some (unary_type s) (λ r. Some (r ∷ [])))
unary_maps IntSort = maps_single I I refl refl
unary_maps LongSort = maps_single L L refl refl
unary_maps ReferenceSort = maps_none
unary_maps OtherSort = maps_none

convert_maps : (b : Bool) (s : Sort) → Maps (on_some (unary_type s) (λ r. Some (number b ∷ []))) (on_some (unary_type s) (λ r. Some (number b ∷ [])))
convert_maps b IntSort = maps_single (number b) (number b) (number_kept b) (number_has b)
convert_maps b LongSort = maps_single (number b) (number b) (number_kept b) (number_has b)
convert_maps b ReferenceSort = maps_none
convert_maps b OtherSort = maps_none

by_sort : (g : Sort → Option (List StackType)) → ((s : Sort) → Maps (g s) (g s)) → (t : StackType) → Maps (g (sort_of t)) (g (sort_of (stack_up t)))
by_sort g f t = subst (λ s. Maps (g (sort_of t)) (g s)) (sym (sort_up t)) (f (sort_of t))

by_sorts : (g : Sort → Sort → Option (List StackType)) → ((s r : Sort) → Maps (g s r) (g s r)) → (t u : StackType) → Maps (g (sort_of t) (sort_of u)) (g (sort_of (stack_up t)) (sort_of (stack_up u)))
by_sorts g f t u =
    subst (λ s. Maps (g (sort_of t) (sort_of u)) (g s (sort_of (stack_up u)))) (sym (sort_up t))
    (subst (λ r. Maps (g (sort_of t) (sort_of u)) (g (sort_of t) r)) (sym (sort_up u)) (f (sort_of t) (sort_of u)))

comparable_up : (b : Bool) (t u : StackType) → is_comparable b (sort_of (stack_up t)) (sort_of (stack_up u)) ≡ is_comparable b (sort_of t) (sort_of u)
comparable_up b t u = ap (λ s. is_comparable b s (sort_of (stack_up u))) (sort_up t) ∙ ap (is_comparable b (sort_of t)) (sort_up u)

is_there : {A : Type 0} (o : Option A) → is_some o ≡ true → (a : A) × (o ≡ Some a)
is_there None h = absurd (cc h)
is_there (Some a) h = (a, refl)

-- where 45 isn't broken, an instruction that ends a handler is there
stands_there : (cs : List CodeClause) (at : ℕ) (s : Shape) (z : Option ℕ) (make : ℕ → Instruction) → stands_without s ≡ false → stands cs at s (option_map make z) ≡ true → (k : ℕ) × (z ≡ Some k)
stands_there cs at s None make w h = absurd (cc (sym w ∙ h))
stands_there cs at s (Some k) make w h = (k, refl)

-- ---- the rows of an instruction

pub record SameRows (x : Sources) (exception : CliType) (m : Method) (code : MethodCode) (at : ℕ) (o : CodeOperand) (f : Facts) (n : ℤ) (fits : CliType → CliType → Bool) (s : Shape) : Type 0 where
  pub mine : Instruction
  pub theirs : Instruction
  pub here : instruction_of x.classes code at s o ≡ Some mine
  pub there : instruction_by s n f.operand ≡ Some theirs
  pub number : number_fits (method_by f) theirs ≡ number_fits m mine
  pub broken : number_fits m mine ≡ false → BreaksNumber (row_of (program_of x) exception m mine)
  pub alike : Alike (row_of (program_of x) exception m mine) (row_of (program_by fits f.operand) (type_of f.exception) (method_by f) theirs)

pub record Same (x : Sources) (exception : CliType) (m : Method) (code : MethodCode) (at : ℕ) (o : CodeOperand) (f : Facts) (n : ℤ) (fits : CliType → CliType → Bool) (s : Shape) : Type 0 where
  pub takes : operand_fits s f.operand ≡ operand_fits_in x.classes s o
  pub rows : operand_fits_in x.classes s o ≡ true → IsWhole s o n → stands code.clauses at s (instruction_of x.classes code at s o) ≡ true → SameRows x exception m code at o f n fits s

module _ (x : Sources) (exception : CliType) (m : Method) (code : MethodCode) (at : ℕ) (o : CodeOperand) (f : Facts) (n : ℤ) (fits : CliType → CliType → Bool) (order : FitsUp x fits) (known : IsKnown x exception m o f) where
  abbrev cs : Classes
  cs = x.classes

  abbrev p : Program
  p = program_of x

  abbrev q : Program
  q = program_by fits f.operand

  abbrev Rows : Shape → Type 0
  Rows s = SameRows x exception m code at o f n fits s

  abbrev row_mine : Instruction → Row
  row_mine i = row_of p exception m i

  abbrev row_theirs : Instruction → Row
  row_theirs i = row_of q (type_of f.exception) (method_by f) i

  same_rows : (s : Shape) (i j : Instruction) → instruction_of cs code at s o ≡ Some i → instruction_by s n f.operand ≡ Some j → number_fits m i ≡ true → number_fits (method_by f) j ≡ true → Alike (row_mine i) (row_theirs j) → Rows s
  same_rows s i j e h a b k = record { mine = i; theirs = j; here = e; there = h; number = b ∙ sym a; broken = λ w. absurd (cc (sym w ∙ a)); alike = k }

  -- by the number of a place
  placed : (s : Shape) (i j : Instruction) (ks ks' : List PlaceType) (k : ℕ) (make make' : PlaceType → Row) → ks' ≡ map place_up ks → instruction_of cs code at s o ≡ Some i → instruction_by s n f.operand ≡ Some j → number_fits m i ≡ nat_lt k (length ks) → number_fits (method_by f) j ≡ nat_lt k (length ks') → row_mine i ≡ with_place (slice_get ks k) make → row_theirs j ≡ with_place (slice_get ks' k) make' → ((z : PlaceType) → slice_get ks k ≡ Some z → Alike (make z) (make' (place_up z))) → Rows s
  placed s i j ks ks' k make make' e here there a b r r' g = record {
    mine = i;
    theirs = j;
    here = here;
    there = there;
    number = b ∙ (place_counts ks ks' k e ∙ sym a);
    broken = λ w. subst BreaksNumber (sym r) (no_place ks k make (sym a ∙ w));
    alike = subst (λ z. Alike z (row_theirs j)) (sym r) (subst (λ z. Alike (with_place (slice_get ks k) make) z) (sym r') (place_rows ks ks' k make make' e g));
  }

  -- by the type that the operand names
  typed : (s : Shape) (make : CliType → Instruction) (test : CliType → Bool) → names_type cs test o ≡ true → instruction_of cs code at s o ≡ option_map make (type_of_operand cs o) → instruction_by s n f.operand ≡ with_type make f.operand → ((t : CliType) → number_fits m (make t) ≡ true) → ((t : CliType) → number_fits (method_by f) (make t) ≡ true) → ((t : CliType) → Alike (row_mine (make t)) (row_theirs (make (type_up t)))) → Rows s
  typed s make test fit here there a b k =
      let w = some_holds (type_of_operand cs o) test fit in
      same_rows s (make w.0) (make (type_up w.0)) (here ∙ ap (option_map make) w.1) (there ∙ type_there cs o f.operand known.operand make w.0 w.1) (a w.0) (b (type_up w.0)) (k w.0)

  -- by how memory is read or written
  reached : (s : Shape) (make : MemoryAccess → Instruction) (a : Access) → typed_access cs a o ≡ true → instruction_of cs code at s o ≡ option_map make (access_of cs a o) → instruction_by s n f.operand ≡ option_map make (access_named a f.operand) → ((t : MemoryAccess) → number_fits m (make t) ≡ true) → ((t : MemoryAccess) → number_fits (method_by f) (make t) ≡ true) → ((t : MemoryAccess) → Alike (row_mine (make t)) (row_theirs (make (access_up t)))) → Rows s
  reached s make a fit here there c d k =
      let w = access_there cs o f.operand known.operand a fit in
      same_rows s (make w.0) (make (access_up w.0)) (here ∙ ap (option_map make) w.1) (there ∙ ap (option_map make) w.2) (c w.0) (d (access_up w.0)) (k w.0)

  field_view : (test : Id → OwnField → Bool) → names_field cs test o ≡ true → (id : Id) × (g : FieldOperand) × (k : IsField cs id g) × (field_of o ≡ Some id) × (field_named f.operand ≡ Some g) × (test k.owner k.own ≡ true)
  field_view test fit =
      let a = some_holds (field_of o) (λ id. holds_some (cs.field_owner id) (λ owner. holds_some (field_at cs id) (test owner))) fit in
      let b = both_some (IsField cs) (field_of o) (field_named f.operand) a.0 a.1 known.operand.field in
      (a.0, b.0, b.2, a.1, b.1, sym (ap (λ z. holds_some z (λ owner. holds_some (field_at cs a.0) (test owner))) b.2.owner_is ∙ ap (λ z. holds_some z (test b.2.owner)) b.2.own_is) ∙ a.2)

  method_view : (test : Id → OwnMethod → Bool) → names_method cs test o ≡ true → (id : Id) × (g : MethodOperand) × (k : IsMethod cs id g) × (method_of o ≡ Some id) × (method_named f.operand ≡ Some g) × (test k.owner k.own ≡ true)
  method_view test fit =
      let a = some_holds (method_of o) (λ id. holds_some (cs.method_owner id) (λ owner. holds_some (method_at cs id) (test owner))) fit in
      let b = both_some (IsMethod cs) (method_of o) (method_named f.operand) a.0 a.1 known.operand.method in
      (a.0, b.0, b.2, a.1, b.1, sym (ap (λ z. holds_some z (λ owner. holds_some (method_at cs a.0) (test owner))) b.2.owner_is ∙ ap (λ z. holds_some z (test b.2.owner)) b.2.own_is) ∙ a.2)

  -- by an instance field
  fielded : (s : Shape) (make : Id → ℕ → Instruction) (r : Program → Id → CliType → Row) → names_field cs (is_of_instance cs) o ≡ true
      → instruction_of cs code at s o ≡ on_some (field_of o) (λ g. on_some (cs.field_owner g) (λ owner. option_map (make owner) (position (λ h. id_eq h.id g) (instance_fields cs owner))))
      → instruction_by s n f.operand ≡ option_map (λ (g : FieldOperand). make (id_of g.class.of) 0) (field_named f.operand)
      → ((c : Id) (k : ℕ) → number_fits m (make c k) ≡ true) → ((c : Id) (k : ℕ) → number_fits (method_by f) (make c k) ≡ true)
      → ((c : Id) (k : ℕ) → row_mine (make c k) ≡ named (p.fields c) (λ types. named (slice_get types k) (r p c))) → ((c : Id) (k : ℕ) → row_theirs (make c k) ≡ named (q.fields c) (λ types. named (slice_get types k) (r q c)))
      → ((c : Id) (t : CliType) → is_plain t ≡ true → Alike (r p c t) (r q (id_up c) (type_up t))) → Rows s
  fielded s make r fit here there a b rm rt k =
      let v = field_view (is_of_instance cs) fit in
      let w = v.2 in
      let instance : is_instance_kind w.own.kind ≡ true = (and_parts (is_instance_kind w.own.kind) (is_reference_class cs w.owner) v.5).0 in
      same_rows s (make w.owner w.place) (make (id_of v.1.class.of) 0)
      (here ∙ (ap (λ z. on_some z (λ g. on_some (cs.field_owner g) (λ owner. option_map (make owner) (position (λ h. id_eq h.id g) (instance_fields cs owner))))) v.3
      ∙ (ap (λ z. on_some z (λ owner. option_map (make owner) (position (λ h. id_eq h.id v.0) (instance_fields cs owner)))) w.owner_is ∙ ap (option_map (make w.owner)) (w.place_is instance))))
      (there ∙ ap (option_map (λ (g : FieldOperand). make (id_of g.class.of) 0)) v.4)
      (a w.owner w.place) (b (id_of v.1.class.of) 0)
      (subst (λ z. Alike z (row_theirs (make (id_of v.1.class.of) 0))) (sym (rm w.owner w.place))
      (subst (λ z. Alike (named (p.fields w.owner) (λ types. named (slice_get types w.place) (r p w.owner))) z) (sym (rt (id_of v.1.class.of) 0))
      (field_rows x fits o f.operand v.0 v.1 w v.4 instance r (k w.owner (type_in cs w.signature) (w.plain instance)))))

  -- by a static field
  statics : (s : Shape) (make : Id → Instruction) (r : Program → CliType → Row) → names_field cs (λ owner g. is_static_kind g.kind) o ≡ true
      → instruction_of cs code at s o ≡ option_map make (field_of o) → instruction_by s n f.operand ≡ option_map (λ (g : FieldOperand). make (id_of g.class.of)) (field_named f.operand)
      → ((c : Id) → number_fits m (make c) ≡ true) → ((c : Id) → number_fits (method_by f) (make c) ≡ true)
      → ((c : Id) → row_mine (make c) ≡ named (p.static c) (r p)) → ((c : Id) → row_theirs (make c) ≡ named (q.static c) (r q))
      → ((t : CliType) → is_plain t ≡ true → Alike (r p t) (r q (type_up t))) → Rows s
  statics s make r fit here there a b rm rt k =
      let v = field_view (λ owner g. is_static_kind g.kind) fit in
      let w = v.2 in
      same_rows s (make v.0) (make (id_of v.1.class.of)) (here ∙ ap (option_map make) v.3) (there ∙ ap (option_map (λ (g : FieldOperand). make (id_of g.class.of))) v.4) (a v.0) (b (id_of v.1.class.of))
      (subst (λ z. Alike z (row_theirs (make (id_of v.1.class.of)))) (sym (rm v.0))
      (subst (λ z. Alike (named (p.static v.0) (r p)) z) (sym (rt (id_of v.1.class.of)))
      (static_rows x fits o f.operand v.0 v.1 w v.4 v.5 (id_of v.1.class.of) r (k (type_in cs w.signature) (w.plain_static v.5)))))

  -- ---- which operands are taken

  field_takes : (test : Id → OwnField → Bool) (test' : FieldOperand → Bool) → ((id : Id) (g : FieldOperand) (k : IsField cs id g) → test' g ≡ test k.owner k.own) → holds_some (field_named f.operand) test' ≡ names_field cs test o
  field_takes test test' k = fields_take cs (field_of o) (field_named f.operand) test test' known.operand.field k

  method_takes_it : (test : Id → OwnMethod → Bool) (test' : MethodOperand → Bool) → ((id : Id) (g : MethodOperand) (k : IsMethod cs id g) → test' g ≡ test k.owner k.own) → holds_some (method_named f.operand) test' ≡ names_method cs test o
  method_takes_it test test' k = methods_take cs (method_of o) (method_named f.operand) test test' known.operand.method k

  taken : (s : Shape) → operand_fits s f.operand ≡ operand_fits_in cs s o
  taken shape.LoadString = known.operand.text
  taken shape.Call = method_takes_it (λ owner g. not g.is_abstract) (λ g. not (is_abstract g)) (call_asks cs)
  taken shape.CallVirtual = method_takes_it (may_be_called cs) is_callable (virtual_asks cs)
  taken shape.NewObject = method_takes_it (may_be_made cs) is_new (new_asks cs)
  taken shape.LoadField = field_takes (is_of_instance cs) is_instance_field (instance_asks cs)
  taken shape.LoadFieldAddress = field_takes (is_of_instance cs) is_instance_field (instance_asks cs)
  taken shape.StoreField = field_takes (is_of_instance cs) is_instance_field (instance_asks cs)
  taken shape.LoadStatic = field_takes (λ owner g. is_static_kind g.kind) is_static_field (static_asks cs)
  taken shape.LoadStaticAddress = field_takes (λ owner g. is_static_kind g.kind) is_static_field (static_asks cs)
  taken shape.StoreStatic = field_takes (λ owner g. is_static_kind g.kind) is_static_field (static_asks cs)
  taken shape.LoadToken = field_takes (λ owner g. is_some (data_of g.kind)) is_data_field (data_asks cs)
  taken shape.CastClass = plain_takes cs o f.operand known.operand
  taken shape.IsInstance = plain_takes cs o f.operand known.operand
  taken shape.UnboxAny = plain_takes cs o f.operand known.operand
  taken shape.NewArray = element_takes_type cs o f.operand known.operand
  taken shape.LoadElementAddress = element_takes_type cs o f.operand known.operand
  taken shape.Box = types_take cs o f.operand known.operand is_number number_up
  taken shape.Unbox = types_take cs o f.operand known.operand is_number number_up
  taken (shape.LoadIndirect a) = access_takes cs o f.operand known.operand a
  taken (shape.StoreIndirect a) = access_takes cs o f.operand known.operand a
  taken (shape.LoadElement a) = element_access_takes cs o f.operand known.operand a
  taken (shape.StoreElement a) = element_access_takes cs o f.operand known.operand a
  taken _ = refl

  -- ---- rows that look at the stack alone

  nothing_row : Alike (row true 0 0 (none (Some []))) (row true 0 0 (none (Some [])))
  nothing_row = row_alike true true 0 0 0 _ _ refl refl (none_gives _ _ maps_empty)

  pushed : (t u : StackType) → u ≡ stack_up t → is_never t ≡ false → Alike (pushing true t) (pushing true u)
  pushed t u e h = row_alike true true 0 0 1 _ _ refl refl (none_gives _ _ (maps_single t u e h))

  converted : (b : Bool) → Alike (row true 1 1 (one (λ t. on_some (unary_type (sort_of t)) (λ r. Some (number b ∷ []))))) (row true 1 1 (one (λ t. on_some (unary_type (sort_of t)) (λ r. Some (number b ∷ [])))))
  converted b = row_alike true true 1 1 1 _ _ refl refl (one_gives _ _ (λ t h. by_sort (λ s. on_some (unary_type s) (λ r. Some (number b ∷ []))) (convert_maps b) t))

  -- ---- by instruction

  twice : (t : StackType) → is_never t ≡ false → Maps (Some (t ∷ (t ∷ []))) (Some (stack_up t ∷ (stack_up t ∷ [])))
  twice t h = record { same = refl; clean = ap (λ b. b || (b || false)) h }

  bodied : (b c : Bool) → c ≡ b → not b ≡ true → has_body (body_of c) ≡ true
  bodied b c e h = ap (λ z. has_body (body_of z)) e ∙ go b h
    where
      go : (b : Bool) → not b ≡ true → has_body (body_of b) ≡ true
      go false h = refl
      go true h = absurd (cc h)

  received : (id : Id) (g : MethodOperand) (k : IsMethod cs id g) → k.signature.has_this ≡ true → is_reference_class cs k.owner ≡ true → has_receiver (callee g).arguments ≡ has_receiver (called x fits o f.operand k.owner k.own k.signature id).arguments
  received id g k t r =
      ap (λ b. has_receiver (map place_of ((if b then this_place g.class ∷ [] else []) ++ g.params.now))) (k.this ∙ t)
      ∙ (place_receives g.class (map place_of g.params.now)
      ∙ (class_refers cs k.owner g.class k.place k.owner_fits
      ∙ (r
      ∙ sym (ap (λ b. has_receiver ((if b then this_of cs k.owner ∷ [] else []) ++ map (place_in cs) k.signature.parameters)) t ∙ class_receives cs k.owner (map (place_in cs) k.signature.parameters) r))))

  pub rows_of : (s : Shape) → operand_fits_in cs s o ≡ true → IsWhole s o n → stands code.clauses at s (instruction_of cs code at s o) ≡ true → Rows s
  rows_of shape.Nop fit whole well = same_rows shape.Nop Nop Nop refl refl refl refl nothing_row
  rows_of (shape.LoadArgument (Some k)) fit whole well =
      placed (shape.LoadArgument (Some k)) (LoadArgument k) (LoadArgument k) m.arguments (map place_of f.arguments.now) k (λ z. pushing true (loaded z)) (λ z. pushing true (loaded z)) known.arguments refl refl refl refl refl refl (λ z h. load_alike z (known.arguments_loaded k z h))
  rows_of (shape.LoadArgument None) fit whole well =
      placed (shape.LoadArgument None) (LoadArgument (unsigned_abs n)) (LoadArgument (unsigned_abs n)) m.arguments (map place_of f.arguments.now) (unsigned_abs n) (λ z. pushing true (loaded z)) (λ z. pushing true (loaded z)) known.arguments (ap (option_map (λ k. LoadArgument (unsigned_abs k))) whole) refl refl refl refl refl (λ z h. load_alike z (known.arguments_loaded (unsigned_abs n) z h))
  rows_of shape.LoadArgumentAddress fit whole well =
      placed shape.LoadArgumentAddress (LoadArgumentAddress (unsigned_abs n)) (LoadArgumentAddress (unsigned_abs n)) m.arguments (map place_of f.arguments.now) (unsigned_abs n) address_row address_row known.arguments (ap (option_map (λ k. LoadArgumentAddress (unsigned_abs k))) whole) refl refl refl refl refl (λ z h. address_alike z)
  rows_of shape.StoreArgument fit whole well =
      placed shape.StoreArgument (StoreArgument (unsigned_abs n)) (StoreArgument (unsigned_abs n)) m.arguments (map place_of f.arguments.now) (unsigned_abs n) (λ z. storing p true (loaded z)) (λ z. storing q true (loaded z)) known.arguments (ap (option_map (λ k. StoreArgument (unsigned_abs k))) whole) refl refl refl refl refl (λ z h. storing_alike p q order true true (loaded z) (loaded (place_up z)) refl (loaded_up z))
  rows_of (shape.LoadLocal (Some k)) fit whole well =
      placed (shape.LoadLocal (Some k)) (LoadLocal k) (LoadLocal k) m.locals (map place_of f.locals.now) k (λ z. pushing true (loaded z)) (λ z. pushing true (loaded z)) known.locals refl refl refl refl refl refl (λ z h. load_alike z (known.locals_loaded k z h))
  rows_of (shape.LoadLocal None) fit whole well =
      placed (shape.LoadLocal None) (LoadLocal (unsigned_abs n)) (LoadLocal (unsigned_abs n)) m.locals (map place_of f.locals.now) (unsigned_abs n) (λ z. pushing true (loaded z)) (λ z. pushing true (loaded z)) known.locals (ap (option_map (λ k. LoadLocal (unsigned_abs k))) whole) refl refl refl refl refl (λ z h. load_alike z (known.locals_loaded (unsigned_abs n) z h))
  rows_of (shape.StoreLocal (Some k)) fit whole well =
      placed (shape.StoreLocal (Some k)) (StoreLocal k) (StoreLocal k) m.locals (map place_of f.locals.now) k (λ z. storing p true (loaded z)) (λ z. storing q true (loaded z)) known.locals refl refl refl refl refl refl (λ z h. storing_alike p q order true true (loaded z) (loaded (place_up z)) refl (loaded_up z))
  rows_of (shape.StoreLocal None) fit whole well =
      placed (shape.StoreLocal None) (StoreLocal (unsigned_abs n)) (StoreLocal (unsigned_abs n)) m.locals (map place_of f.locals.now) (unsigned_abs n) (λ z. storing p true (loaded z)) (λ z. storing q true (loaded z)) known.locals (ap (option_map (λ k. StoreLocal (unsigned_abs k))) whole) refl refl refl refl refl (λ z h. storing_alike p q order true true (loaded z) (loaded (place_up z)) refl (loaded_up z))
  rows_of shape.LoadLocalAddress fit whole well =
      placed shape.LoadLocalAddress (LoadLocalAddress (unsigned_abs n)) (LoadLocalAddress (unsigned_abs n)) m.locals (map place_of f.locals.now) (unsigned_abs n) address_row address_row known.locals (ap (option_map (λ k. LoadLocalAddress (unsigned_abs k))) whole) refl refl refl refl refl (λ z h. address_alike z)
  rows_of shape.LoadNull fit whole well = same_rows shape.LoadNull (Push Null) (Push Null) refl refl refl refl (pushed Nil Nil refl refl)
  rows_of (shape.LoadInt32 (Some k)) fit whole well = same_rows (shape.LoadInt32 (Some k)) (Push (Int k)) (Push (Int n)) refl refl refl refl (pushed I I refl refl)
  rows_of (shape.LoadInt32 None) fit whole well = same_rows (shape.LoadInt32 None) (Push (Int n)) (Push (Int n)) (ap (option_map (λ k. Push (Int k))) whole) refl refl refl (pushed I I refl refl)
  rows_of shape.LoadInt64 fit whole well = same_rows shape.LoadInt64 (Push (Long n)) (Push (Long n)) (ap (option_map (λ k. Push (Long k))) whole) refl refl refl (pushed L L refl refl)
  rows_of shape.Duplicate fit whole well =
      same_rows shape.Duplicate Dup Dup refl refl refl refl (row_alike true true 1 1 2 _ _ refl refl (one_gives _ _ (λ t h. twice t h)))
  rows_of shape.Pop fit whole well = same_rows shape.Pop Pop Pop refl refl refl refl (row_alike true true 1 1 0 _ _ refl refl (one_gives _ _ (λ t h. maps_empty)))
  rows_of shape.Call fit whole well =
      let v = method_view (λ owner g. not g.is_abstract) fit in
      same_rows shape.Call (Call v.0) (Call (id_of v.1.class.of)) (ap (option_map Call) v.3) (ap (option_map (λ (g : MethodOperand). Call (id_of g.class.of))) v.4) refl refl
      (call_rows x fits o f.operand order v.0 v.1 v.2 v.4 (id_of v.1.class.of) (λ c. has_body c.body) (bodied v.2.own.is_abstract (is_abstract v.1) v.2.abstract v.5 ∙ sym (v.2.body ∙ v.5)))
  rows_of shape.CallVirtual fit whole well =
      let v = method_view (may_be_called cs) fit in
      let k = v.2 in
      let a = and_parts (not k.own.is_static) (has_this k.own && is_reference_class cs k.owner) v.5 in
      let b = and_parts (has_this k.own) (is_reference_class cs k.owner) a.1 in
      let t : k.signature.has_this ≡ true = sym (ap (λ z. holds_some z (λ g. g.has_this)) k.signed) ∙ b.0 in
      same_rows shape.CallVirtual (CallVirtual v.0) (CallVirtual (id_of v.1.class.of)) (ap (option_map CallVirtual) v.3) (ap (option_map (λ (g : MethodOperand). CallVirtual (id_of g.class.of))) v.4) refl refl
      (call_rows x fits o f.operand order v.0 v.1 k v.4 (id_of v.1.class.of) (λ c. has_receiver c.arguments) (received v.0 v.1 k t b.1))
  rows_of shape.NewObject fit whole well =
      let v = method_view (may_be_made cs) fit in
      let k = v.2 in
      let a = and_parts (is_constructor k.own) (has_this k.own && is_made_in cs k.owner) v.5 in
      let b = and_parts (has_this k.own) (is_made_in cs k.owner) a.1 in
      let t : k.signature.has_this ≡ true = sym (ap (λ z. holds_some z (λ g. g.has_this)) k.signed) ∙ b.0 in
      same_rows shape.NewObject (NewObject k.owner v.0) (NewObject (id_of v.1.class.of) somewhere)
      (ap (λ z. on_some z (λ g. option_map (λ owner. NewObject owner g) (cs.method_owner g))) v.3 ∙ ap (option_map (λ owner. NewObject owner v.0)) k.owner_is)
      (ap (option_map (λ (g : MethodOperand). NewObject (id_of g.class.of) somewhere)) v.4) refl refl
      (new_rows x fits o f.operand order v.0 v.1 k v.4 a.0 t somewhere)
  rows_of shape.Return fit whole well = same_rows shape.Return Return Return refl refl refl refl (return_alike p q order m.returns (method_by f).returns known.result)
  rows_of shape.Branch fit whole well =
      let w = is_there (target_of o) whole in
      same_rows shape.Branch (Branch w.0) (Branch 0) (ap (option_map Branch) w.1) refl refl refl nothing_row
  rows_of (shape.BranchIf on) fit whole well =
      let w = is_there (target_of o) whole in
      same_rows (shape.BranchIf on) (BranchIf on w.0) (BranchIf on 0) (ap (option_map (BranchIf on)) w.1) refl refl refl
      (row_alike true true 1 1 0 _ _ refl refl (one_gives _ _ (λ t h. maps_when _ _ _ _ (ap is_condition (sort_up t)) (λ u. maps_empty))))
  rows_of (shape.BranchCompare comparison on) fit whole well =
      let w = is_there (target_of o) whole in
      same_rows (shape.BranchCompare comparison on) (BranchCompare comparison on w.0) (BranchCompare comparison on 0) (ap (option_map (BranchCompare comparison on)) w.1) refl refl refl
      (row_alike true true 2 2 0 _ _ refl refl (two_gives _ _ (λ t u. maps_when _ _ _ _ (comparable_up (branches_on_references comparison) t u) (λ v. maps_empty))))
  rows_of shape.Switch fit whole well =
      let w = is_there (targets_of o) whole in
      same_rows shape.Switch (Switch w.0) (Switch []) (ap (option_map Switch) w.1) refl refl refl
      (row_alike true true 1 1 0 _ _ refl refl (one_gives _ _ (λ t h. maps_when _ _ _ _ (int_up t) (λ u. maps_empty))))
  rows_of (shape.LoadIndirect a) fit whole well =
      reached (shape.LoadIndirect a) LoadIndirect a fit refl refl (λ t. refl) (λ t. refl)
      (λ t. row_alike true true 1 1 1 _ _ refl refl (one_gives _ _ (λ u h. maps_on type_up _ _ _ _ (pointee_up u) (λ y e. maps_when _ _ _ _ (pointer_takes_up t y) (λ w. maps_single _ _ (accessed_up t y) (accessed_has t y w))))))
  rows_of (shape.StoreIndirect a) fit whole well =
      reached (shape.StoreIndirect a) StoreIndirect a fit refl refl (λ t. refl) (λ t. refl)
      (λ t. row_alike true true 2 2 0 _ _ refl refl (two_gives _ _ (λ u v. maps_on type_up _ _ _ _ (pointee_up u) (λ y e. maps_when _ _ _ _ (and_same _ _ _ _ (pointer_takes_up t y) (fits_place p q order v (accessed t y) (accessed (access_up t) (type_up y)) (accessed_up t y))) (λ w. maps_empty)))))
  rows_of (shape.Binary operator) fit whole well =
      same_rows (shape.Binary operator) (Binary operator) (Binary operator) refl refl refl refl
      (row_alike true true 2 2 1 _ _ refl refl (two_gives _ _ (λ t u. by_sorts (λ s r. on_some (binary_type s r) (λ y. Some (y ∷ []))) binary_maps t u)))
  rows_of (shape.Shift operator) fit whole well =
      same_rows (shape.Shift operator) (Shift operator) (Shift operator) refl refl refl refl
      (row_alike true true 2 2 1 _ _ refl refl (two_gives _ _ (λ t u. by_sorts (λ s r. on_some (shift_type s r) (λ y. Some (y ∷ []))) shift_maps t u)))
  rows_of (shape.Unary operator) fit whole well =
      same_rows (shape.Unary operator) (Unary operator) (Unary operator) refl refl refl refl
      (row_alike true true 1 1 1 _ _ refl refl (one_gives _ _ (λ t h. by_sort (λ s. on_some (unary_type s) (λ y. Some (y ∷ []))) unary_maps t)))
  rows_of (shape.Compare comparison) fit whole well =
      same_rows (shape.Compare comparison) (Compare comparison) (Compare comparison) refl refl refl refl
      (row_alike true true 2 2 1 _ _ refl refl (two_gives _ _ (λ t u. maps_when _ _ _ _ (comparable_up (compares_references comparison) t u) (λ v. maps_single I I refl refl))))
  rows_of (shape.Convert integer) fit whole well = same_rows (shape.Convert integer) (Convert integer) (Convert integer) refl refl refl refl (converted (is_long integer))
  rows_of (shape.ConvertChecked integer source) fit whole well = same_rows (shape.ConvertChecked integer source) (ConvertChecked integer source) (ConvertChecked integer source) refl refl refl refl (converted (is_long integer))
  rows_of shape.LoadString fit whole well =
      let w = is_there (text_of o) fit in
      same_rows shape.LoadString (LoadText w.0) (LoadText []) (ap (option_map LoadText) w.1) (ap (λ b. if b then Some (LoadText []) else None) (known.operand.text ∙ fit)) refl refl (pushed (O (Basic elem.String)) (O (Basic elem.String)) refl refl)
  rows_of shape.CastClass fit whole well =
      typed shape.CastClass CastClass is_plain fit refl refl (λ t. refl) (λ t. refl)
      (λ t. row_alike true true 1 1 1 _ _ refl refl (one_gives _ _ (λ u h. maps_when _ _ _ _ (and_same _ _ _ _ (reference_up u) (plain_up t)) (λ w. maps_single (O t) (O (type_up t)) refl refl))))
  rows_of shape.IsInstance fit whole well =
      typed shape.IsInstance IsInstance is_plain fit refl refl (λ t. refl) (λ t. refl)
      (λ t. row_alike true true 1 1 1 _ _ refl refl (one_gives _ _ (λ u h. maps_when _ _ _ _ (and_same _ _ _ _ (reference_up u) (plain_up t)) (λ w. maps_single (O t) (O (type_up t)) refl refl))))
  rows_of shape.Box fit whole well =
      typed shape.Box Box is_number fit refl refl (λ t. refl) (λ t. refl)
      (λ t. row_alike true true 1 1 1 _ _ refl refl (one_gives _ _ (λ u h. maps_when _ _ _ _ (and_same _ _ _ _ (number_up t) (fits_place p q order u (of_type t) (of_type (type_up t)) (of_type_up t))) (λ w. maps_single (O t) (O (type_up t)) refl refl))))
  rows_of shape.Unbox fit whole well =
      typed shape.Unbox Unbox is_number fit refl refl (λ t. refl) (λ t. refl)
      (λ t. row_alike true true 1 1 1 _ _ refl refl (one_gives _ _ (λ u h. maps_when _ _ _ _ (and_same _ _ _ _ (reference_up u) (number_up t)) (λ w. maps_single (P t) (P (type_up t)) refl refl))))
  rows_of shape.UnboxAny fit whole well =
      typed shape.UnboxAny UnboxAny is_plain fit refl refl (λ t. refl) (λ t. refl)
      (λ t. row_alike true true 1 1 1 _ _ refl refl (one_gives _ _ (λ u h. maps_when _ _ _ _ (and_same _ _ _ _ (reference_up u) (plain_up t)) (λ w. maps_single (of_type t) (of_type (type_up t)) (of_type_up t) (plain_has t ((and_parts (is_reference u) (is_plain t) w).1))))))
  rows_of shape.Throw fit whole well =
      same_rows shape.Throw Throw Throw refl refl refl refl
      (record { sound = refl; rule = refl; pops = refl; pushes = refl; rest = refl; gives = one_gives _ _ (λ t h. maps_when _ _ _ _ (fits_place p q order t (O exception) (O (type_of f.exception)) (ap O known.exception_type)) (λ w. maps_empty)) })
  rows_of shape.Rethrow fit whole well =
      let w = stands_there code.clauses at shape.Rethrow (innermost is_catch_kind code at) Rethrow refl well in
      same_rows shape.Rethrow (Rethrow w.0) (Rethrow 0) (ap (option_map Rethrow) w.1) refl refl refl
      (record { sound = refl; rule = refl; pops = refl; pushes = refl; rest = refl; gives = none_gives _ _ maps_empty })
  rows_of shape.Leave fit whole well =
      let w = is_there (target_of o) whole in
      same_rows shape.Leave (Leave w.0) (Leave 0) (ap (option_map Leave) w.1) refl refl refl
      (record { sound = refl; rule = refl; pops = refl; pushes = refl; rest = refl; gives = none_gives _ _ maps_empty })
  rows_of shape.EndFinally fit whole well =
      let w = stands_there code.clauses at shape.EndFinally (innermost is_finally_kind code at) EndFinally refl well in
      same_rows shape.EndFinally (EndFinally w.0) (EndFinally 0) (ap (option_map EndFinally) w.1) refl refl refl
      (record { sound = refl; rule = refl; pops = refl; pushes = refl; rest = refl; gives = none_gives _ _ maps_empty })
  rows_of shape.LoadField fit whole well =
      fielded shape.LoadField LoadField (λ r owner type. row true 1 1 (one (λ t. when (assignable r t (O (ClassOf owner))) (Some (of_type type ∷ []))))) fit refl refl (λ c k. refl) (λ c k. refl) (λ c k. refl) (λ c k. refl)
      (λ c t h. row_alike true true 1 1 1 _ _ refl refl (one_gives _ _ (λ u w. maps_when _ _ _ _ (fits_place p q order u (O (ClassOf c)) (O (ClassOf (id_up c))) refl) (λ y. maps_single (of_type t) (of_type (type_up t)) (of_type_up t) (plain_has t h)))))
  rows_of shape.LoadFieldAddress fit whole well =
      fielded shape.LoadFieldAddress LoadFieldAddress (λ r owner type. row true 1 1 (one (λ t. when (assignable r t (O (ClassOf owner))) (Some (P type ∷ []))))) fit refl refl (λ c k. refl) (λ c k. refl) (λ c k. refl) (λ c k. refl)
      (λ c t h. row_alike true true 1 1 1 _ _ refl refl (one_gives _ _ (λ u w. maps_when _ _ _ _ (fits_place p q order u (O (ClassOf c)) (O (ClassOf (id_up c))) refl) (λ y. maps_single (P t) (P (type_up t)) refl refl))))
  rows_of shape.StoreField fit whole well =
      fielded shape.StoreField StoreField (λ r owner type. row true 2 0 (two (λ t v. when (assignable r t (O (ClassOf owner)) && assignable r v (of_type type)) (Some [])))) fit refl refl (λ c k. refl) (λ c k. refl) (λ c k. refl) (λ c k. refl)
      (λ c t h. row_alike true true 2 2 0 _ _ refl refl (two_gives _ _ (λ u v. maps_when _ _ _ _ (and_same _ _ _ _ (fits_place p q order u (O (ClassOf c)) (O (ClassOf (id_up c))) refl) (fits_place p q order v (of_type t) (of_type (type_up t)) (of_type_up t))) (λ y. maps_empty))))
  rows_of shape.LoadStatic fit whole well =
      statics shape.LoadStatic LoadStatic (λ r type. pushing (is_plain type) (of_type type)) fit refl refl (λ c. refl) (λ c. refl) (λ c. refl) (λ c. refl)
      (λ t h. row_alike (is_plain t) (is_plain (type_up t)) 0 0 1 _ _ (plain_up t) refl (none_gives _ _ (maps_single (of_type t) (of_type (type_up t)) (of_type_up t) (plain_has t h))))
  rows_of shape.LoadStaticAddress fit whole well =
      statics shape.LoadStaticAddress LoadStaticAddress (λ r type. pushing (is_plain type) (P type)) fit refl refl (λ c. refl) (λ c. refl) (λ c. refl) (λ c. refl)
      (λ t h. row_alike (is_plain t) (is_plain (type_up t)) 0 0 1 _ _ (plain_up t) refl (none_gives _ _ (maps_single (P t) (P (type_up t)) refl refl)))
  rows_of shape.StoreStatic fit whole well =
      statics shape.StoreStatic StoreStatic (λ r type. storing r (is_plain type) (of_type type)) fit refl refl (λ c. refl) (λ c. refl) (λ c. refl) (λ c. refl)
      (λ t h. storing_alike p q order (is_plain t) (is_plain (type_up t)) (of_type t) (of_type (type_up t)) (plain_up t) (of_type_up t))
  rows_of shape.NewArray fit whole well =
      typed shape.NewArray NewArray is_plain fit refl refl (λ t. refl) (λ t. refl)
      (λ t. row_alike true true 1 1 1 _ _ refl refl (one_gives _ _ (λ u h. maps_when _ _ _ _ (and_same _ _ _ _ (int_up u) (plain_up t)) (λ w. maps_single (O (ArrayOf t)) (O (ArrayOf (type_up t))) refl refl))))
  rows_of shape.LoadLength fit whole well =
      same_rows shape.LoadLength LoadLength LoadLength refl refl refl refl
      (row_alike true true 1 1 1 _ _ refl refl (one_gives _ _ (λ u h. maps_on array_up _ _ _ _ (array_of_up u) (λ y e. maps_single I I refl refl))))
  rows_of (shape.LoadElement a) fit whole well =
      reached (shape.LoadElement a) LoadElement a fit refl refl (λ t. refl) (λ t. refl)
      (λ t. row_alike true true 2 2 1 _ _ refl refl (two_gives _ _ (λ u j. maps_on array_up _ _ _ _ (array_of_up u) (λ y e. maps_when _ _ _ _ (and_same _ _ _ _ (int_up j) (array_takes_up p q order t y)) (λ w. maps_single _ _ (element_loaded_up t y) (element_has p t y ((and_parts (is_int j) (array_takes p t y) w).1)))))))
  rows_of (shape.StoreElement a) fit whole well =
      reached (shape.StoreElement a) StoreElement a fit refl refl (λ t. refl) (λ t. refl)
      (λ t. row_alike true true 3 3 0 _ _ refl refl (three_gives _ _ (λ u j v. maps_on array_up _ _ _ _ (array_of_up u) (λ y e. maps_when _ _ _ _ (and_same _ _ _ _ (int_up j) (and_same _ _ _ _ (array_takes_up p q order t y) (element_takes_up p q order t v))) (λ w. maps_empty)))))
  rows_of shape.LoadElementAddress fit whole well =
      typed shape.LoadElementAddress LoadElementAddress is_plain fit refl refl (λ t. refl) (λ t. refl)
      (λ t. row_alike true true 2 2 1 _ _ refl refl (two_gives _ _ (λ u j. maps_on array_up _ _ _ _ (array_of_up u) (λ y e. maps_when _ _ _ _ (and_same _ _ _ _ (int_up j) (array_takes_up p q order (Typed t) y)) (λ w. maps_single (P t) (P (type_up t)) refl refl)))))
  rows_of shape.LoadToken fit whole well =
      let v = field_view (λ owner g. is_some (data_of g.kind)) fit in
      same_rows shape.LoadToken (Push (Handle v.0)) (Push (Handle (id_of v.1.class.of))) (ap (option_map (λ g. Push (Handle g))) v.3) (ap (option_map (λ (g : FieldOperand). Push (Handle (id_of g.class.of)))) v.4) refl refl
      (data_rows x fits o f.operand v.0 v.1 v.2 v.5 (id_of v.1.class.of))

  pub same : (s : Shape) → Same x exception m code at o f n fits s
  same s = record { takes = taken s; rows = rows_of s }
