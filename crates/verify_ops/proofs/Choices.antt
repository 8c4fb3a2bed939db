-- The rows that the code chooses are the machine's.
use Rattle.std.proofs.Common.{◌≡◌, ℕ, ℤ, Bool, true, false, not, ◌&&◌, List, [], ◌∷◌, ◌++◌, map, length, Option, Some, None, refl, sym, ap, ◌∙◌, subst}
use Rattle.std.specs.Option.{option_map}
use Rattle.std.proofs.lemmas.Bool.{lt-ltb, and_parts, not-true}
use Rattle.std.proofs.lemmas.List.{length-map}
use Rattle.std.proofs.lemmas.Option.{slice_get-map, slice_get_within}
use Rattle.std.specs.Prelude.{if◌then◌else◌, nat_lt, slice_get, Result, Ok, Err, unsigned_abs}
use Rattle.ecma_types.specs.declared.stack.PlaceType.{PlaceType as WorldPlace}
use Rattle.ecma_types.specs.declared.stack.StackType.{StackType as WorldType}
use Rattle.ecma_types.specs.declared.stack.StackType.TheVariants as world
use Rattle.cil_opcodes.specs.declared.shape.Shape.{Shape}
use Rattle.cil_opcodes.specs.declared.shape.Shape.TheVariants as shape
use Rattle.machine.specs.Data.{Id, CliType, PlaceType, ClassOf}
use Rattle.machine.specs.Program.{Program, Body, Code, Instruction, Call, NewObject, LoadArgument, StoreArgument, LoadArgumentAddress, LoadLocal, StoreLocal, LoadLocalAddress, Box}
use Rattle.machine_typed.specs.Typing.{StackType, O, is_number, of_type, when, assignable, all_assignable, loaded, has_body}
use Rattle.code_rules.specs.Rows.{Row, row, one, named, call_row, new_row, row_of, judged, with_place, pushing, storing, address_row}
use Rattle.code_rules.specs.Verdict.{number_fits}
use Rattle.cil_opcodes.specs.declared.shape.Row.{Row as TableRow}
use Rattle.cil_opcodes.specs.Rows.{row_of as table_row}
use Rattle.verify_ops.specs.declared.facts.OpRefusal.{OpRefusal}
use Rattle.verify_ops.specs.declared.facts.OpRefusal.TheVariants as refusal
use Rattle.verify_ops.specs.declared.facts.Facts.{Facts}
use Rattle.verify_ops.specs.declared.facts.Operand.TheVariants as operand
use Rattle.verify_ops.specs.declared.facts.MethodOperand.{MethodOperand}
use Rattle.stack_acts.specs.declared.row.Rest.TheVariants as rest
use Rattle.stack_acts.specs.declared.row.Wants.TheVariants as wants
use Rattle.stack_acts.specs.declared.row.Given.TheVariants as given
use Rattle.stack_acts.specs.declared.row.Act.{Act}
use Rattle.stack_acts.specs.declared.row.Act.TheVariants as act
use Rattle.stack_acts.specs.declared.row.Row.{Row as CodeRow}
use Rattle.place_types.specs.Types.{id_of, type_of, place_of, stack_or_never, from_top}
use Rattle.verify_ops.specs.Facts.{number_or, operand_fits, instruction_by, method_by, program_by, method_named, is_abstract, is_made, is_void, is_new, result_of, this_place, receiver, body_of, callee, somewhere}
use Rattle.verify_ops.specs.Effects.{lowest_of, loads, effect_by, shape_of, Leaves}
use Rattle.verify_ops.specs.Acts.{judged_by, Judged, row_by, row_effect, Chosen, NamesNumber}
use Rattle.stack_acts.specs.Acts.{IsSpelt}

pick_true : {A : Type 0} (b : Bool) (x y : A) → b ≡ true → (if b then x else y) ≡ x
pick_true b x y e = ap (λ c. if c then x else y) e

pick_false : {A : Type 0} (b : Bool) (x y : A) → b ≡ false → (if b then x else y) ≡ y
pick_false b x y e = ap (λ c. if c then x else y) e

-- the machine's row
pub same_row : (f : Facts) (s : Shape) (n : ℤ) (r : CodeRow) (i : Instruction)
    → instruction_by s n f.operand ≡ Some i → operand_fits s f.operand ≡ true → number_fits (method_by f) i ≡ true
    → ((fits : CliType → CliType → Bool) → row_of (program_by fits f.operand) (type_of f.exception) (method_by f) i ≡ row_by (program_by fits f.operand) r)
    → (fits : CliType → CliType → Bool) (ts : List StackType) → effect_by fits f s (instruction_by s n f.operand) ts ≡ row_effect fits f r ts
same_row f s n r i named takes counted rows fits ts =
    ap (λ o. effect_by fits f s o ts) named
    ∙ (pick_true (operand_fits s f.operand) _ _ takes
    ∙ (pick_true (number_fits (method_by f) i) _ _ counted
    ∙ ap (λ (x : Row). lowest_of (loads (judged x f.max_stack ts))) (rows fits)))

-- by the shape that code has met
pub at_shape : (f : Facts) (s t : Shape) (n : ℤ) (r : Result CodeRow ℕ) → t ≡ s → Chosen f s n r → Chosen f t n r
at_shape f s t n r e h = subst (λ (x : Shape). Chosen f x n r) (sym e) h

-- ---- types as operands

given_one : (test : StackType → Bool) (x y : StackType) → x ≡ y → row true 1 1 (one (λ t. when (test t) (Some (x ∷ [])))) ≡ row true 1 1 (one (λ t. when (test t) (Some (y ∷ []))))
given_one test x y e = ap (λ z. row true 1 1 (one (λ t. when (test t) (Some (z ∷ []))))) e

abbrev keeps : ℕ → ℕ → Act → CodeRow
keeps pops pushes a = record { pops = pops; pushes = pushes; act = a; rest = rest.Keeps }

fits_one : (p : Program) (c : Bool) (v w : StackType) (us : List StackType) → c ≡ true → v ≡ w → row true 1 1 (one (λ t. when (c && assignable p t v) (Some us))) ≡ row true 1 1 (one (λ t. when (assignable p t w) (Some us)))
fits_one p c v w us e h = ap (λ b. row true 1 1 (one (λ t. when (b && assignable p t v) (Some us)))) e ∙ ap (λ z. row true 1 1 (one (λ t. when (assignable p t z) (Some us)))) h

pub box_chosen : (f : Facts) (n : ℤ) (t u : WorldPlace) (v : Option WorldType) → NamesNumber f.operand (Ok t) → type_of u ≡ type_of t → stack_or_never v ≡ of_type (type_of t)
    → Chosen f shape.Box n (Ok (keeps 1 1 (act.One (wants.Fits v) (given.Single (Some (world.O u))))))
box_chosen f n t u v h e k = (
  same_row f shape.Box n (keeps 1 1 (act.One (wants.Fits v) (given.Single (Some (world.O u))))) (Box (type_of t)) (ap (instruction_by shape.Box n) h.0) (ap (operand_fits shape.Box) h.0 ∙ h.1) refl
      (λ fits. let p = program_by fits f.operand in
      fits_one p (is_number (type_of t)) (of_type (type_of t)) (stack_or_never v) (O (type_of t) ∷ []) h.1 (sym k)
      ∙ given_one (λ t. assignable p t (stack_or_never v)) _ _ (ap O (sym e))),
  tt,
)

-- ---- methods

pub call_chosen : (f : Facts) (n : ℤ) (m : MethodOperand) (r : CodeRow) → f.operand ≡ operand.Method m → is_abstract m ≡ false → ((p : Program) → row_by p r ≡ call_row p true (callee m)) → IsSpelt r.act → Chosen f shape.Call n (Ok r)
call_chosen f n m r e a rows spelt = (
  same_row f shape.Call n r (Call (id_of m.class.of)) (ap (instruction_by shape.Call n) e) (ap (operand_fits shape.Call) e ∙ ap not a) refl
      (λ fits. let p = program_by fits f.operand in
      ap (λ o. named (option_map callee (method_named o)) (λ c. call_row p (has_body c.body) c)) e
      ∙ (ap (λ b. call_row p (has_body (body_of b)) (callee m)) a ∙ sym (rows p))),
  spelt,
)

-- a constructor's row, by its body, its result and its arguments
abbrev new_by : Program → Id → Body → Option PlaceType → List PlaceType → Row
new_by p id body returns arguments = new_row p id (record { arguments = arguments; locals = []; returns = returns; max_stack = 0; clauses = []; body = body }) arguments

abbrev new_types : Program → ℕ → CliType → List PlaceType → Row
new_types p n class arguments = row true n 1 (λ us. when (all_assignable p (O class ∷ us) (map loaded arguments)) (Some (O class ∷ [])))

constructor_row : (p : Program) (m : MethodOperand) (class : CliType) (id : Id) → class ≡ ClassOf id → m.this ≡ true → is_abstract m ≡ false → is_void m.returns ≡ true
    → new_row p id (callee m) (callee m).arguments ≡ new_types p (length m.params.now) class (map place_of (this_place m.class ∷ m.params.now))
constructor_row p m class id k t a v =
    ap (λ b. new_by p id (body_of b) (result_of m.returns) (map place_of (receiver m ++ m.params.now))) a
    ∙ (ap (λ b. new_by p id Code (if b then None else Some (place_of m.returns)) (map place_of (receiver m ++ m.params.now))) v
    ∙ (ap (λ b. new_by p id Code None (map place_of ((if b then this_place m.class ∷ [] else []) ++ m.params.now))) t
    ∙ (ap (λ n. new_types p n (ClassOf id) (map place_of (this_place m.class ∷ m.params.now))) (length-map m.params.now place_of)
    ∙ ap (λ x. new_types p (length m.params.now) x (map place_of (this_place m.class ∷ m.params.now))) (sym k))))

pub new_chosen : (f : Facts) (n : ℤ) (m : MethodOperand) (c t : WorldPlace) → f.operand ≡ operand.Method m → is_new m ≡ true → type_of c ≡ ClassOf (id_of m.class.of) → t ≡ this_place m.class
    → Chosen f shape.NewObject n (Ok (keeps (length m.params.now) 1 (act.New c t m.params)))
new_chosen f n m c t e new k h =
    let one = and_parts m.constructor (m.this && (is_made m.class m.class_flags && (is_void m.returns && not (is_abstract m)))) new in
    let two = and_parts m.this (is_made m.class m.class_flags && (is_void m.returns && not (is_abstract m))) one.1 in
    let three = and_parts (is_made m.class m.class_flags) (is_void m.returns && not (is_abstract m)) two.1 in
    let four = and_parts (is_void m.returns) (not (is_abstract m)) three.1 in (
      same_row f shape.NewObject n (keeps (length m.params.now) 1 (act.New c t m.params)) (NewObject (id_of m.class.of) somewhere) (ap (instruction_by shape.NewObject n) e) (ap (operand_fits shape.NewObject) e ∙ new) refl
          (λ fits. let p = program_by fits f.operand in
          ap (λ o. named (option_map callee (method_named o)) (λ x. new_row p (id_of m.class.of) x x.arguments)) e
          ∙ (constructor_row p m (type_of c) (id_of m.class.of) k two.0 (not-true (is_abstract m) four.1) four.0
          ∙ ap (λ z. new_types p (length m.params.now) (type_of c) (map place_of (z ∷ m.params.now))) (sym h))),
      tt,
    )

-- ---- places by their numbers

there : {A : Type 0} (xs : List A) (n : ℕ) (x : A) → slice_get xs n ≡ Some x → nat_lt n (length xs) ≡ true
there xs n x e = lt-ltb n (length xs) (slice_get_within xs n x e)

abbrev numbered_row : (Program → PlaceType → Row) → Program → Option PlaceType → Row
numbered_row make p o = with_place o (make p)

-- an instruction that has the number of a place
module _ (f : Facts) (s : Shape) (n : ℤ) (k : ℕ) (places : List WorldPlace) (i : Instruction) (make : Program → PlaceType → Row)
    (named : instruction_by s n f.operand ≡ Some i) (takes : operand_fits s f.operand ≡ true)
    (counts : number_fits (method_by f) i ≡ nat_lt k (length (map place_of places)))
    (rows : (fits : CliType → CliType → Bool) → row_of (program_by fits f.operand) (type_of f.exception) (method_by f) i ≡ numbered_row make (program_by fits f.operand) (slice_get (map place_of places) k)) where
  pub place_chosen : (place : WorldPlace) (r : CodeRow) → slice_get places k ≡ Some place → ((p : Program) → row_by p r ≡ make p (place_of place)) → IsSpelt r.act → Chosen f s n (Ok r)
  place_chosen place r e m spelt = (
    same_row f s n r i named takes (counts ∙ there (map place_of places) k (place_of place) (slice_get-map place_of places k ∙ ap (option_map place_of) e))
        (λ fits. rows fits ∙ (ap (numbered_row make (program_by fits f.operand)) (slice_get-map place_of places k ∙ ap (option_map place_of) e) ∙ sym (m (program_by fits f.operand)))),
    spelt,
  )

abbrev loads_place : Program → PlaceType → Row
loads_place p k = pushing true (loaded k)

abbrev stores_place : Program → PlaceType → Row
stores_place p k = storing p true (loaded k)

abbrev addresses_place : Program → PlaceType → Row
addresses_place p k = address_row k

pub load_argument_chosen : (f : Facts) (n : ℤ) (own : Option ℕ) (place : WorldPlace) (r : CodeRow) → slice_get f.arguments.now (number_or own n) ≡ Some place → ((p : Program) → row_by p r ≡ loads_place p (place_of place)) → IsSpelt r.act → Chosen f (shape.LoadArgument own) n (Ok r)
load_argument_chosen f n own = place_chosen f (shape.LoadArgument own) n (number_or own n) f.arguments.now (LoadArgument (number_or own n)) loads_place refl refl refl (λ fits. refl)

pub argument_address_chosen : (f : Facts) (n : ℤ) (place : WorldPlace) (r : CodeRow) → slice_get f.arguments.now (unsigned_abs n) ≡ Some place → ((p : Program) → row_by p r ≡ addresses_place p (place_of place)) → IsSpelt r.act → Chosen f shape.LoadArgumentAddress n (Ok r)
argument_address_chosen f n = place_chosen f shape.LoadArgumentAddress n (unsigned_abs n) f.arguments.now (LoadArgumentAddress (unsigned_abs n)) addresses_place refl refl refl (λ fits. refl)

pub store_argument_chosen : (f : Facts) (n : ℤ) (place : WorldPlace) (r : CodeRow) → slice_get f.arguments.now (unsigned_abs n) ≡ Some place → ((p : Program) → row_by p r ≡ stores_place p (place_of place)) → IsSpelt r.act → Chosen f shape.StoreArgument n (Ok r)
store_argument_chosen f n = place_chosen f shape.StoreArgument n (unsigned_abs n) f.arguments.now (StoreArgument (unsigned_abs n)) stores_place refl refl refl (λ fits. refl)

pub load_local_chosen : (f : Facts) (n : ℤ) (own : Option ℕ) (place : WorldPlace) (r : CodeRow) → slice_get f.locals.now (number_or own n) ≡ Some place → ((p : Program) → row_by p r ≡ loads_place p (place_of place)) → IsSpelt r.act → Chosen f (shape.LoadLocal own) n (Ok r)
load_local_chosen f n own = place_chosen f (shape.LoadLocal own) n (number_or own n) f.locals.now (LoadLocal (number_or own n)) loads_place refl refl refl (λ fits. refl)

pub local_address_chosen : (f : Facts) (n : ℤ) (place : WorldPlace) (r : CodeRow) → slice_get f.locals.now (unsigned_abs n) ≡ Some place → ((p : Program) → row_by p r ≡ addresses_place p (place_of place)) → IsSpelt r.act → Chosen f shape.LoadLocalAddress n (Ok r)
local_address_chosen f n = place_chosen f shape.LoadLocalAddress n (unsigned_abs n) f.locals.now (LoadLocalAddress (unsigned_abs n)) addresses_place refl refl refl (λ fits. refl)

pub store_local_chosen : (f : Facts) (n : ℤ) (own : Option ℕ) (place : WorldPlace) (r : CodeRow) → slice_get f.locals.now (number_or own n) ≡ Some place → ((p : Program) → row_by p r ≡ stores_place p (place_of place)) → IsSpelt r.act → Chosen f (shape.StoreLocal own) n (Ok r)
store_local_chosen f n own = place_chosen f (shape.StoreLocal own) n (number_or own n) f.locals.now (StoreLocal (number_or own n)) stores_place refl refl refl (λ fits. refl)

-- ---- the whole

pub shape_found : (op : ℕ) (line : TableRow) → table_row op ≡ Some line → shape_of op ≡ line.shape
unfolding shape_of
shape_found op line e = ap (λ (o : Option TableRow). elim o [ None ↦ shape.Nop | Some x ↦ x.shape ]) e

-- a row's judgement is the instruction's effect
pub effect_left : (f : Facts) (s : Shape) (n : ℤ) (fits : CliType → CliType → Bool) (r : CodeRow) (before after : List WorldType) (us : List StackType)
    → Chosen f s n (Ok r) → judged_by (program_by fits f.operand) r f.max_stack before ≡ Ok us → from_top after ≡ us
    → effect_by fits f s (instruction_by s n f.operand) (from_top before) ≡ Ok (from_top after)
effect_left f s n fits r before after us h j e = h.0 fits (from_top before) ∙ (j ∙ ap Ok (sym e))

pub effect_refused : (A : Type 0) (f : Facts) (s : Shape) (n : ℤ) (fits : CliType → CliType → Bool) (r : CodeRow) (before : List WorldType) (refused : OpRefusal)
    → Chosen f s n (Ok r) → Judged (program_by fits f.operand) r f.max_stack before (Err refused)
    → Leaves {A = A} (Err refused) before before (effect_by fits f s (instruction_by s n f.operand) (from_top before))
effect_refused A f s n fits r before (refusal.Broken rule) h j = (h.0 fits (from_top before) ∙ j, refl)
effect_refused A f s n fits r before refusal.NoMemory h j = tt
