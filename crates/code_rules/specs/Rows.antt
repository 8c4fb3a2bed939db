-- The rows of instructions on types as data. One table gives both: what a row makes of a stack (the machine's typing), and which rule
-- a stack breaks (the verifier).
use Rattle.std.specs.Prelude.{ℕ, ◌+◌, Bool, true, false, ◌&&◌, nat_lt, if◌then◌else◌, List, [], ◌∷◌, ◌++◌, map, length, Option, Some, None, slice_get, Result, Ok, Err}
use Rattle.plain_types.specs.declared.elem.Elem.TheVariants as elem
use Rattle.machine.specs.Data.{Id, CliType, PlaceType, Plain, To, Basic, ClassOf, ArrayOf}
use Rattle.machine.specs.Program.{Program, Typed, Method, Instruction, Nop, Push, Dup, Pop, LoadArgument, StoreArgument, LoadArgumentAddress, LoadLocal, StoreLocal, LoadLocalAddress, Binary, Shift, Unary, Compare, Convert, ConvertChecked, Branch, BranchIf, BranchCompare, Switch, Call, CallVirtual, NewObject, Return, LoadField, StoreField, LoadFieldAddress, LoadStatic, StoreStatic, LoadStaticAddress, LoadText, LoadIndirect, StoreIndirect, NewArray, LoadLength, LoadElement, StoreElement, LoadElementAddress, CastClass, IsInstance, Box, Unbox, UnboxAny, Throw, Rethrow, Leave, EndFinally}
use Rattle.machine.specs.Numbers.{is_long}
use Rattle.machine.specs.Throw.{on_some}
use Rattle.machine.specs.Rows.{take_arguments}
use Rattle.machine_typed.specs.Typing.{StackType, I, O, P, number, of_type, loaded, is_plain, is_number, assignable, all_assignable, when, sort_of, binary_type, shift_type, unary_type, compares_references, branches_on_references, is_comparable, is_condition, is_int, is_reference, pointee, array_of, type_of_constant, pointer_takes, accessed, array_takes, element_loaded, element_takes, has_body, has_receiver, is_plain_code}

-- what becomes of the types below those that a row takes
pub data Rest : Type 0 where
  Keeps : Rest
  Drops : Rest
  -- none may be there
  WantsNone : Rest

pub record Row : Type 0 where
  -- the operand is there, and of the kind that the row takes; and which rule is broken where it isn't: 47 of the number of an
  -- argument or local, else 46
  pub sound : Bool
  pub rule : ℕ
  pub pops : ℕ
  pub pushes : ℕ
  -- from the types taken, the topmost one last, to those given, the topmost one first; none where one is wrong (53)
  pub gives : List StackType → Option (List StackType)
  pub rest : Rest

abbrev pub behind : Rest → List StackType → List StackType → Option (List StackType)
behind Keeps us rest = Some (us ++ rest)
behind Drops us rest = Some us
behind WantsNone us [] = Some us
behind WantsNone us (t ∷ ts) = None

-- what the row makes of a stack
abbrev pub plain : Row → List StackType → Option (List StackType)
plain row ts =
    when row.sound (on_some (take_arguments row.pops ts []) (λ t. on_some (row.gives t.arguments) (λ us. behind row.rest us t.rest)))

-- ---- which rules a stack breaks by the row

abbrev pub too_deep : Rest → ℕ → ℕ → List StackType → List ℕ
too_deep Keeps most pushes rest = if nat_lt most (pushes + length rest) then 51 ∷ [] else []
too_deep Drops most pushes rest = []
too_deep WantsNone most pushes rest = []

abbrev pub not_alone : Rest → List StackType → List ℕ
not_alone WantsNone (t ∷ ts) = 54 ∷ []
not_alone _ _ = []

abbrev pub wrong : Option (List StackType) → List ℕ
wrong None = 53 ∷ []
wrong (Some us) = []

abbrev pub or_broken : List ℕ → Option (List StackType) → Result (List StackType) (List ℕ)
or_broken (r ∷ rs) o = Err (r ∷ rs)
or_broken [] None = Err (53 ∷ [])
or_broken [] (Some us) = Ok us

-- 51 also where more lies there than the method's max stack: at the start of a catch, with a max stack of 0
abbrev pub over : ℕ → List StackType → List ℕ
over most ts = if nat_lt most (length ts) then 51 ∷ [] else []

-- too few are there: 50, unless a lower rule is broken
abbrev pub or_short : {A : Type 0} → List ℕ → Option A → (A → Result (List StackType) (List ℕ)) → Result (List StackType) (List ℕ)
or_short before None go = Err (50 ∷ before)
or_short before (Some x) go = go x

abbrev pub judged : Row → ℕ → List StackType → Result (List StackType) (List ℕ)
judged row most ts =
    if row.sound then or_short (over most ts) (take_arguments row.pops ts []) (λ t. or_broken (over most ts ++ (too_deep row.rest most row.pushes t.rest ++ (wrong (row.gives t.arguments) ++ not_alone row.rest t.rest))) (on_some (row.gives t.arguments) (λ us. behind row.rest us t.rest))) else Err (row.rule ∷ [])

-- ---- the table

abbrev pub none : Option (List StackType) → List StackType → Option (List StackType)
none o [] = o
none o (x ∷ xs) = None

abbrev pub one : (StackType → Option (List StackType)) → List StackType → Option (List StackType)
one f (x ∷ []) = f x
one f _ = None

abbrev pub two : (StackType → StackType → Option (List StackType)) → List StackType → Option (List StackType)
two f (x ∷ (y ∷ [])) = f x y
two f _ = None

abbrev pub three : (StackType → StackType → StackType → Option (List StackType)) → List StackType → Option (List StackType)
three f (x ∷ (y ∷ (z ∷ []))) = f x y z
three f _ = None

abbrev pub row : Bool → ℕ → ℕ → (List StackType → Option (List StackType)) → Row
row sound pops pushes gives = record { sound = sound; rule = 46; pops = pops; pushes = pushes; gives = gives; rest = Keeps }

abbrev pub no_row : Row
no_row = row false 0 0 (λ ts. None)

-- by what the operand names
abbrev pub named : {A : Type 0} → Option A → (A → Row) → Row
named None make = no_row
named (Some x) make = make x

-- by the number of an argument or local
abbrev pub with_place : Option PlaceType → (PlaceType → Row) → Row
with_place None make = record no_row { rule = 47 }
with_place (Some type) make = make type

-- a value is pushed; a value that fits is taken
abbrev pub pushing : Bool → StackType → Row
pushing sound t = row sound 0 1 (none (Some (t ∷ [])))

abbrev pub storing : Program → Bool → StackType → Row
storing p sound place = row sound 1 0 (one (λ t. when (assignable p t place) (Some [])))

abbrev pub result_count : {A : Type 0} → Option A → ℕ
result_count None = 0
result_count (Some x) = 1

abbrev pub result_row : Option PlaceType → List StackType
result_row None = []
result_row (Some type) = loaded type ∷ []

abbrev pub call_row : Program → Bool → Method → Row
call_row p sound c = row sound (length c.arguments) (result_count c.returns) (λ us. when (all_assignable p us (map loaded c.arguments)) (Some (result_row c.returns)))

abbrev pub return_row : Program → Option PlaceType → Row
return_row p None = record { sound = true; rule = 46; pops = 0; pushes = 0; gives = none (Some []); rest = WantsNone }
return_row p (Some type) = record { sound = true; rule = 46; pops = 1; pushes = 0; gives = one (λ t. when (assignable p t (loaded type)) (Some [])); rest = WantsNone }

abbrev pub address_row : PlaceType → Row
address_row (Plain type) = row true 0 1 (none (when (is_plain type) (Some (P type ∷ []))))
address_row (To type) = row true 0 1 (none None)

-- the constructor's `this` is the new object, and isn't taken
abbrev pub new_row : Program → Id → Method → List PlaceType → Row
new_row p class c [] = no_row
new_row p class c (this ∷ others) =
    row (is_plain_code c.body c.returns) (length others) 1 (λ us. when (all_assignable p (O (ClassOf class) ∷ us) (map loaded c.arguments)) (Some (O (ClassOf class) ∷ [])))

abbrev pub row_of : Program → CliType → Method → Instruction → Row
row_of p exception m Nop = row true 0 0 (none (Some []))
row_of p exception m (Push v) = named (type_of_constant p v) (pushing true)
row_of p exception m Dup = row true 1 2 (one (λ t. Some (t ∷ (t ∷ []))))
row_of p exception m Pop = row true 1 0 (one (λ t. Some []))
row_of p exception m (LoadArgument n) = with_place (slice_get m.arguments n) (λ k. pushing true (loaded k))
row_of p exception m (StoreArgument n) = with_place (slice_get m.arguments n) (λ k. storing p true (loaded k))
row_of p exception m (LoadArgumentAddress n) = with_place (slice_get m.arguments n) address_row
row_of p exception m (LoadLocal n) = with_place (slice_get m.locals n) (λ k. pushing true (loaded k))
row_of p exception m (StoreLocal n) = with_place (slice_get m.locals n) (λ k. storing p true (loaded k))
row_of p exception m (LoadLocalAddress n) = with_place (slice_get m.locals n) address_row
row_of p exception m (Binary operator) = row true 2 1 (two (λ x y. on_some (binary_type (sort_of x) (sort_of y)) (λ t. Some (t ∷ []))))
row_of p exception m (Shift operator) = row true 2 1 (two (λ x y. on_some (shift_type (sort_of x) (sort_of y)) (λ t. Some (t ∷ []))))
row_of p exception m (Unary operator) = row true 1 1 (one (λ x. on_some (unary_type (sort_of x)) (λ t. Some (t ∷ []))))
row_of p exception m (Compare comparison) = row true 2 1 (two (λ x y. when (is_comparable (compares_references comparison) (sort_of x) (sort_of y)) (Some (I ∷ []))))
row_of p exception m (Convert integer) = row true 1 1 (one (λ x. on_some (unary_type (sort_of x)) (λ t. Some (number (is_long integer) ∷ []))))
row_of p exception m (ConvertChecked integer source) = row true 1 1 (one (λ x. on_some (unary_type (sort_of x)) (λ t. Some (number (is_long integer) ∷ []))))
row_of p exception m (Branch target) = row true 0 0 (none (Some []))
row_of p exception m (BranchIf on target) = row true 1 0 (one (λ t. when (is_condition (sort_of t)) (Some [])))
row_of p exception m (BranchCompare comparison on target) = row true 2 0 (two (λ x y. when (is_comparable (branches_on_references comparison) (sort_of x) (sort_of y)) (Some [])))
row_of p exception m (Switch targets) = row true 1 0 (one (λ t. when (is_int t) (Some [])))
row_of p exception m (Call id) = named (p.method id) (λ c. call_row p (has_body c.body) c)
row_of p exception m (CallVirtual id) = named (p.method id) (λ c. call_row p (has_receiver c.arguments) c)
row_of p exception m (NewObject class constructor) = named (p.method constructor) (λ c. named (p.fields class) (λ types. new_row p class c c.arguments))
row_of p exception m Return = return_row p m.returns
row_of p exception m (LoadField owner n) =
    named (p.fields owner) (λ types. named (slice_get types n) (λ type. row true 1 1 (one (λ t. when (assignable p t (O (ClassOf owner))) (Some (of_type type ∷ []))))))
row_of p exception m (StoreField owner n) =
    named (p.fields owner) (λ types. named (slice_get types n) (λ type. row true 2 0 (two (λ t v. when (assignable p t (O (ClassOf owner)) && assignable p v (of_type type)) (Some [])))))
row_of p exception m (LoadFieldAddress owner n) =
    named (p.fields owner) (λ types. named (slice_get types n) (λ type. row true 1 1 (one (λ t. when (assignable p t (O (ClassOf owner))) (Some (P type ∷ []))))))
row_of p exception m (LoadStatic id) = named (p.static id) (λ type. pushing (is_plain type) (of_type type))
row_of p exception m (StoreStatic id) = named (p.static id) (λ type. storing p (is_plain type) (of_type type))
row_of p exception m (LoadStaticAddress id) = named (p.static id) (λ type. pushing (is_plain type) (P type))
row_of p exception m (LoadText units) = pushing true (O (Basic elem.String))
row_of p exception m (LoadIndirect access) = row true 1 1 (one (λ t. on_some (pointee t) (λ type. when (pointer_takes access type) (Some (accessed access type ∷ [])))))
row_of p exception m (StoreIndirect access) = row true 2 0 (two (λ t v. on_some (pointee t) (λ type. when (pointer_takes access type && assignable p v (accessed access type)) (Some []))))
row_of p exception m (NewArray element) = row true 1 1 (one (λ t. when (is_int t && is_plain element) (Some (O (ArrayOf element) ∷ []))))
row_of p exception m LoadLength = row true 1 1 (one (λ t. on_some (array_of t) (λ array. Some (I ∷ []))))
row_of p exception m (LoadElement access) = row true 2 1 (two (λ t index. on_some (array_of t) (λ array. when (is_int index && array_takes p access array) (Some (element_loaded access array ∷ [])))))
row_of p exception m (StoreElement access) = row true 3 0 (three (λ t index v. on_some (array_of t) (λ array. when (is_int index && (array_takes p access array && element_takes p access v)) (Some []))))
row_of p exception m (LoadElementAddress type) = row true 2 1 (two (λ t index. on_some (array_of t) (λ array. when (is_int index && array_takes p (Typed type) array) (Some (P type ∷ [])))))
row_of p exception m (CastClass type) = row true 1 1 (one (λ t. when (is_reference t && is_plain type) (Some (O type ∷ []))))
row_of p exception m (IsInstance type) = row true 1 1 (one (λ t. when (is_reference t && is_plain type) (Some (O type ∷ []))))
row_of p exception m (Box type) = row true 1 1 (one (λ t. when (is_number type && assignable p t (of_type type)) (Some (O type ∷ []))))
row_of p exception m (Unbox type) = row true 1 1 (one (λ t. when (is_reference t && is_number type) (Some (P type ∷ []))))
row_of p exception m (UnboxAny type) = row true 1 1 (one (λ t. when (is_reference t && is_plain type) (Some (of_type type ∷ []))))
row_of p exception m Throw = record { sound = true; rule = 46; pops = 1; pushes = 0; gives = one (λ t. when (assignable p t (O exception)) (Some [])); rest = Drops }
row_of p exception m (Rethrow k) = record { sound = true; rule = 46; pops = 0; pushes = 0; gives = none (Some []); rest = Drops }
row_of p exception m (Leave target) = record { sound = true; rule = 46; pops = 0; pushes = 0; gives = none (Some []); rest = Drops }
row_of p exception m (EndFinally k) = record { sound = true; rule = 46; pops = 0; pushes = 0; gives = none (Some []); rest = WantsNone }
