-- What the acts of rows take and give, as the machine has it.
use Rattle.std.specs.Prelude.{◌≡◌, ℕ, ℤ, Bool, true, false, ◌+◌, ◌-◌, ◌&&◌, ◌||◌, nat_lt, take, List, [], ◌∷◌, ◌++◌, map, length, Option, Some, None, Result, Ok, Err}
use Rattle.std.specs.Option.{option_map}
use Rattle.ecma_types.specs.declared.stack.PlaceType.{PlaceType as WorldPlace}
use Rattle.ecma_types.specs.declared.stack.StackType.{StackType as WorldType}
use Rattle.cil_opcodes.specs.declared.shape.Access.{Access}
use Rattle.cil_opcodes.specs.declared.shape.Shape.{Shape}
use Rattle.machine.specs.Data.{CliType, PlaceType}
use Rattle.machine.specs.Program.{Program, Exact, Typed}
use Rattle.machine.specs.Program.{Access as MemoryAccess}
use Rattle.machine.specs.Numbers.{is_long}
use Rattle.machine.specs.Throw.{on_some}
use Rattle.machine_typed.specs.Typing.{StackType, I, O, P, number, loaded, is_plain, is_number, is_int, is_reference, is_condition, is_comparable, compares_references, branches_on_references, sort_of, binary_type, shift_type, unary_type, pointee, array_of, pointer_takes, accessed, array_takes, element_loaded, element_takes, assignable, all_assignable, when}
use Rattle.classes.specs.Queries.{listed}
use Rattle.code_rules.specs.Rows.{Row, Rest, Keeps, Drops, WantsNone, none, one, two, three, judged}
use Rattle.stack_acts.specs.declared.row.Rest.{Rest as CodeRest}
use Rattle.stack_acts.specs.declared.row.Rest.TheVariants as rest
use Rattle.stack_acts.specs.declared.row.Wants.{Wants}
use Rattle.stack_acts.specs.declared.row.Wants.TheVariants as wants
use Rattle.stack_acts.specs.declared.row.Given.{Given}
use Rattle.stack_acts.specs.declared.row.Given.TheVariants as given
use Rattle.stack_acts.specs.declared.row.Memory.{Memory}
use Rattle.stack_acts.specs.declared.row.Memory.TheVariants as memory
use Rattle.stack_acts.specs.declared.row.Element.{Element}
use Rattle.stack_acts.specs.declared.row.Element.TheVariants as element
use Rattle.stack_acts.specs.declared.row.Single.{Single}
use Rattle.stack_acts.specs.declared.row.Single.TheVariants as single
use Rattle.stack_acts.specs.declared.row.Pair.{Pair}
use Rattle.stack_acts.specs.declared.row.Pair.TheVariants as pair
use Rattle.stack_acts.specs.declared.row.Act.{Act}
use Rattle.stack_acts.specs.declared.row.Act.TheVariants as act
use Rattle.stack_acts.specs.declared.row.Row.{Row as CodeRow}
use Rattle.place_types.specs.declared.held.ArrayOperand.{ArrayOperand}
use Rattle.place_types.specs.Types.{type_of, place_of, stack_of, stack_or_never, from_top}
use Rattle.place_types.specs.Held.{cell_by, has_arrays, IsArrayOf}

abbrev pub rest_by : CodeRest → Rest
rest_by rest.Keeps = Keeps
rest_by rest.Drops = Drops
rest_by rest.WantsNone = WantsNone

abbrev pub meets : Program → Wants → StackType → Bool
meets p wants.Anything t = true
meets p (wants.Fits place) t = assignable p t (stack_or_never place)
meets p wants.Reference t = is_reference t
meets p wants.Int t = is_int t
meets p wants.Condition t = is_condition (sort_of t)

abbrev pub types_given : Given → List StackType
types_given given.Nothing = []
types_given (given.Single t) = stack_or_never t ∷ []
types_given (given.Twice t) = stack_of t ∷ (stack_of t ∷ [])

abbrev pub access_by : Memory → MemoryAccess
access_by (memory.Exact h) = Exact (cell_by h)
access_by (memory.Typed t) = Typed (type_of t)

abbrev pub element_by : Element → MemoryAccess
element_by (element.Exact h) = Exact (cell_by h)
element_by (element.Typed t) = Typed (type_of t.element)

abbrev pub single_by : Single → StackType → Option (List StackType)
single_by single.Duplicate = λ t. Some (t ∷ (t ∷ []))
single_by single.Unary = λ x. on_some (unary_type (sort_of x)) (λ t. Some (t ∷ []))
single_by (single.Convert integer) = λ x. on_some (unary_type (sort_of x)) (λ t. Some (number (is_long integer) ∷ []))
single_by (single.LoadIndirect a) = λ t. on_some (pointee t) (λ type. when (pointer_takes (access_by a) type) (Some (accessed (access_by a) type ∷ [])))
single_by single.LoadLength = λ t. on_some (array_of t) (λ array. Some (I ∷ []))

abbrev pub pair_by : Program → Pair → StackType → StackType → Option (List StackType)
pair_by p pair.Binary = λ x y. on_some (binary_type (sort_of x) (sort_of y)) (λ t. Some (t ∷ []))
pair_by p pair.Shift = λ x y. on_some (shift_type (sort_of x) (sort_of y)) (λ t. Some (t ∷ []))
pair_by p (pair.Compare comparison) = λ x y. when (is_comparable (compares_references comparison) (sort_of x) (sort_of y)) (Some (I ∷ []))
pair_by p (pair.BranchCompare comparison) = λ x y. when (is_comparable (branches_on_references comparison) (sort_of x) (sort_of y)) (Some [])
pair_by p (pair.StoreIndirect a) = λ t v. on_some (pointee t) (λ type. when (pointer_takes (access_by a) type && assignable p v (accessed (access_by a) type)) (Some []))
pair_by p (pair.LoadElement a) = λ t index. on_some (array_of t) (λ array. when (is_int index && array_takes p (element_by a) array) (Some (element_loaded (element_by a) array ∷ [])))
pair_by p (pair.LoadElementAddress o) = λ t index. on_some (array_of t) (λ array. when (is_int index && array_takes p (Typed (type_of o.element)) array) (Some (P (type_of o.element) ∷ [])))

abbrev pub store_by : Program → Element → StackType → StackType → StackType → Option (List StackType)
store_by p a = λ t index v. on_some (array_of t) (λ array. when (is_int index && (array_takes p (element_by a) array && element_takes p (element_by a) v)) (Some []))

abbrev pub gives_by : Program → Act → List StackType → Option (List StackType)
gives_by p (act.Zero g) = none (option_map types_given g)
gives_by p (act.One w g) = one (λ t. when (meets p w t) (Some (types_given g)))
gives_by p (act.Two v w) = two (λ x y. when (meets p v x && meets p w y) (Some []))
gives_by p (act.Single s) = one (single_by s)
gives_by p (act.Pair s) = two (pair_by p s)
gives_by p (act.StoreElement a) = three (store_by p a)
gives_by p (act.Call this params g) = λ us. when (all_assignable p us (map loaded (map place_of (listed this ++ params.now)))) (Some (types_given g))
gives_by p (act.New class this params) = λ us. when (all_assignable p (O (type_of class) ∷ us) (map loaded (map place_of (this ∷ params.now)))) (Some (O (type_of class) ∷ []))

-- the types that are taken, where they are so many
abbrev pub one_of : List WorldType → Option WorldType
one_of (x ∷ []) = Some x
one_of _ = None

abbrev pub two_of : List WorldType → Option (WorldType × WorldType)
two_of (x ∷ (y ∷ [])) = Some (x, y)
two_of _ = None

abbrev pub three_of : List WorldType → Option (WorldType × WorldType × WorldType)
three_of (x ∷ (y ∷ (z ∷ []))) = Some (x, y, z)
three_of _ = None

abbrev pub ElementSpelt : Element → Type 0
ElementSpelt (element.Exact h) = Unit {0}
ElementSpelt (element.Typed o) = IsArrayOf o.element o.array

abbrev pub PairSpelt : Pair → Type 0
PairSpelt (pair.LoadElement a) = ElementSpelt a
PairSpelt (pair.LoadElementAddress o) = IsArrayOf o.element o.array
PairSpelt _ = Unit {0}

abbrev pub IsSpelt : Act → Type 0
IsSpelt (act.Pair s) = PairSpelt s
IsSpelt (act.StoreElement a) = ElementSpelt a
IsSpelt _ = Unit {0}
