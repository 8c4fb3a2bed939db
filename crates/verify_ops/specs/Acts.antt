-- The rows of the code as the machine's.
use Rattle.std.specs.Prelude.{◌≡◌, ℕ, ℤ, Bool, true, false, ◌+◌, ◌-◌, ◌&&◌, ◌||◌, nat_lt, take, List, [], ◌∷◌, ◌++◌, map, length, Option, Some, None, Result, Ok, Err}
use Rattle.std.specs.Option.{option_map}
use Rattle.ecma_types.specs.declared.stack.PlaceType.{PlaceType as WorldPlace}
use Rattle.ecma_types.specs.declared.stack.StackType.{StackType as WorldType}
use Rattle.cil_opcodes.specs.declared.shape.Access.{Access}
use Rattle.cil_opcodes.specs.declared.shape.Shape.{Shape}
use Rattle.machine.specs.Data.{CliType, PlaceType}
use Rattle.machine.specs.Program.{Program, Exact, Typed}
use Rattle.machine.specs.Program.{Access as MemoryAccess}
use Rattle.machine.specs.Numbers.{is_long}
use Rattle.machine.specs.Throw.{on_some}
use Rattle.machine_typed.specs.Typing.{StackType, I, O, P, number, loaded, is_plain, is_number, is_int, is_reference, is_condition, is_comparable, compares_references, branches_on_references, sort_of, binary_type, shift_type, unary_type, pointee, array_of, pointer_takes, accessed, array_takes, element_loaded, element_takes, assignable, all_assignable, when}
use Rattle.classes.specs.Queries.{listed}
use Rattle.class_rules.specs.Rules.{holds_some}
use Rattle.code_rules.specs.Rows.{Row, Rest, Keeps, Drops, WantsNone, none, one, two, three, judged}
use Rattle.stack_acts.specs.declared.row.Rest.{Rest as CodeRest}
use Rattle.stack_acts.specs.declared.row.Rest.TheVariants as rest
use Rattle.stack_acts.specs.declared.row.Wants.{Wants}
use Rattle.stack_acts.specs.declared.row.Wants.TheVariants as wants
use Rattle.stack_acts.specs.declared.row.Given.{Given}
use Rattle.stack_acts.specs.declared.row.Given.TheVariants as given
use Rattle.stack_acts.specs.declared.row.Memory.{Memory}
use Rattle.stack_acts.specs.declared.row.Memory.TheVariants as memory
use Rattle.stack_acts.specs.declared.row.Element.{Element}
use Rattle.stack_acts.specs.declared.row.Element.TheVariants as element
use Rattle.stack_acts.specs.declared.row.Single.{Single}
use Rattle.stack_acts.specs.declared.row.Single.TheVariants as single
use Rattle.stack_acts.specs.declared.row.Pair.{Pair}
use Rattle.stack_acts.specs.declared.row.Pair.TheVariants as pair
use Rattle.stack_acts.specs.declared.row.Act.{Act}
use Rattle.stack_acts.specs.declared.row.Act.TheVariants as act
use Rattle.stack_acts.specs.declared.row.Row.{Row as CodeRow}
use Rattle.place_types.specs.declared.held.ArrayOperand.{ArrayOperand}
use Rattle.verify_ops.specs.declared.facts.Facts.{Facts}
use Rattle.verify_ops.specs.declared.facts.OpRefusal.{OpRefusal}
use Rattle.verify_ops.specs.declared.facts.OpRefusal.TheVariants as refusal
use Rattle.verify_ops.specs.declared.facts.Operand.{Operand}
use Rattle.verify_ops.specs.declared.facts.Operand.TheVariants as operand
use Rattle.verify_ops.specs.declared.facts.FieldOperand.{FieldOperand}
use Rattle.place_types.specs.Types.{type_of, place_of, stack_of, stack_or_never, from_top}
use Rattle.verify_ops.specs.Facts.{instruction_by, program_by, field_named, names_plain, names_number, names_element, typed_access, access_named}
use Rattle.place_types.specs.Held.{cell_by, has_arrays, IsArrayOf}
use Rattle.verify_ops.specs.Effects.{lowest_of, loads, effect_by}
use Rattle.stack_acts.specs.Acts.{rest_by, types_given, access_by, element_by, gives_by, ElementSpelt, IsSpelt}

abbrev pub row_by : Program → CodeRow → Row
row_by p r = record { sound = true; rule = 46; pops = r.pops; pushes = r.pushes; gives = gives_by p r.act; rest = rest_by r.rest }

-- ---- what the row's judgement leaves

abbrev pub deeper : CodeRest → ℕ → ℕ → Bool
deeper rest.Keeps most n = nat_lt most n
deeper rest.Drops most n = false
deeper rest.WantsNone most n = false

-- more types than the max stack are there before the instruction, or behind it
abbrev pub passes_max : CodeRow → ℕ → ℕ → Bool
passes_max r most depth = nat_lt most depth || deeper r.rest most (r.pushes + (depth - r.pops))

-- something is left where nothing may be
abbrev pub is_left : CodeRest → ℕ → Bool
is_left rest.Keeps below = false
is_left rest.Drops below = false
is_left rest.WantsNone below = nat_lt 0 below

abbrev pub kept_by : CodeRest → ℕ → ℕ
kept_by rest.Keeps below = below
kept_by rest.Drops below = 0
kept_by rest.WantsNone below = 0

abbrev pub kept_below : CodeRow → ℕ → ℕ
kept_below r depth = kept_by r.rest (depth - r.pops)

abbrev pub judged_by : Program → CodeRow → ℕ → List WorldType → Result (List StackType) ℕ
judged_by p r most stack = lowest_of (loads (judged (row_by p r) most (from_top stack)))

abbrev pub Judged : Program → CodeRow → ℕ → List WorldType → Result Given OpRefusal → Type 0
Judged p r most stack (Ok g) = judged_by p r most stack ≡ Ok (types_given g ++ from_top (take (kept_below r (length stack)) stack))
Judged p r most stack (Err (refusal.Broken rule)) = judged_by p r most stack ≡ Err rule
Judged p r most stack (Err refusal.NoMemory) = Unit {0}

-- what a row of the code makes of a stack
abbrev pub row_effect : (CliType → CliType → Bool) → Facts → CodeRow → List StackType → Result (List StackType) ℕ
row_effect fits f r ts = lowest_of (loads (judged (row_by (program_by fits f.operand) r) f.max_stack ts))

-- the row of an instruction, or the rule that it breaks whatever lies on the stack
abbrev pub Chosen : Facts → Shape → ℤ → Result CodeRow ℕ → Type 0
Chosen f s n (Ok r) = ((fits : CliType → CliType → Bool) (ts : List StackType) → effect_by fits f s (instruction_by s n f.operand) ts ≡ row_effect fits f r ts) × IsSpelt r.act
Chosen f s n (Err rule) = (fits : CliType → CliType → Bool) (ts : List StackType) → effect_by fits f s (instruction_by s n f.operand) ts ≡ Err rule

-- ---- what an operand or a number names, or the rule that it breaks

abbrev pub FindsPlace : Result WorldPlace ℕ → Option WorldPlace → Type 0
FindsPlace (Ok place) o = o ≡ Some place
FindsPlace (Err rule) o = (o ≡ None) × (rule ≡ 47)

-- a row by the place that a number finds
abbrev pub PlaceRow : (Program → PlaceType → Row) → Option WorldPlace → Result CodeRow ℕ → Type 0
PlaceRow make o (Ok r) = (place : WorldPlace) × (o ≡ Some place) × ((p : Program) → row_by p r ≡ make p (place_of place)) × IsSpelt r.act
PlaceRow make o (Err rule) = (o ≡ None) × (rule ≡ 47)

abbrev pub NamesPlain : Operand → Result WorldPlace ℕ → Type 0
NamesPlain o (Ok t) = (o ≡ operand.OfType t) × (is_plain (type_of t) ≡ true)
NamesPlain o (Err rule) = (names_plain o ≡ false) × (rule ≡ 46)

abbrev pub NamesNumber : Operand → Result WorldPlace ℕ → Type 0
NamesNumber o (Ok t) = (o ≡ operand.OfType t) × (is_number (type_of t) ≡ true)
NamesNumber o (Err rule) = (names_number o ≡ false) × (rule ≡ 46)

abbrev pub NamesElement : Operand → Result ArrayOperand ℕ → Type 0
NamesElement o (Ok a) = (o ≡ operand.OfType a.element) × ((is_plain (type_of a.element) && has_arrays a.element) ≡ true) × IsArrayOf a.element a.array
NamesElement o (Err rule) = (names_element o ≡ false) × (rule ≡ 46)

abbrev pub FindsMemory : Access → Operand → Result Memory ℕ → Type 0
FindsMemory a o (Ok m) = (access_named a o ≡ Some (access_by m)) × (typed_access a (names_plain o) ≡ true)
FindsMemory a o (Err rule) = (typed_access a (names_plain o) ≡ false) × (rule ≡ 46)

abbrev pub FindsElement : Access → Operand → Result Element ℕ → Type 0
FindsElement a o (Ok e) = (access_named a o ≡ Some (element_by e)) × (typed_access a (names_element o) ≡ true) × ElementSpelt e
FindsElement a o (Err rule) = (typed_access a (names_element o) ≡ false) × (rule ≡ 46)

abbrev pub NamesField : Operand → (FieldOperand → Bool) → Result FieldOperand ℕ → Type 0
NamesField o test (Ok f) = (o ≡ operand.Field f) × (test f ≡ true)
NamesField o test (Err rule) = (holds_some (field_named o) test ≡ false) × (rule ≡ 46)
