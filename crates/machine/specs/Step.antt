-- One step.
use Rattle.std.specs.Int.{w32, cast_unsigned}
use Rattle.std.specs.Prelude.{ℕ, Bool, if◌then◌else◌, List, ◌∷◌, Option, Some, None, slice_get, slice_set, unwrap_or}
use Rattle.std.specs.List.{list_any}
use Rattle.machine.specs.Data.{id_eq, Cell, cell_of, PlaceType, Plain, To, InArgument, InLocal, Value, Pointer, Frame, State}
use Rattle.machine.specs.Program.{Program, Instruction, Nop, Push, Dup, Pop, LoadArgument, StoreArgument, LoadArgumentAddress, LoadLocal, StoreLocal, LoadLocalAddress, Binary, Shift, Unary, Compare, Convert, ConvertChecked, Branch, BranchIf, BranchCompare, Switch, Call, CallVirtual, NewObject, Return, LoadField, StoreField, LoadFieldAddress, LoadStatic, StoreStatic, LoadStaticAddress, LoadText, LoadIndirect, StoreIndirect, NewArray, LoadLength, LoadElement, StoreElement, LoadElementAddress, CastClass, IsInstance, Box, Unbox, UnboxAny, Throw, Rethrow, Leave, EndFinally, Initialiser, Line}
use Rattle.machine.specs.Numbers.{agree, of_bool, binary, shift, unary, compare, branch_compare, convert, convert_checked, truth, kept, as_int}
use Rattle.machine.specs.Throw.{on_some, goes, left, leave, take_up, throw_value, throw_again}
use Rattle.machine.specs.Rows.{on_top, on_two, on_frames, answered, frames_cells}
use Rattle.machine.specs.Objects.{load_field, store_field, load_field_address, load_static, store_static, load_static_address, load_text, literal_object, load_indirect, store_indirect, new_array, load_length, load_element, store_element, load_element_address, cast_class, is_instance, box_value, unbox, unbox_any}
use Rattle.machine.specs.Calls.{call, call_virtual, new_object, return_value, start_class}

-- goes to the target or to the next instruction
abbrev pub branch_if : Program → State → Frame → List Frame → ℕ → Bool → ℕ → Option Bool → List Value → Option State
branch_if p s f fs next on target test rest = on_some test (λ b. goes p s f fs (if agree b on then target else next) rest)

-- the cell of a place that isn't a pointer
abbrev pub place_cell : PlaceType → Option Cell
place_cell (Plain type) = cell_of type
place_cell (To type) = None

-- one instruction
abbrev pub act : Program → State → Frame → List Frame → ℕ → Instruction → Option State
act p s f fs next Nop = goes p s f fs next f.stack
act p s f fs next (Push v) = goes p s f fs next (v ∷ f.stack)
act p s f fs next Dup = on_top f.stack (λ v rest. goes p s f fs next (v ∷ v ∷ rest))
act p s f fs next Pop = on_top f.stack (λ v rest. goes p s f fs next rest)
act p s f fs next (LoadArgument n) = on_some (slice_get f.arguments n) (λ v. goes p s f fs next (v ∷ f.stack))
act p s f fs next (StoreArgument n) =
    on_some (p.method f.method) (λ m.
    on_some (slice_get m.arguments n) (λ type.
    on_top f.stack (λ v rest.
    on_some (kept type v) (λ w. goes p s (record f { arguments = slice_set f.arguments n w }) fs next rest))))
act p s f fs next (LoadArgumentAddress n) =
    on_some (p.method f.method) (λ m.
    on_some (slice_get m.arguments n) (λ type.
    on_some (place_cell type) (λ cell. goes p s f fs next (Pointer cell (InArgument (frames_cells p (f ∷ fs)) n) ∷ f.stack))))
act p s f fs next (LoadLocal n) = on_some (slice_get f.locals n) (λ v. goes p s f fs next (v ∷ f.stack))
act p s f fs next (StoreLocal n) =
    on_some (p.method f.method) (λ m.
    on_some (slice_get m.locals n) (λ type.
    on_top f.stack (λ v rest.
    on_some (kept type v) (λ w. goes p s (record f { locals = slice_set f.locals n w }) fs next rest))))
act p s f fs next (LoadLocalAddress n) =
    on_some (p.method f.method) (λ m.
    on_some (slice_get m.locals n) (λ type.
    on_some (place_cell type) (λ cell. goes p s f fs next (Pointer cell (InLocal (frames_cells p (f ∷ fs)) n) ∷ f.stack))))
act p s f fs next (Binary operator) = on_two f.stack (λ x y rest. answered p s f fs next rest (binary operator x y))
act p s f fs next (Shift operator) = on_two f.stack (λ x y rest. on_some (shift operator x y) (λ v. goes p s f fs next (v ∷ rest)))
act p s f fs next (Unary operator) = on_top f.stack (λ x rest. on_some (unary operator x) (λ v. goes p s f fs next (v ∷ rest)))
act p s f fs next (Compare comparison) =
    on_two f.stack (λ x y rest. on_some (compare comparison x y) (λ b. goes p s f fs next (of_bool b ∷ rest)))
act p s f fs next (Convert integer) = on_top f.stack (λ x rest. on_some (convert integer x) (λ v. goes p s f fs next (v ∷ rest)))
act p s f fs next (ConvertChecked integer source) =
    on_top f.stack (λ x rest. answered p s f fs next rest (convert_checked integer source x))
act p s f fs next (Branch target) = goes p s f fs target f.stack
act p s f fs next (BranchIf on target) = on_top f.stack (λ v rest. branch_if p s f fs next on target (truth v) rest)
act p s f fs next (BranchCompare comparison on target) =
    on_two f.stack (λ x y rest. branch_if p s f fs next on target (branch_compare comparison x y) rest)
act p s f fs next (Switch targets) =
    on_top f.stack (λ v rest. on_some (as_int v) (λ n. goes p s f fs (unwrap_or (slice_get targets (cast_unsigned w32 n)) next) rest))
act p s f fs next (Call id) = call p s f fs next id
act p s f fs next (CallVirtual id) = call_virtual p s f fs next id
act p s f fs next (NewObject class constructor) = new_object p s f fs class constructor
act p s f fs next Return = return_value p s f fs
act p s f fs next (LoadField owner n) = load_field p s f fs next owner n
act p s f fs next (StoreField owner n) = store_field p s f fs next owner n
act p s f fs next (LoadFieldAddress owner n) = load_field_address p s f fs next owner n
act p s f fs next (LoadStatic id) = load_static p s f fs next id
act p s f fs next (StoreStatic id) = store_static p s f fs next id
act p s f fs next (LoadStaticAddress id) = load_static_address p s f fs next id
act p s f fs next (LoadText units) = load_text p s f fs next units (literal_object s.literals units)
act p s f fs next (LoadIndirect access) = load_indirect p s f fs next access
act p s f fs next (StoreIndirect access) = store_indirect p s f fs next access
act p s f fs next (NewArray element) = new_array p s f fs next element
act p s f fs next LoadLength = load_length p s f fs next
act p s f fs next (LoadElement access) = load_element p s f fs next access
act p s f fs next (StoreElement access) = store_element p s f fs next access
act p s f fs next (LoadElementAddress element) = load_element_address p s f fs next element
act p s f fs next (CastClass type) = cast_class p s f fs next type
act p s f fs next (IsInstance type) = is_instance p s f fs next type
act p s f fs next (Box type) = box_value p s f fs next type
act p s f fs next (Unbox type) = unbox p s f fs next type
act p s f fs next (UnboxAny type) = on_some (cell_of type) (λ cell. unbox_any p s f fs next type cell)
act p s f fs next Throw = on_top f.stack (λ v rest. throw_value p s v)
act p s f fs next (Rethrow k) = throw_again p s (slice_get f.slots k)
act p s f fs next (Leave target) =
    on_some (p.method f.method) (λ m. leave p s f fs (left p f.method f.place target 0 m.clauses) target)
act p s f fs next (EndFinally k) = take_up p s f fs (slice_get f.slots k)

abbrev pub after_start : Program → State → Frame → List Frame → Line → Option Initialiser → Option State
after_start p s f fs line None = act p s f fs line.next line.instruction
after_start p s f fs line (Some i) =
    if list_any (id_eq i.class) s.started
    then act p s f fs line.next line.instruction
    else start_class p s i

-- a step of a state that goes on; none where the machine has no case
unfoldable pub step : Program → State → Option State
step p s =
    on_frames s.frames (λ f fs.
    on_some (p.fetch f.method f.place) (λ line. after_start p s f fs line line.needs))
