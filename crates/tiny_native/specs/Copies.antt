-- What natives find and copy.
use Rattle.std.specs.Prelude.{◌≡◌, ℕ, ℤ, pos, negsuc, ◌+◌, ◌-◌, ◌%◌, ◌||◌, ◌^◌, ◌<◌, ◌≤◌, ◌⊎◌, nat_lt, if◌then◌else◌, Bool, true, false, unsigned_abs, List, map, length, Option, Some, None, slice_index_or, slice_get, ◌∷◌}
use Rattle.std.specs.Option.{option_map}
use Rattle.std.specs.Int.{w32, cast_unsigned}
use Rattle.board_types.specs.declared.value.Shape.{Shape}
use Rattle.board_types.specs.declared.value.Value.{Value as BoardValue}
use Rattle.board_types.specs.declared.value.Value.TheVariants as board
use Rattle.board_types.specs.declared.board.Known.TheVariants.{IndexOutOfRange, Argument, ArgumentNull, ArgumentOutOfRange}
use Rattle.machine.specs.Numbers.{is_negative, same_width}
use Rattle.machine.specs.Throw.{on_some, goes, raise}
use Rattle.machine.specs.Rows.{or_raise, index_of, on_thing_or, on_elements}
use Rattle.cil_opcodes.specs.declared.shape.IntegerType.TheVariants.{U2}
use Rattle.machine.specs.Data.{State, Bits, Cell, thing_at, put_thing, Elements, Value, Int, Long, Null, Object, Handle, Pointer, Thing}
use Rattle.ram_words.specs.Elements.{HasKind, cut_by, type_held}
use Rattle.tiny_ops.specs.Operators.{stack_value}
use Rattle.tiny_ram.specs.Things.{Entry}
use Rattle.tiny_ram.specs.Memory.{Memory, IsEntry, put_in}
use Rattle.tiny_ram.specs.Region.{Keeps}
use Rattle.tiny_ram.specs.declared.memory.Ram.{Ram}
use Rattle.tiny_native.specs.Seen.{Scene, Named, kind_of, seen, text_entry}
use Rattle.board_ids.specs.Ids.{cli_type}
use Rattle.tiny_native.specs.declared.arrays.ArrayAt.{ArrayAt}
use Rattle.machine.specs.Natives.{text_at, is_range, new_text, piece, spliced, copy_elements, on_array_or_null, number_text}
use Rattle.tiny_native.specs.declared.pieces.Span.{Span}
use Rattle.tiny_native.specs.declared.strings.StringAt.{StringAt}
use Rattle.tiny_native.specs.declared.find.Found.{Found}
use Rattle.tiny_native.specs.declared.find.Found.TheVariants as found

-- the value is no reference, or names a thing of another kind
abbrev pub Lacks : ℕ → List Thing → Value → Type 0
Lacks what heap (Object n) = (x : Thing) × (thing_at heap n ≡ Some x) × (kind_of x ≡ what → ⊥)
Lacks what heap Null = ⊥
Lacks what heap (Int n) = Unit {0}
Lacks what heap (Long n) = Unit {0}
Lacks what heap (Handle f) = Unit {0}
Lacks what heap (Pointer cell spot) = Unit {0}

-- the value names a thing of the kind
pub record Finds (c : Scene) (v : BoardValue) (what thing : ℕ) (shape : Shape) : Type 0 where
  pub some : 0 < thing
  pub value : v ≡ board.Ref thing
  pub named : Named c thing
  pub same : shape ≡ named.entry.shape
  pub kind : kind_of named.object ≡ what

abbrev pub IsFound : Scene → BoardValue → ℕ → Found → Type 0
IsFound c v what found.Null = v ≡ board.Ref 0
IsFound c v what (found.Thing thing shape) = Finds c v what thing shape
IsFound c v what found.Other = Lacks what c.state.heap (stack_value c.leads v)

-- a string, or null as thing 0 without units
abbrev pub TextIs : Memory → ℕ → ℕ → Option (List ℕ) → Type 0
TextIs m thing count None = (thing ≡ 0) × (count ≡ 0)
TextIs m thing count (Some units) = (0 < thing) × (count ≡ length units) × IsEntry m thing (text_entry units)

pub record NamesText (c : Scene) (v : BoardValue) (t : StringAt) : Type 0 where
  pub text : Option (List ℕ)
  pub at : text_at c.state.heap (stack_value c.leads v) ≡ Some text
  pub value : v ≡ board.Ref t.thing
  pub is : TextIs c.memory t.thing t.count text

abbrev pub IsText : Scene → BoardValue → Option StringAt → Type 0
IsText c v None = text_at c.state.heap (stack_value c.leads v) ≡ None
IsText c v (Some t) = NamesText c v t

-- the unit at an index that is looked at as an unsigned number, or the exception
abbrev pub unit_in_text : Scene → ℤ → List ℕ → Option State
unit_in_text c i units = if is_negative i then raise c.program c.state IndexOutOfRange else or_raise c.program c.state IndexOutOfRange (slice_get units (index_of i)) (λ u. goes c.program c.state c.frame c.callers c.next (Int (pos u) ∷ c.rest))

-- -1, 0 or 1
abbrev pub number_order : ℕ → ℕ → ℤ
number_order a b = if nat_lt a b then negsuc 0 else (if nat_lt b a then pos 1 else pos 0)

-- ---- copies

abbrev pub cut_place : Cell → Option BoardValue → Option BoardValue
cut_place cell held = option_map (cut_by (Some cell)) held

abbrev pub PlaceHasKind : Cell → Option BoardValue → Type 0
PlaceHasKind cell (Some v) = HasKind cell v
PlaceHasKind cell None = ⊥

-- a char as a place holds it, or its lowest bits
abbrev pub unit_in : Option BoardValue → ℕ
unit_in (Some (board.Int n)) = cast_unsigned w32 n % 2 ^ 16
unit_in _ = 0

-- of so many places from one on each holds a value of the kind
abbrev pub AllHaveKind : Cell → List (Option BoardValue) → ℕ → ℕ → Type 0
AllHaveKind cell places start count = (k : ℕ) → k < count → PlaceHasKind cell (slice_index_or places (start + k) None)

-- the places from i + low to i + high of the one lie, cut, in the other from j + low on, and its others are as before
pub record Laid (cell : Cell) (from before : List (Option BoardValue)) (i j low high : ℕ) (after : List (Option BoardValue)) : Type 0 where
  pub count : length after ≡ length before
  pub inside : (k : ℕ) → low ≤ k → k < high → slice_index_or after (j + k) None ≡ cut_place cell (slice_index_or from (i + k) None)
  pub outside : (t : ℕ) → (t < j + low) ⊎ (j + high ≤ t) → slice_index_or after t None ≡ slice_index_or before t None

-- a thing's places are copied into another's, which may be the same
pub record Copied (u : Ram) (m : Memory) (thing : ℕ) (e : Entry) (cell : Cell) (from : List (Option BoardValue)) (i j low high : ℕ) : Type 0 where
  pub places : List (Option BoardValue)
  pub keeps : Keeps u (put_in m thing (record e { places = places }))
  pub laid : Laid cell from e.places i j low high places

-- ---- pieces

abbrev pub IsRange : ℕ → ℤ → ℤ → Option Span → Type 0
IsRange most start count None = is_range most start count ≡ false
IsRange most start count (Some r) = (is_range most start count ≡ true) × (r.start ≡ unsigned_abs start) × (r.count ≡ unsigned_abs count) × (r.start + r.count ≤ most)

-- elements as wide as chars
abbrev pub is_wide : Option Cell → Bool
is_wide None = false
is_wide (Some cell) = same_width cell (Bits U2)

-- a new string where that is a range, else the exception
abbrev pub part_of : Scene → Bool → List ℕ → Option State
part_of c b units = if b then new_text c.program c.state c.frame c.callers c.next c.rest units else raise c.program c.state ArgumentOutOfRange

-- ---- copies of elements

-- an array of the memory
pub record IsElements (c : Scene) (x : ArrayAt) (e : Entry) : Type 0 where
  pub is : IsEntry c.memory x.thing e
  pub same : x.shape ≡ e.shape
  pub what : e.shape.what ≡ 1
  pub cell : Cell
  pub packed : type_held e.shape.of ≡ Some cell

abbrev pub elements_of : Scene → Entry → List Value
elements_of c e = map (seen c.leads) e.places

-- a copy of so many elements into the array of this number, where both arrays have them
abbrev pub places_copied : Scene → ℕ → Entry → Entry → ℕ → ℕ → ℕ → Option State
places_copied c thing d e from to count =
    if nat_lt (length (elements_of c d)) (from + count) || nat_lt (length (elements_of c e)) (to + count) then raise c.program c.state Argument
    else goes c.program (record c.state { heap = put_thing c.state.heap (thing - 1) (Elements (cli_type e.shape.of) (spliced (elements_of c e) to (piece from count (elements_of c d)))) }) c.frame c.callers c.next c.rest

abbrev pub elements_copied : Scene → ℕ → Entry → Entry → ℤ → ℤ → ℤ → Option State
elements_copied c thing d e from to count = copy_elements c.program c.state c.frame c.callers c.next c.rest (thing - 1) (cli_type d.shape.of) (elements_of c d) (cli_type e.shape.of) (elements_of c e) from to count

-- into what a value names
abbrev pub copied_onto : Scene → Value → Entry → ℤ → ℤ → ℤ → Option State
copied_onto c target d from to count =
    on_array_or_null c.state.heap target (
    on_thing_or c.program c.state ArgumentNull target (λ b y.
    on_elements y (λ type values. copy_elements c.program c.state c.frame c.callers c.next c.rest b (cli_type d.shape.of) (elements_of c d) type values from to count)))

-- ---- numbers

-- a new string of the number that a place means
abbrev pub number_in_text : Scene → Option Cell → Value → Option State
number_in_text c kind v = on_some (number_text kind v) (λ units. new_text c.program c.state c.frame c.callers c.next c.rest units)
