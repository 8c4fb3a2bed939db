-- A memory as its calls show it: objects by their first cells from below, frames from above.
use Rattle.std.specs.Prelude.{◌≡◌, ℕ, ℤ, pos, ◌+◌, ◌-◌, ◌<◌, ◌≤◌, ◌==◌, nat_lt, Bool, false, if◌then◌else◌, List, [], ◌∷◌, ◌++◌, sum, replicate, Option, Some, None, slice_get, slice_set, slice_index, unwrap_or}
use Rattle.plain_types.specs.declared.elem.Elem.{Elem}
use Rattle.plain_types.specs.declared.elem.Elem.TheVariants.{Void}
use Rattle.board_types.specs.declared.board.TypeAt.{TypeAt}
use Rattle.board_types.specs.declared.value.Shape.{Shape}
use Rattle.board_types.specs.declared.value.Value.{Value}
use Rattle.board_types.specs.declared.value.Value.TheVariants.{Int}
use Rattle.ram_words.specs.Elements.{elem_held, cut_by, zero_by}
use Rattle.tiny_ram.specs.declared.parts.Part.{Part}
use Rattle.tiny_ram.specs.declared.parts.Part.TheVariants.{Slot, CodePlace, Depth, Initialiser, Past}
use Rattle.tiny_ram.specs.Things.{Entry, entry_cells, row_type}

-- a frame: its method, the numbers of its arguments, locals, stack places and clauses, what was put into these places, its place in
-- the code, how many values its stack has, and whether it initialises a class
pub record RamFrame : Type 0 where
  pub method : TypeAt
  pub sizes : List ℕ
  pub places : List (Option Value)
  pub place : ℤ
  pub depth : ℕ
  pub initialiser : Bool

-- the oldest object and the innermost frame stand first
pub record Memory : Type 0 where
  pub room : ℕ
  pub heap : List Entry
  pub frames : List RamFrame

abbrev pub empty : ℕ → Memory
empty room = record { room = room; heap = []; frames = [] }

abbrev pub heap_cells : List Entry → ℕ
heap_cells [] = 0
heap_cells (e ∷ es) = entry_cells e + heap_cells es

abbrev pub frame_cells : RamFrame → ℕ
frame_cells f = 2 + sum f.sizes

abbrev pub frames_cells : List RamFrame → ℕ
frames_cells [] = 0
frames_cells (f ∷ fs) = frame_cells f + frames_cells fs

-- the cells in use
abbrev pub used : Memory → ℕ
used m = heap_cells m.heap + frames_cells m.frames

-- ---- objects

-- the object whose first cell has this number
abbrev pub entry_at : List Entry → ℕ → Option Entry
entry_at [] n = None
entry_at (e ∷ es) n = if n == 0 then Some e else (if nat_lt n (entry_cells e) then None else entry_at es (n - entry_cells e))

abbrev pub put_entry : List Entry → ℕ → Entry → List Entry
put_entry [] n x = []
put_entry (e ∷ es) n x = if n == 0 then x ∷ es else (if nat_lt n (entry_cells e) then e ∷ es else e ∷ put_entry es (n - entry_cells e) x)

-- a thing's number is one more than its first cell's
pub record IsEntry (m : Memory) (thing : ℕ) (e : Entry) : Type 0 where
  pub some : 0 < thing
  pub there : entry_at m.heap (thing - 1) ≡ Some e

abbrev pub with_entry : Memory → Entry → Memory
with_entry m e = record m { heap = m.heap ++ e ∷ [] }

abbrev pub put_in : Memory → ℕ → Entry → Memory
put_in m thing e = record m { heap = put_entry m.heap (thing - 1) e }

-- ---- frames

-- the number of the innermost of these frames, which end where the memory ends; 0 where there is none
abbrev pub innermost : ℕ → List RamFrame → ℕ
innermost room [] = 0
innermost room (f ∷ fs) = 1 + (room - frames_cells (f ∷ fs))

-- the frame of this number
abbrev pub frame_at : ℕ → List RamFrame → ℕ → Option RamFrame
frame_at room [] thing = None
frame_at room (f ∷ fs) thing = if innermost room (f ∷ fs) == thing then Some f else frame_at room fs thing

abbrev pub put_frame : ℕ → List RamFrame → ℕ → RamFrame → List RamFrame
put_frame room [] thing g = []
put_frame room (f ∷ fs) thing g = if innermost room (f ∷ fs) == thing then g ∷ fs else f ∷ put_frame room fs thing g

-- the number of the caller of the frame of this number
abbrev pub caller_of : ℕ → List RamFrame → ℕ → ℕ
caller_of room [] thing = 0
caller_of room (f ∷ fs) thing = if innermost room (f ∷ fs) == thing then innermost room fs else caller_of room fs thing

abbrev pub IsFrame : Memory → ℕ → RamFrame → Type 0
IsFrame m thing f = frame_at m.room m.frames thing ≡ Some f

abbrev pub fresh_frame : TypeAt → List ℕ → RamFrame
fresh_frame method sizes = record { method = method; sizes = sizes; places = replicate (sum sizes) None; place = pos 0; depth = 0; initialiser = false }

abbrev pub with_frame : Memory → RamFrame → Memory
with_frame m f = record m { frames = f ∷ m.frames }

-- the frames without the innermost
abbrev pub callers : List RamFrame → List RamFrame
callers [] = []
callers (f ∷ fs) = fs

abbrev pub put_in_frame : Memory → ℕ → RamFrame → Memory
put_in_frame m thing f = record m { frames = put_frame m.room m.frames thing f }

abbrev pub frame_shape : RamFrame → Shape
frame_shape f = record { what = 4; of = row_type Void f.method; count = sum f.sizes }

-- the part of a frame that an index names, behind so many places
abbrev pub part_of : ℕ → ℕ → Part
part_of total i =
    if nat_lt i total then Slot
    else (if i == total then CodePlace
    else (if i == total + 1 then Depth
    else (if i == total + 2 then Initialiser else Past)))

-- what the part holds: behind the places that are int32s
abbrev pub part_value : RamFrame → ℕ → Part → Option Value
part_value f i Slot = unwrap_or (slice_get f.places i) None
part_value f i CodePlace = Some (Int f.place)
part_value f i Depth = Some (Int (pos f.depth))
part_value f i Initialiser = Some (Int (if f.initialiser then pos 1 else pos 0))
part_value f i Past = None

abbrev pub frame_value : RamFrame → ℕ → Option Value
frame_value f i = part_value f i (part_of (sum f.sizes) i)

-- what may be put there
abbrev pub PartTakes : RamFrame → Part → Value → Type 0
PartTakes f Slot v = Unit {0}
PartTakes f CodePlace (Int n) = Unit {0}
PartTakes f Depth (Int (pos n)) = n ≤ slice_index f.sizes 2
PartTakes f Initialiser (Int (pos n)) = n < 2
PartTakes f _ _ = ⊥

abbrev pub with_part : RamFrame → ℕ → Elem → Part → Value → RamFrame
with_part f i elem Slot v = record f { places = slice_set f.places i (Some (cut_by (elem_held elem) v)) }
with_part f i elem CodePlace (Int n) = record f { place = n }
with_part f i elem Depth (Int (pos n)) = record f { depth = n }
with_part f i elem Initialiser (Int (pos n)) = record f { initialiser = n == 1 }
with_part f i elem _ _ = f

abbrev pub FrameTakes : RamFrame → ℕ → Value → Type 0
FrameTakes f i v = PartTakes f (part_of (sum f.sizes) i) v

abbrev pub with_frame_value : RamFrame → ℕ → Elem → Value → RamFrame
with_frame_value f i elem v = with_part f i elem (part_of (sum f.sizes) i) v

-- what is seen of a place of the element type: the value last put there, else the zero of the type
abbrev pub shown : Elem → Option Value → Value
shown elem held = unwrap_or held (zero_by (elem_held elem))

abbrev pub entry_value : Entry → ℕ → Option Value
entry_value e i = unwrap_or (slice_get e.places i) None

-- ---- the innermost frame

abbrev pub with_frames : Memory → List RamFrame → Memory
with_frames m fs = record m { frames = fs }

-- how many arguments and locals a frame has
abbrev pub variables : RamFrame → ℕ
variables f = slice_index f.sizes 0 + slice_index f.sizes 1

-- what an argument or a local holds; none where there is no such place
abbrev pub variable_value : RamFrame → ℕ → Option Value
variable_value f n = if nat_lt n (variables f) then unwrap_or (slice_get f.places n) None else None

abbrev pub with_variable : RamFrame → ℕ → Value → RamFrame
with_variable f n v = record f { places = slice_set f.places n (Some v) }

-- the topmost value; none on an empty stack
abbrev pub top_value : RamFrame → Option Value
top_value f = if f.depth == 0 then None else unwrap_or (slice_get f.places (variables f + (f.depth - 1))) None

abbrev pub popped : RamFrame → RamFrame
popped f = record f { depth = f.depth - 1 }

abbrev pub pushed : RamFrame → Value → RamFrame
pushed f v = record f { places = slice_set f.places (variables f + f.depth) (Some v); depth = f.depth + 1 }
