-- Things of a memory: what they are, how their places lie, and how many cells they have.
use Rattle.std.specs.Prelude.{◌≡◌, ℕ, ◌+◌, ◌*◌, ◌/◌, ◌==◌, ◌<◌, if◌then◌else◌, List, Option, Some, None, slice_set, replicate}
use Rattle.cil_opcodes.specs.declared.shape.IntegerType.TheVariants.{U2}
use Rattle.plain_types.specs.declared.elem.Elem.{Elem}
use Rattle.plain_types.specs.declared.elem.Elem.TheVariants as elem
use Rattle.board_types.specs.declared.board.TypeAt.{TypeAt}
use Rattle.board_types.specs.declared.board.BoardType.{BoardType}
use Rattle.board_types.specs.declared.board.TheConstants.{NO_ROW}
use Rattle.board_types.specs.declared.value.Shape.{Shape}
use Rattle.board_types.specs.declared.value.Value.{Value}
use Rattle.machine.specs.Data.{Cell, Bits, cell_bytes}
use Rattle.ram_words.specs.Cells.{kept_at}
use Rattle.ram_words.specs.Elements.{elem_held, type_held, cell_in, element_at, HasKind, cut_by, zero_by}
use Rattle.ram_words.specs.Headers.{static_shape}
use Rattle.tiny_ram.specs.declared.layout.Layout.{Layout as RamLayout}
use Rattle.tiny_ram.specs.declared.layout.Layout.TheVariants as ram

-- how places lie: packed behind the header, without bits, a cell each behind the header, or one cell without a header
pub data Layout : Type 0 where
  Packed : (cell : Cell) → Layout
  Bare : Layout
  Cells : Layout
  Alone : Layout

abbrev pub layout_in : RamLayout → Layout
layout_in (ram.Packed kind) = Packed (cell_in kind)
layout_in ram.Bare = Bare
layout_in ram.Cells = Cells
layout_in ram.Alone = Alone

abbrev pub packed_by : Option Cell → Layout
packed_by None = Bare
packed_by (Some cell) = Packed cell

-- 1 is an array, 2 a string, 5 a static field
abbrev pub layout_of : Shape → Layout
layout_of shape =
    if shape.what == 1 then packed_by (type_held shape.of)
    else (if shape.what == 2 then Packed (Bits U2)
    else (if shape.what == 5 then Alone else Cells))

-- cells of so many places: 12 bytes each, behind the first
abbrev pub cells_in : Layout → ℕ → ℕ
cells_in (Packed cell) n = 1 + (n * cell_bytes cell + 11) / 12
cells_in Bare n = 1
cells_in Cells n = 1 + n
cells_in Alone n = 1

-- what the i-th place of the object at a word holds
abbrev pub place_at : Layout → List ℕ → ℕ → ℕ → Option Value
place_at (Packed cell) ws at i = Some (element_at cell ws (at + 3) i)
place_at Bare ws at i = None
place_at Cells ws at i = kept_at ws (at + 3 + 3 * i)
place_at Alone ws at i = kept_at ws at

-- what a place holds where nothing was put: an element its zero
abbrev pub fresh_place : Layout → Option Value
fresh_place (Packed cell) = Some (zero_by (Some cell))
fresh_place Bare = None
fresh_place Cells = None
fresh_place Alone = None

-- an object, an array, a string, a box or a static field, with what was put into its places
pub record Entry : Type 0 where
  pub shape : Shape
  pub places : List (Option Value)

abbrev pub entry_cells : Entry → ℕ
entry_cells e = cells_in (layout_of e.shape) e.shape.count

abbrev pub fresh : Shape → Entry
fresh shape = record { shape = shape; places = replicate shape.count (fresh_place (layout_of shape)) }

-- a value as a place of the element type keeps it; an element is kept by its array
abbrev pub stored_by : Layout → Elem → Value → Value
stored_by (Packed cell) elem v = cut_by (Some cell) v
stored_by Bare elem v = v
stored_by Cells elem v = cut_by (elem_held elem) v
stored_by Alone elem v = cut_by (elem_held elem) v

-- an element has the kind of its array's, any other place takes every value
abbrev pub Takes : Layout → Value → Type 0
Takes (Packed cell) v = HasKind cell v
Takes Bare v = ⊥
Takes Cells v = Unit {0}
Takes Alone v = Unit {0}

abbrev pub with_place : Entry → ℕ → Elem → Value → Entry
with_place e i elem v = record e { places = slice_set e.places i (Some (stored_by (layout_of e.shape) elem v)) }

-- ---- shapes

abbrev pub row_type : Elem → TypeAt → BoardType
row_type elem of = record { ranks = 0; elem = elem; of = of }

abbrev pub object_shape : TypeAt → ℕ → Shape
object_shape class fields = record { what = 0; of = row_type elem.Class class; count = fields }

abbrev pub array_shape : BoardType → ℕ → Shape
array_shape of n = record { what = 1; of = of; count = n }

abbrev pub string_shape : ℕ → Shape
string_shape n = record { what = 2; of = row_type elem.String (record { assembly = 0; row = NO_ROW }); count = n }

abbrev pub box_shape : BoardType → Shape
box_shape of = record { what = 3; of = of; count = 1 }

-- what is made by `object`, `array`, `string`, `boxed` and `static_cell`
pub record IsMade (shape : Shape) : Type 0 where
  pub low : shape.what < 8
  pub static : shape.what ≡ 5 → shape ≡ static_shape
