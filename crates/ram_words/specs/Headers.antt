-- The first cell of an object.
use Rattle.std.specs.Prelude.{ℕ, ◌+◌, ◌/◌, ◌%◌, ◌^◌, ◌==◌, if◌then◌else◌, List, slice_index}
use Rattle.plain_types.specs.declared.elem.Elem.TheVariants.{Void}
use Rattle.board_types.specs.declared.board.BoardType.{BoardType}
use Rattle.board_types.specs.declared.board.TheConstants.{NO_ROW}
use Rattle.board_types.specs.declared.value.Shape.{Shape}
use Rattle.ram_words.specs.Cells.{elem_named, row_in}

abbrev pub no_type : BoardType
no_type = record { ranks = 0; elem = Void; of = record { assembly = 0; row = NO_ROW } }

-- the cell of a static field has no header: it tells only what it is
abbrev pub static_shape : Shape
static_shape = record { what = 5; of = no_type; count = 1 }

-- the first word has the ranks, what it is from bit 24 on, and the element type from bit 28 on; the second a row; the third the count
abbrev pub headed : ℕ → ℕ → ℕ → Shape
headed first second third =
    if first / 2 ^ 24 % 8 == 5 then static_shape
    else record { what = first / 2 ^ 24 % 8; of = record { ranks = first % 2 ^ 16; elem = elem_named (first / 2 ^ 28); of = row_in second }; count = third }

unfoldable pub shape_at : List ℕ → ℕ → Shape
shape_at ws at = headed (slice_index ws at) (slice_index ws (at + 1)) (slice_index ws (at + 2))
