-- A cell of three words, and the value in it.
use Rattle.std.specs.Int.{w32, w64, cast_signed}
use Rattle.std.specs.Prelude.{ℕ, ◌+◌, ◌*◌, ◌%◌, ◌/◌, ◌^◌, ◌==◌, if◌then◌else◌, List, Option, Some, None, slice_index, slice_get, unwrap_or}
use Rattle.plain_types.specs.declared.elem.Elem.{Elem}
use Rattle.plain_types.specs.declared.elem.Elem.TheVariants.{Void}
use Rattle.board_types.specs.declared.board.TypeAt.{TypeAt}
use Rattle.board_types.specs.declared.value.Value.{Value}
use Rattle.board_types.specs.declared.value.Value.TheVariants.{Int, Long, Ref, Pointer, Handle}
use Rattle.ram_words.specs.declared.elems.TheConstants.{ELEMS}

-- the element type of this number
abbrev pub elem_named : ℕ → Elem
elem_named n = unwrap_or (slice_get ELEMS n) Void

-- the row in a word: its assembly, and its row from bit 16 on
abbrev pub row_in : ℕ → TypeAt
row_in word = record { assembly = word % 2 ^ 16; row = word / 2 ^ 16 }

abbrev pub row_number : TypeAt → ℕ
row_number at = at.assembly + 2 ^ 16 * at.row

-- what a tag, the number of an element type and two words spell: 1 an int32, 2 an int64 with its low word first, 3 a reference,
-- 4 a pointer by its thing and its index, 5 a handle; any other tag is that of a place into which nothing was put
abbrev pub value_by : ℕ → ℕ → ℕ → ℕ → Option Value
value_by tag elem low high =
    if tag == 1 then Some (Int (cast_signed w32 low))
    else (if tag == 2 then Some (Long (cast_signed w64 (low + 2 ^ 32 * high)))
    else (if tag == 3 then Some (Ref low)
    else (if tag == 4 then Some (Pointer (record { thing = low; index = high; elem = elem_named elem }))
    else (if tag == 5 then Some (Handle (row_in low))
    else None))))

-- what lies in the cell that begins at a word: the tag is the lowest byte of the first word, the element's number its third one
unfoldable pub kept_at : List ℕ → ℕ → Option Value
kept_at ws at = value_by (slice_index ws at % 256) (slice_index ws at / 2 ^ 16 % 256) (slice_index ws (at + 1)) (slice_index ws (at + 2))
