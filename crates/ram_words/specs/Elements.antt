-- Packed elements of arrays, and units of strings.
use Rattle.std.specs.Int.{w8, w16, w32, w64, cast_signed, cast_unsigned, to_le_bytes}
use Rattle.std.specs.Prelude.{ℕ, ℤ, pos, ◌+◌, ◌*◌, ◌/◌, ◌%◌, ◌^◌, ◌==◌, if◌then◌else◌, List, Option, Some, None, slice_index}
use Rattle.cil_opcodes.specs.declared.shape.IntegerType.TheVariants.{I1, U1, I2, U2, I4, U4, I8, U8}
use Rattle.plain_types.specs.declared.elem.Elem.{Elem}
use Rattle.plain_types.specs.declared.elem.Elem.TheVariants as elem
use Rattle.board_types.specs.declared.board.BoardType.{BoardType}
use Rattle.board_types.specs.declared.value.Value.{Value}
use Rattle.board_types.specs.declared.value.Value.TheVariants.{Int, Long, Ref}
use Rattle.machine.specs.Data.{Cell, Bits, Refers, elem_cell}
use Rattle.ram_words.specs.declared.elements.ElementKind.{ElementKind}
use Rattle.ram_words.specs.declared.elements.ElementKind.TheVariants.{Number, Reference}

-- how a place of the type without arrays keeps its value: classes by reference
abbrev pub elem_held : Elem → Option Cell
elem_held elem.Class = Some Refers
elem_held e = elem_cell e

abbrev pub type_held : BoardType → Option Cell
type_held type = if type.ranks == 0 then elem_held type.elem else Some Refers

abbrev pub cell_in : ElementKind → Cell
cell_in (Number integer) = Bits integer
cell_in Reference = Refers

-- the i-th byte and the i-th half of the words from a on, the lowest of a word first
abbrev pub byte_at : List ℕ → ℕ → ℕ → ℕ
byte_at ws a i = slice_index (to_le_bytes w32 (slice_index ws (a + i / 4))) (i % 4)

abbrev pub half_at : List ℕ → ℕ → ℕ → ℕ
half_at ws a i = byte_at ws a (2 * i) + 256 * byte_at ws a (2 * i + 1)

-- the i-th of the elements from the word a on, packed by their width
unfoldable pub element_at : Cell → List ℕ → ℕ → ℕ → Value
element_at (Bits I1) ws a i = Int (cast_signed w8 (byte_at ws a i))
element_at (Bits U1) ws a i = Int (pos (byte_at ws a i))
element_at (Bits I2) ws a i = Int (cast_signed w16 (half_at ws a i))
element_at (Bits U2) ws a i = Int (pos (half_at ws a i))
element_at (Bits I4) ws a i = Int (cast_signed w32 (slice_index ws (a + i)))
element_at (Bits U4) ws a i = Int (cast_signed w32 (slice_index ws (a + i)))
element_at (Bits I8) ws a i = Long (cast_signed w64 (slice_index ws (a + 2 * i) + 2 ^ 32 * slice_index ws (a + 2 * i + 1)))
element_at (Bits U8) ws a i = Long (cast_signed w64 (slice_index ws (a + 2 * i) + 2 ^ 32 * slice_index ws (a + 2 * i + 1)))
element_at Refers ws a i = Ref (slice_index ws (a + i))

-- the words up to and with the i-th element
abbrev pub element_end : Cell → ℕ → ℕ
element_end (Bits I1) i = i / 4 + 1
element_end (Bits U1) i = i / 4 + 1
element_end (Bits I2) i = i / 2 + 1
element_end (Bits U2) i = i / 2 + 1
element_end (Bits I4) i = i + 1
element_end (Bits U4) i = i + 1
element_end (Bits I8) i = 2 * i + 2
element_end (Bits U8) i = 2 * i + 2
element_end Refers i = i + 1

-- the value has the kind of the places
abbrev pub HasKind : Cell → Value → Type 0
HasKind (Bits I8) (Long n) = Unit {0}
HasKind (Bits U8) (Long n) = Unit {0}
HasKind (Bits I1) (Int n) = Unit {0}
HasKind (Bits U1) (Int n) = Unit {0}
HasKind (Bits I2) (Int n) = Unit {0}
HasKind (Bits U2) (Int n) = Unit {0}
HasKind (Bits I4) (Int n) = Unit {0}
HasKind (Bits U4) (Int n) = Unit {0}
HasKind Refers (Ref n) = Unit {0}
HasKind _ _ = ⊥

-- an int32 as a place keeps it: its low bits, extended by the place's sign (III.1.1.1)
abbrev pub narrowed : Cell → ℤ → ℤ
narrowed (Bits I1) n = cast_signed w8 (cast_unsigned w32 n % 2 ^ 8)
narrowed (Bits U1) n = pos (cast_unsigned w32 n % 2 ^ 8)
narrowed (Bits I2) n = cast_signed w16 (cast_unsigned w32 n % 2 ^ 16)
narrowed (Bits U2) n = pos (cast_unsigned w32 n % 2 ^ 16)
narrowed _ n = n

-- a value cut to a place's width
abbrev pub cut_by : Option Cell → Value → Value
cut_by (Some cell) (Int n) = Int (narrowed cell n)
cut_by _ v = v

-- what a place holds before anything is put into it
abbrev pub zero_by : Option Cell → Value
zero_by (Some (Bits I8)) = Long (pos 0)
zero_by (Some (Bits U8)) = Long (pos 0)
zero_by (Some (Bits integer)) = Int (pos 0)
zero_by (Some Refers) = Ref 0
zero_by None = Ref 0
