-- The board's types as the machine's: what their places hold.
use Rattle.std.proofs.Common.{◌≡◌, ℕ, zero, suc, Bool, true, false, ◌==◌, refl, sym, ap, ◌∙◌, arith}
use Rattle.std.proofs.lemmas.Bool.{ne_eqb, eq-eqb}
use Rattle.std.specs.Prelude.{if◌then◌else◌}
use Rattle.plain_types.specs.declared.elem.Elem.{Elem}
use Rattle.plain_types.specs.declared.elem.Elem.TheVariants as elem
use Rattle.board_types.specs.declared.board.TypeAt.{TypeAt}
use Rattle.board_types.specs.declared.board.BoardType.{BoardType}
use Rattle.std.proofs.Common.{Option, Some}
use Rattle.machine.specs.Data.{CliType, Basic, EnumOf, Cell, Refers, cell_of, elem_cell}
use Rattle.board_types.specs.declared.value.Shape.{Shape}
use Rattle.cil_opcodes.specs.declared.shape.IntegerType.TheVariants.{U2}
use Rattle.machine.specs.Data.{Bits}
use Rattle.ram_words.specs.Elements.{elem_held, type_held}
use Rattle.tiny_ram.specs.Things.{Packed, Alone, Cells, packed_by, layout_of}
use Rattle.board_ids.specs.Ids.{id_of, is_no_row, plain_type, in_brackets, cli_type}

either_cell : (e : Elem) (of : TypeAt) (b : Bool) → cell_of (if b then Basic e else EnumOf e (id_of of)) ≡ elem_cell e
either_cell e of true = refl
either_cell e of false = refl

plain_cell : (e : Elem) (of : TypeAt) → cell_of (plain_type e of) ≡ elem_held e
plain_cell elem.Class of = refl
plain_cell elem.Value of = refl
plain_cell elem.Void of = either_cell elem.Void of (is_no_row of)
plain_cell elem.Bool of = either_cell elem.Bool of (is_no_row of)
plain_cell elem.Char of = either_cell elem.Char of (is_no_row of)
plain_cell elem.I1 of = either_cell elem.I1 of (is_no_row of)
plain_cell elem.U1 of = either_cell elem.U1 of (is_no_row of)
plain_cell elem.I2 of = either_cell elem.I2 of (is_no_row of)
plain_cell elem.U2 of = either_cell elem.U2 of (is_no_row of)
plain_cell elem.I4 of = either_cell elem.I4 of (is_no_row of)
plain_cell elem.U4 of = either_cell elem.U4 of (is_no_row of)
plain_cell elem.I8 of = either_cell elem.I8 of (is_no_row of)
plain_cell elem.U8 of = either_cell elem.U8 of (is_no_row of)
plain_cell elem.String of = either_cell elem.String of (is_no_row of)
plain_cell elem.Object of = either_cell elem.Object of (is_no_row of)

ranked_cell : (n : ℕ) (t : CliType) (held : Option Cell) → cell_of t ≡ held → cell_of (in_brackets n t) ≡ (if n == 0 then held else Some Refers)
ranked_cell zero t held e = e
ranked_cell (suc n) t held e = sym (ap (λ (b : Bool). if b then held else Some Refers) (ne_eqb (suc n) 0 (λ z. omega (arith, z))))

-- a place of the type holds what the machine's does
pub cell_held : (type : BoardType) → cell_of (cli_type type) ≡ type_held type
cell_held type = ranked_cell type.ranks (plain_type type.elem type.of) (elem_held type.elem) (plain_cell type.elem type.of)

pub array_layout : (s : Shape) (cell : Cell) → s.what ≡ 1 → type_held s.of ≡ Some cell → layout_of s ≡ Packed cell
array_layout s cell e h =
    ap (λ (b : Bool). if b then packed_by (type_held s.of) else (if s.what == 2 then Packed (Bits U2) else (if s.what == 5 then Alone else Cells))) (eq-eqb s.what 1 e)
    ∙ ap packed_by h
