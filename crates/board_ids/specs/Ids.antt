-- The board's rows and types as the machine's.
use Rattle.std.specs.Prelude.{ℕ, zero, suc, Bool, ◌&&◌, ◌==◌, if◌then◌else◌}
use Rattle.plain_types.specs.declared.elem.Elem.{Elem}
use Rattle.plain_types.specs.declared.elem.Elem.TheVariants as elem
use Rattle.board_types.specs.declared.board.TypeAt.{TypeAt}
use Rattle.board_types.specs.declared.board.BoardType.{BoardType}
use Rattle.board_types.specs.declared.board.TheConstants.{NO_ROW}
use Rattle.machine.specs.Data.{Id, CliType, Basic, EnumOf, ClassOf, ValueOf, ArrayOf}

abbrev pub id_of : TypeAt → Id
id_of t = record { file = t.assembly; row = t.row }

-- whether it is the row of no type: that of assembly 0 that no image has
abbrev pub is_no_row : TypeAt → Bool
is_no_row at = (at.assembly == 0) && (at.row == NO_ROW)

-- a type without brackets: a class, a value type without a number, an enum by its own row, and else a basic type
abbrev pub plain_type : Elem → TypeAt → CliType
plain_type elem.Class of = ClassOf (id_of of)
plain_type elem.Value of = ValueOf (id_of of)
plain_type e of = if is_no_row of then Basic e else EnumOf e (id_of of)

-- with so many brackets round it
abbrev pub in_brackets : ℕ → CliType → CliType
in_brackets zero type = type
in_brackets (suc n) type = ArrayOf (in_brackets n type)

abbrev pub cli_type : BoardType → CliType
cli_type type = in_brackets type.ranks (plain_type type.elem type.of)
