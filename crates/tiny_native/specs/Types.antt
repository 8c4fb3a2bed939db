-- Which types of the board are enums, and which are the same.
use Rattle.std.specs.Prelude.{Bool, true, false, ◌==◌, ◌&&◌}
use Rattle.board_types.specs.declared.board.BoardType.{BoardType}
use Rattle.machine.specs.Data.{id_eq, elem_number, CliType, Basic, EnumOf, ClassOf, ValueOf, ArrayOf}
use Rattle.board_ids.specs.Ids.{id_of}

abbrev pub is_enum_type : CliType → Bool
is_enum_type (EnumOf e class) = true
is_enum_type (Basic e) = false
is_enum_type (ClassOf class) = false
is_enum_type (ValueOf class) = false
is_enum_type (ArrayOf element) = false

abbrev pub same_board_type : BoardType → BoardType → Bool
same_board_type a b = (a.ranks == b.ranks) && ((elem_number a.elem == elem_number b.elem) && id_eq (id_of a.of) (id_of b.of))
