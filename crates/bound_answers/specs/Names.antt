-- The full names of types.
use Rattle.std.specs.Prelude.{ℕ, zero, suc, List, [], ◌∷◌, unwrap_or}
use Rattle.std.specs.Option.{option_map}
use Rattle.board_types.specs.declared.board.BoardType.{BoardType}
use Rattle.board_ids.specs.Ids.{cli_type}
use Rattle.board_model.specs.Bound.{bound_classes}
use Rattle.machine.specs.Data.{CliType, Basic, EnumOf, ClassOf, ValueOf, ArrayOf}
use Rattle.machine.specs.Texts.{with_brackets}
use Rattle.classes.specs.Classes.{Classes}
use Rattle.classes.specs.Queries.{basic}
use Rattle.assemblies.specs.Rows.{Assembly}
use Rattle.class_names.specs.Units.{full_units}

-- an array's is its element's with brackets
abbrev pub type_units : Classes → CliType → List ℕ
type_units cs (Basic e) = unwrap_or (option_map (full_units cs) (basic cs e)) []
type_units cs (EnumOf e c) = full_units cs c
type_units cs (ClassOf c) = full_units cs c
type_units cs (ValueOf c) = full_units cs c
type_units cs (ArrayOf a) = with_brackets (type_units cs a)

abbrev pub name : List Assembly → BoardType → List ℕ
name ps of = type_units (bound_classes ps) (cli_type of)

-- so many pairs of brackets
abbrev pub brackets : ℕ → List ℕ
brackets zero = []
brackets (suc n) = 91 ∷ 93 ∷ brackets n
