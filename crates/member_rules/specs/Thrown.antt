-- The classes of the exceptions that natives alone throw.
use Rattle.std.specs.Prelude.{◌≡◌}
use Rattle.board_types.specs.declared.board.Known.TheVariants.{Argument, ArgumentNull, ArgumentOutOfRange}
use Rattle.classes.specs.Classes.{Classes}
use Rattle.classes.specs.Queries.{known}
use Rattle.kept_rules.specs.Row.{in_option}
use Rattle.row_rules.specs.Links.{row_if}
use Rattle.member_rules.specs.declared.natives.Thrown.{Thrown}
use Rattle.member_rules.specs.Members.{class_row}

pub record IsThrown (cs : Classes) (t : Thrown) : Type 0 where
  pub argument : row_if t.argument ≡ in_option class_row (known cs Argument)
  pub argument_null : row_if t.argument_null ≡ in_option class_row (known cs ArgumentNull)
  pub argument_out_of_range : row_if t.argument_out_of_range ≡ in_option class_row (known cs ArgumentOutOfRange)
