-- The rows of a table, compared with the types that the base library has.
use Rattle.std.specs.Prelude.{ℕ, ◌==◌, ◌&&◌, Bool, List, Option}
use Rattle.std.specs.List.{list_all}
use Rattle.std.specs.Option.{option_map}
use Rattle.file_tables.specs.File.{FilePart}
use Rattle.machine.specs.Data.{Id}
use Rattle.classes.specs.Queries.{flag_eq}
use Rattle.class_rules.specs.Rules.{holds_some, only_if}
use Rattle.verdict_rules.specs.World.{World, world_of}
use Rattle.verdict_rules.specs.Library.{BaseType, base_types, has_type, superclass_is}
use Rattle.member_keys.specs.Seen.{class_seen}
use Rattle.class_table.specs.declared.rows.ClassRow.{ClassRow}
use Rattle.class_table.specs.Whole.{IsTable}
use Rattle.library_tests.specs.declared.types.Library.{Library}
use Rattle.library_tests.specs.Index.{IsIndex, IsIndexOf}

-- the class that was found is this one
abbrev pub is_found : Option Id → Id → Bool
is_found found c = holds_some found (λ (d : Id). (c.file == d.file) && (c.row == d.row))

-- a row of a table is as the base library has the type
abbrev pub such_row : World → BaseType → ClassRow → Bool
such_row w t r = flag_eq t.is_interface r.is_interface && superclass_is w t.superclass (option_map class_seen r.superclass)

abbrev pub files_of : Library → List FilePart
files_of l = l.own.names.now

pub record IsLibrary (l : Library) : Type 0 where
  pub own : IsIndex l.own
  pub system : IsIndexOf l.own.names.now 0 l.system
  pub table : IsTable l.own.names.now l.table.now

-- a file has the types that the base library has there
abbrev pub types_there : List FilePart → ℕ → Bool
types_there files file = list_all (λ (t : BaseType). only_if (t.file == file) (has_type (world_of files) t)) base_types
