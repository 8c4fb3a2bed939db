-- The types of a file by their rows alone, and the classes of elements, seen as pairs.
use Rattle.std.specs.Prelude.{List, Option}
use Rattle.std.specs.Option.{option_map}
use Rattle.plain_types.specs.declared.elem.Elem.{Elem}
use Rattle.file_tables.specs.Metadata.{MetadataPart, rows_of}
use Rattle.machine.specs.Data.{Id}
use Rattle.machine.specs.Throw.{on_some}
use Rattle.classes.specs.Classes.{Reference}
use Rattle.classes.specs.Queries.{basic_name}
use Rattle.assemblies.specs.Rows.{TypeRow, Assembly}
use Rattle.assemblies.specs.Binding.{numbered}
use Rattle.world_rows.specs.Tokens.{type_defs}
use Rattle.world_rows.specs.Rows.{type_row}
use Rattle.world_rows.specs.Kinds.{library_type}
use Rattle.member_keys.specs.Seen.{class_seen}
use Rattle.class_reading.specs.declared.base.Basic.{Basic}

abbrev pub types_of : MetadataPart → List TypeRow
types_of m = numbered (type_row m (λ n. Reference)) 0 (rows_of m type_defs)

abbrev pub basic_seen : Basic → Elem × Option Id
basic_seen b = (b.elem, option_map class_seen b.class)

abbrev pub basic_of : List Assembly → Elem → Elem × Option Id
basic_of ps e = (e, on_some (basic_name e) (library_type ps))
