use Rattle.std.proofs.Common.{◌≡◌}
use Rattle.world_rows.specs.World.{rows_alone}
use Rattle.class_table.specs.Whole.{library_number}
use Rattle.class_reading.proofs.FirstLaws.{first_from}
use Rattle.class_reading.proofs.LibraryLaws.{is_base}
use Rattle.class_reading.proofs.library.find_library.Given as goal

abbrev pub invariant-loop-file : goal.invariant-loop-file
invariant-loop-file l = library_number l.names ≡ first_from is_base (rows_alone l.names) l.file
