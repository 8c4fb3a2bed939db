use Rattle.std.proofs.Common.{◌≡◌}
use Rattle.set_names.specs.Names.{seen_all}
use Rattle.set_table.specs.Whole.{library_number}
use Rattle.set_table.proofs.LibraryLaws.{library_from}
use Rattle.set_table.proofs.library.find_library.Given as goal

abbrev pub invariant-loop-file : goal.invariant-loop-file
invariant-loop-file l = library_number (seen_all l.names) ≡ library_from (seen_all l.names) l.file
