use Rattle.std.proofs.Common.{◌∙◌, sym}
use Rattle.class_checks.proofs.LibraryLaws.{in_library, no_library}
use Rattle.class_checks.proofs.library.library_class.Goals as goal

pub returns-in-Some : goal.returns-in-Some
returns-in-Some c = c.class_in.ensures ∙ sym (in_library c.args.table.now c.args.name.now c.in-Some.file c.in-Some.is)

pub returns-in-None : goal.returns-in-None
returns-in-None c = sym (no_library c.args.table.now c.args.name.now c.in-None.is)
