use Rattle.std.proofs.Common.{sym, ◌∙◌}
use Rattle.set_names.specs.Names.{seen_all}
use Rattle.set_table.proofs.LibraryLaws.{library_begins, library_here, library_behind, library_none}
use Rattle.set_table.proofs.library.find_library.Goals as goal

pub loop-file-init : goal.loop-file-init
loop-file-init c = library_begins (seen_all c.args.names.now)

pub returns-then-is_library : goal.returns-then-is_library
returns-then-is_library c = sym (c.loop-file.invariant ∙ library_here c.args.names.now c.loop-file.file c.in-Some.image.now c.in-Some.ensures (sym c.if-is_library.true ∙ c.is_library.ensures))

pub returns-in-None : goal.returns-in-None
returns-in-None c = sym (c.loop-file.invariant ∙ library_none c.args.names.now c.loop-file.file c.in-None.ensures)

pub loop-file-preserved : goal.loop-file-preserved
loop-file-preserved c = c.loop-file.invariant ∙ library_behind c.args.names.now c.loop-file.file c.in-Some.image.now c.in-Some.ensures (sym c.if-is_library.false ∙ c.is_library.ensures)
