use Rattle.std.proofs.Common.{◌≤◌, length, sym, ap, ◌∙◌, arith}
use Rattle.std.specs.Prelude.{Some}
use Rattle.class_reading.proofs.LibraryLaws.{library_begins, library_here, library_behind, library_none}
use Rattle.class_reading.proofs.library.find_library.Goals as goal

pub loop-file-init : goal.loop-file-init
loop-file-init c = library_begins c.args.names.now

pub returns-then-is_library : goal.returns-then-is_library
returns-then-is_library c =
    ap Some c.from.ensures
    ∙ sym (c.loop-file.invariant ∙ library_here c.args.names.now c.loop-file.file c.tables.result.now c.tables.ensures (sym c.is_library.ensures ∙ c.if-is_library.true))

pub loop-file-preserved : goal.loop-file-preserved
loop-file-preserved c = c.loop-file.invariant ∙ library_behind c.args.names.now c.loop-file.file c.tables.result.now c.tables.ensures (sym c.is_library.ensures ∙ c.if-is_library.false)

pub returns : goal.returns
returns c =
    let past : length c.args.names.now ≤ c.loop-file.file = omega arith in
    sym (c.loop-file.invariant ∙ library_none c.args.names.now c.loop-file.file past)
