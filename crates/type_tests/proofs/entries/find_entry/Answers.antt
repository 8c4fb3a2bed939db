use Rattle.std.proofs.Common.{◌≤◌, length, sym, ap, ◌∙◌, arith}
use Rattle.world_rows.specs.Rows.{entry_named}
use Rattle.type_tests.proofs.EntryLaws.{none_if, entry_begins, entry_here, entry_behind, entry_ends}
use Rattle.type_tests.proofs.entries.find_entry.Goals as goal

pub loop-file-init : goal.loop-file-init
loop-file-init c = entry_begins c.args.world.now (omega (arith, c.files-file-end.ensures.count, c.files-file-end.ensures.base))

pub returns-in-Some : goal.returns-in-Some
returns-in-Some c =
    let behind : 2 ≤ c.loop-file.file = omega arith in
    c.static_method.ensures
    ∙ sym (c.loop-file.invariant ∙ entry_here c.args.world.now c.loop-file.file behind c.pe.result.now c.pe.ensures c.in-Some.row c.tables.result.now (sym (ap entry_named c.entry.ensures) ∙ sym c.entry_row.ensures ∙ c.in-Some.is) c.tables.ensures)

pub loop-file-preserved : goal.loop-file-preserved
loop-file-preserved c =
    let behind : 2 ≤ c.loop-file.file = omega arith in
    c.loop-file.invariant
    ∙ entry_behind c.args.world.now c.loop-file.file behind c.pe.result.now c.pe.ensures (sym (ap entry_named c.entry.ensures) ∙ sym c.entry_row.ensures ∙ none_if c.entry_row.result c.in_default.not-Some)

pub returns : goal.returns
returns c =
    let past : length c.args.world.now ≤ c.loop-file.file = omega (arith, c.files-file-end.ensures.count) in
    sym (c.loop-file.invariant ∙ entry_ends c.args.world.now c.loop-file.file past)
