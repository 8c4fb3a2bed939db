use Rattle.std.proofs.Common.{Some, ap, sym, ◌∙◌, arith}
use Rattle.cil_tables.proofs.NotedLaws.{noted_rise, name_breaks, header_breaks, none_breaks}
use Rattle.cil_tables.proofs.headers.check_with.Goals as goal

pub first_repeat-requires : goal.first_repeat-requires
first_repeat-requires c =
    noted_rise c.args.region.now c.args.headers.now c.note_headers-noted.new.starts c.note_headers-noted.result c.requires.root c.note_headers-noted.ensures (omega (arith, c.note_headers-noted.ensures.most))

pub returns-in-Some-clause-broken : goal.returns-in-Some-clause-broken
returns-in-Some-clause-broken c =
    name_breaks c.args.region.now c.args.headers.now c.note_headers-noted.new.starts c.note_headers-noted.result c.requires.root c.note_headers-noted.ensures (omega (arith, c.note_headers-noted.ensures.most))
    c.in-Some.at c.in-Some.ensures
    ∙ ap Some (sym c.broken.ensures)

pub returns-then-noted-headers-clause-broken : goal.returns-then-noted-headers-clause-broken
returns-then-noted-headers-clause-broken c =
    header_breaks c.args.region.now c.args.headers.now c.note_headers-noted.new.starts c.note_headers-noted.result c.requires.root c.note_headers-noted.ensures (omega (arith, c.note_headers-noted.ensures.most))
    c.in_default.ensures c.if-noted-headers.true
    ∙ ap Some (sym c.broken-then-noted-headers.ensures)

pub returns-clause-kept : goal.returns-clause-kept
returns-clause-kept c =
    none_breaks c.args.region.now c.args.headers.now c.note_headers-noted.new.starts c.note_headers-noted.result c.requires.root c.note_headers-noted.ensures (omega (arith, c.note_headers-noted.ensures.most))
    c.in_default.ensures c.if-noted-headers.false
