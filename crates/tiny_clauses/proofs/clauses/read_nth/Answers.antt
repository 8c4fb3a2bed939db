use Rattle.std.proofs.Common.{Option, Some, None, sym, ap, ◌∙◌, arith}
use Rattle.std.specs.Option.{option_map}
use Rattle.msspot_read.specs.Rows.{row_of}
use Rattle.msspot_read.specs.Held.{clause_of}
use Rattle.tiny_clauses.proofs.ClauseLaws.{method_there, placed, place_low, place_same}
use Rattle.tiny_clauses.proofs.clauses.read_nth.Goals as goal

pub place-requires : goal.place-requires
place-requires c =
    let i = c.args.image.now in
    let there = method_there i c.has_rows.ensures c.args.method c.requires in
    let fits = there.read.fits in
    let first = c.row-row.ensures.columns 7 in
    let count = c.row-row.ensures.columns 8 in
    let most = c.rows-most.ensures in
    omega (arith, fits, first, count, most)

pub read_clause-requires : goal.read_clause-requires
read_clause-requires c =
    let i = c.args.image.now in
    let there = method_there i c.has_rows.ensures c.args.method c.requires in
    place_low i c.has_rows.ensures c.args.method c.args.k there c.in-Some.n (sym (place_same _ (row_of i 7 c.args.method) c.args.k c.row-row.ensures.columns) ∙ sym c.in-Some.ensures)

pub returns-in-Some : goal.returns-in-Some
returns-in-Some c =
    let i = c.args.image.now in
    let there = method_there i c.has_rows.ensures c.args.method c.requires in
    ap Some c.read_clause.ensures
    ∙ sym (placed i c.has_rows.ensures c.args.method c.args.k there (Some c.in-Some.n) (sym (place_same _ (row_of i 7 c.args.method) c.args.k c.row-row.ensures.columns) ∙ sym c.in-Some.ensures))

pub returns-in-None : goal.returns-in-None
returns-in-None c =
    let i = c.args.image.now in
    let there = method_there i c.has_rows.ensures c.args.method c.requires in
    sym (placed i c.has_rows.ensures c.args.method c.args.k there None (sym (place_same _ (row_of i 7 c.args.method) c.args.k c.row-row.ensures.columns) ∙ sym c.in-None.ensures))
