use Rattle.std.proofs.Common.{◌≡◌, ◌+◌, ◌*◌, ◌<◌, ◌∙◌, sym, ap, get_or, length, arith}
use Rattle.std.specs.Prelude.{slice_index}
use Rattle.little_endian.specs.Numbers.{number}
use Rattle.image_bytes.specs.Layout.{widths, rows_of}
use Rattle.msspot_read.specs.Places.{words, table_start, image_at}
use Rattle.msspot_read.specs.Rows.{row_of}
use Rattle.msspot_read.proofs.PartLaws.{row_is, row_fits, pools_behind, length_listed}
use Rattle.msspot_read.proofs.parts.Parts.row.Goals as goal

pub bounds-table : goal.bounds-table
bounds-table c =
    let below : c.args.n < rows_of (image_at c.self.inside.bytes.now) c.args.table = rw c.self.view_is c.requires in
    omega (arith, c.from-table.ensures, (row_is c.self.inside.bytes.now c.args.table c.args.n below).0)

pub bounds-self-inside-table : goal.bounds-self-inside-table
bounds-self-inside-table c =
    let below : c.args.n < rows_of (image_at c.self.inside.bytes.now) c.args.table = rw c.self.view_is c.requires in
    omega (arith, c.from-table.ensures, (row_is c.self.inside.bytes.now c.args.table c.args.n below).0)

pub read_row-requires-clause-inside : goal.read_row-requires-clause-inside
read_row-requires-clause-inside c =
    let bytes = c.self.inside.bytes.now in
    let t = c.args.table in
    let below : c.args.n < rows_of (image_at bytes) t = rw c.self.view_is c.requires in
    let is = row_is bytes t c.args.n below in
    let width : c.from-width.result ≡ get_or widths t 0 = c.from-width.ensures ∙ ap (λ j. get_or widths j 0) c.from-table.ensures in
    let start : get_or c.self.inside.tables c.from-table.result 0 ≡ table_start bytes t = ap (λ j. get_or c.self.inside.tables j 0) c.from-table.ensures ∙ c.self.invariant.tables t is.0 in
    let number : c.from.result ≡ c.args.n = c.from.ensures in
    rw (width, start, number) (omega (arith, row_fits bytes t c.args.n is.0 below, pools_behind bytes, c.self.invariant.inside))

pub returns-clause-columns : goal.returns-clause-columns
returns-clause-columns c k =
    let bytes = c.self.inside.bytes.now in
    let t = c.args.table in
    let below : c.args.n < rows_of (image_at bytes) t = rw c.self.view_is c.requires in
    let is = row_is bytes t c.args.n below in
    let width : c.from-width.result ≡ get_or widths t 0 = c.from-width.ensures ∙ ap (λ j. get_or widths j 0) c.from-table.ensures in
    let start : get_or c.self.inside.tables c.from-table.result 0 ≡ table_start bytes t = ap (λ j. get_or c.self.inside.tables j 0) c.from-table.ensures ∙ c.self.invariant.tables t is.0 in
    let number : c.from.result ≡ c.args.n = c.from.ensures in
    let place : get_or c.self.inside.tables c.from-table.result 0 + 2 * c.from-width.result * c.from.result ≡ c.args.n * (get_or widths t 0 * 2) + table_start bytes t = rw (width, start, number) (omega arith) in
    c.read_row.ensures k
    ∙ ap (λ p. slice_index (words c.from-width.result p bytes) k) place
    ∙ ap (λ w. slice_index (words w (c.args.n * (get_or widths t 0 * 2) + table_start bytes t) bytes) k) width
    ∙ ap (λ r. slice_index r k) (sym is.1 ∙ ap (λ i. row_of i t c.args.n) c.self.view_is)

pub returns-clause-width : goal.returns-clause-width
returns-clause-width c =
    let bytes = c.self.inside.bytes.now in
    let t = c.args.table in
    let below : c.args.n < rows_of (image_at bytes) t = rw c.self.view_is c.requires in
    let is = row_is bytes t c.args.n below in
    sym (ap length (sym is.1 ∙ ap (λ i. row_of i t c.args.n) c.self.view_is)) ∙ length_listed 2 (number 2) (slice_index widths t) (c.args.n * (slice_index widths t * 2) + table_start bytes t) bytes
