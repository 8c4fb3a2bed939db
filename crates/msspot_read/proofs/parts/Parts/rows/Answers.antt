use Rattle.std.proofs.Common.{◌+◌, ◌*◌, ◌∙◌, sym, ap, arith}
use Rattle.image_bytes.specs.Layout.{rows_of}
use Rattle.msspot_read.proofs.PartLaws.{rows_is, rows_past}
use Rattle.msspot_read.proofs.parts.Parts.rows.Goals as goal

pub returns-then-from-lt-TABLES : goal.returns-then-from-lt-TABLES
returns-then-from-lt-TABLES c =
    c.u16_at.ensures
    ∙ sym (rows_is c.self.inside.bytes.now c.args.table (24 + 2 * c.from-then-from-lt-TABLES.result) (omega (arith, c.from.ensures, c.if-from-lt-TABLES.true)) (omega (arith, c.from-then-from-lt-TABLES.ensures)))
    ∙ ap (λ i. rows_of i c.args.table) c.self.view_is

pub returns-else-from-lt-TABLES : goal.returns-else-from-lt-TABLES
returns-else-from-lt-TABLES c =
    sym (rows_past c.self.inside.bytes.now c.args.table (omega (arith, c.from.ensures, c.if-from-lt-TABLES.false))) ∙ ap (λ i. rows_of i c.args.table) c.self.view_is
