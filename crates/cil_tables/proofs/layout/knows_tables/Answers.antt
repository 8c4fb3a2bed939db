use Rattle.std.proofs.Common.{◌≡◌, false, refl, sym}
use Rattle.file_tables.specs.Metadata.{is_known_table}
use Rattle.cil_tables.proofs.Ranges.{fails_below}
use Rattle.cil_tables.proofs.layout.knows_tables.Goals as goal

pub returns-then-is_empty : goal.returns-then-is_empty
unfolding is_known_table
returns-then-is_empty c =
    let unknown : is_known_table c.args.valid c.loop-t.t ≡ false = rw (← c.has_bit.ensures, c.if-has_bit.true, ← c.columns.ensures, ← c.is_empty.ensures, c.if-is_empty.true) refl in
    sym (fails_below (is_known_table c.args.valid) 64 c.loop-t.t c.loop-t-test.true unknown)
