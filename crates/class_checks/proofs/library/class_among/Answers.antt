use Rattle.std.proofs.Common.{◌∙◌, sym, arith}
use Rattle.classes.specs.Queries.{has_name}
use Rattle.class_table.specs.Seen.{classes_seen}
use Rattle.class_checks.proofs.LibraryLaws.{first_row, no_row}
use Rattle.class_checks.proofs.library.class_among.Goals as goal

pub overflow_cast-class : goal.overflow_cast-class
overflow_cast-class c = omega (arith, c.requires, c.loop-row-test.true)

pub returns-then-is_named : goal.returns-then-is_named
returns-then-is_named c =
    sym (first_row (has_name (classes_seen c.args.table.now) c.args.name.now) c.args.file c.args.count c.loop-row.row c.loop-row-test.true c.loop-row.invariant (sym c.is_named.ensures ∙ c.if-is_named.true))

pub returns : goal.returns
returns c =
    sym (no_row (has_name (classes_seen c.args.table.now) c.args.name.now) c.args.file c.args.count (λ k h. c.loop-row.invariant k (omega (arith, h, c.loop-row-test.false))))
