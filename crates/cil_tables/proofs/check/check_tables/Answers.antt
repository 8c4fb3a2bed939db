use Rattle.std.proofs.Common.{rules, arith}
use Rattle.file_tables.specs.declared.schema.TheConstants.{LOOKED_AT}
use Rattle.file_tables.specs.Metadata as metadata
use Rattle.cil_tables.proofs.CheckLaws.{lists_kept, list_broken}
use Rattle.cil_tables.proofs.check.check_tables.Goals as goal

pub returns-clause-kept : goal.returns-clause-kept
returns-clause-kept c = lists_kept (metadata.rules_of_rows c.args.tables.now) LOOKED_AT (λ k below. c.loop-table.invariant k (omega arith))

pub returns-in_err-check_table-clause-broken : goal.returns-in_err-check_table-clause-broken
returns-in_err-check_table-clause-broken c =
    let broken = list_broken (metadata.rules_of_rows c.args.tables.now) LOOKED_AT c.loop-table.table-index _ c.loop-table-test.true c.loop-table.invariant c.in_err-check_table.ensures.broken in
    search (rules, broken)
