use Rattle.std.proofs.Common.{◌<◌, length, arith}
use Rattle.cil_code.specs.declared.clause.Clause.{Clause}
use Rattle.kept_rules.specs.Row.{in_clause}
use Rattle.world_rows.specs.Lines.{raw_clause}
use Rattle.row_rules.specs.Links.{row_at}
use Rattle.row_rules.proofs.LinkLaws.{keeps_more}
use Rattle.body_rules.proofs.code.keep_clauses.Goals as goal

pub loop-clause-preserved : goal.loop-clause-preserved
loop-clause-preserved c =
    let within : c.loop-clause.clause-index < length c.args.clauses.now = omega arith in
    keeps_more (row_at c.args.place) (λ (k : Clause). in_clause c.args.place.file (raw_clause c.args.tables.now k)) c.args.clauses.now c.args.rules.now c.loop-clause.rules c.keep_clause.new.rules c.loop-clause.clause-index _ within c.loop-clause.invariant c.in_ok-keep_clause.ensures
