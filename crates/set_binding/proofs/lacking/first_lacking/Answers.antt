use Rattle.std.proofs.Common.{◌<◌, length, sym, arith}
use Rattle.board_model.specs.Bound.{lacking_assembly}
use Rattle.set_names.specs.Names.{seen_all}
use Rattle.set_binding.specs.Lacking.{row_seen}
use Rattle.set_binding.proofs.FirstLaws.{none_at_start, none_more, first_at, first_none}
use Rattle.set_binding.proofs.lacking.first_lacking.Goals as goal

pub loop-file-init : goal.loop-file-init
loop-file-init c = none_at_start (lacking_assembly (seen_all c.args.names.now))

pub returns-in-Some : goal.returns-in-Some
returns-in-Some c =
    let ps = seen_all c.args.names.now in
    let within : c.loop-file.file < length ps = omega (arith, c.loop-file-test.true, c.assembly_count-file-end.ensures) in
    sym (first_at (lacking_assembly ps) (row_seen c.in-Some.row) (length ps) c.loop-file.file within c.loop-file.invariant (sym c.in-Some.ensures))

pub loop-file-preserved : goal.loop-file-preserved
loop-file-preserved c = none_more (lacking_assembly (seen_all c.args.names.now)) c.loop-file.file c.loop-file.invariant (sym c.in_default.ensures)

pub returns : goal.returns
returns c =
    let ps = seen_all c.args.names.now in
    sym (first_none (lacking_assembly ps) (length ps) (λ k h. c.loop-file.invariant k (omega (arith, h, c.loop-file-test.false, c.assembly_count-file-end.ensures))))
