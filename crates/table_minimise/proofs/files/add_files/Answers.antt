use Rattle.std.proofs.Common.{◌≡◌, length, subst, arith}
use Rattle.table_minimise.specs.FileLinks.{AddsFiles}
use Rattle.table_minimise.proofs.AddLaws.{none_added, one_added}
use Rattle.table_minimise.proofs.files.add_files.Goals as goal

pub loop-file-init : goal.loop-file-init
loop-file-init c = none_added c.args.sources.now.world.now c.args.sources.now.methods.table c.args.rules.now

pub loop-file-preserved : goal.loop-file-preserved
loop-file-preserved c =
    one_added c.args.sources.now.world.now c.args.sources.now.methods.table c.loop-file.file c.args.rules.now c.loop-file.rules c.add_file.new.rules c.loop-file.invariant c.in_ok-add_file.ensures

pub returns : goal.returns
returns c =
    let all : c.loop-file.file ≡ length c.args.sources.now.world.now = omega arith in
    subst (λ n. AddsFiles c.args.sources.now.world.now c.args.sources.now.methods.table n c.args.rules.now c.loop-file.rules) all c.loop-file.invariant
