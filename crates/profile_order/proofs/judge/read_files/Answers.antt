use Rattle.std.proofs.Common.{ap, ◌∙◌, arith, length, length-append}
use Rattle.profile_order.specs.declared.judge.FileColumns.{FileColumns}
use Rattle.profile_order.proofs.JudgeLaws.{columns_more}
use Rattle.profile_order.proofs.judge.read_files.Goals as goal

pub loop-file-preserved : goal.loop-file-preserved
loop-file-preserved c =
    let pushed = c.in_ok-push.ensures.items in
    record {
      count = ap length pushed ∙ omega (arith, length-append {A = FileColumns}, c.loop-file.invariant.count);
      each = columns_more c.args.subject.now.world.now c.loop-file.all.items c.push.new.self.items c.loop-file.file c.in_ok-read_columns.field-0 pushed c.loop-file.invariant.count c.loop-file.invariant.each c.in_ok-read_columns.ensures;
    }
