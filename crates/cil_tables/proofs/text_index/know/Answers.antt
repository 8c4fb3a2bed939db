use Rattle.std.proofs.Common.{length}
use Rattle.cil_tables.proofs.IndexLaws.{last_small, knows_none}
use Rattle.cil_tables.proofs.text_index.know.Goals as goal

pub loop-place-init : goal.loop-place-init
loop-place-init c =
    record {
      small = last_small c.args.block (length c.args.heap.now) _ c.requires.covers;
      knows = knows_none c.args.heap.now c.args.block _ c.requires.size c.requires.blank;
    }
