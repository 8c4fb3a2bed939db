use Rattle.std.proofs.Common.{arith}
use Rattle.set_table.proofs.LibraryLaws.{size_more}
use Rattle.set_table.proofs.library.count_types.Goals as goal

pub loop-file-preserved : goal.loop-file-preserved
loop-file-preserved c =
    let more = size_more c.args.names.now c.loop-file.file c.in-Some.image.now c.in-Some.ensures in
    record {
      size = omega (arith, more, c.loop-file.invariant.size, c.type_count.ensures, c.from.ensures, c.type_ref_count.ensures, c.from-in-Some.ensures);
      few = omega (arith, c.loop-file.invariant.few, c.type_count.type_inv, c.from.ensures, c.type_ref_count.type_inv, c.from-in-Some.ensures);
    }
