use Rattle.std.proofs.Common.{length, sym, ap, ◌++◌, ◌∙◌}
use Rattle.msspot_write.proofs.CountLaws.{small, small_first, small_second}
use Rattle.msspot_write.proofs.writer.write.Goals as goal

pub passed-requires : goal.passed-requires
passed-requires c = ap length c.in-Ok.ensures.rows

pub image_bytes-requires-clause-few_rows : goal.image_bytes-requires-clause-few_rows
image_bytes-requires-clause-few_rows c =
    let rows = c.in-Ok.counts.rows in
    let bytes = c.in-Ok.counts.bytes in
    small_first rows bytes (small 0 (rows ++ bytes) (sym c.passed.ensures ∙ c.in-None.is))

pub image_bytes-requires-clause-few_bytes : goal.image_bytes-requires-clause-few_bytes
image_bytes-requires-clause-few_bytes c =
    let rows = c.in-Ok.counts.rows in
    let bytes = c.in-Ok.counts.bytes in
    small_second rows bytes (small 0 (rows ++ bytes) (sym c.passed.ensures ∙ c.in-None.is))
