use Rattle.std.proofs.Common.{subst, arith}
use Rattle.ram_words.specs.Frames.{hot_at}
use Rattle.tiny_ram.specs.Region.{Stacked}
use Rattle.tiny_ram.proofs.Waits.{put_away, stacked_behind}
use Rattle.tiny_ram.proofs.frames.push_frame.Goals as goal

pub returns-clause-stacked : goal.returns-clause-stacked
returns-clause-stacked c end fs size k =
    let w = c.put_waiting.ensures in
    let waits : Stacked c.put_waiting.new.words end c.args.low (hot_at c.put_waiting.new.words c.args.low) fs =
    put_away c.args.words.now c.put_waiting.new.words end c.args.low c.args.hot fs size k (record { depth = w.depth; initialiser = w.initialiser; place = w.place; method = w.method; outside = w.outside }) in
    let behind : Stacked c.put_frame.new.words end c.args.low (hot_at c.put_frame.new.words c.args.low) fs =
    stacked_behind c.put_waiting.new.words c.put_frame.new.words end c.args.low fs c.args.base c.args.low c.put_frame.ensures.outside (omega arith) waits in
    (c.put_frame.ensures.stands, subst (λ j. Stacked c.put_frame.new.words end j (hot_at c.put_frame.new.words j) fs) c.requires.end behind)
