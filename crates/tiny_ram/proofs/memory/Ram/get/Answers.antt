use Rattle.std.proofs.Common.{ap, ◌∙◌}
use Rattle.tiny_ram.specs.Memory.{shown}
use Rattle.tiny_ram.proofs.memory.Ram.get.Goals as goal

pub returns-in-Some-clause-frame : goal.returns-in-Some-clause-frame
returns-in-Some-clause-frame c m f k i = ap (shown c.args.at.elem) (c.in-Some.ensures.frame m f k i)

pub returns-in-None-clause-frame : goal.returns-in-None-clause-frame
returns-in-None-clause-frame c m f k i = c.zero_of.ensures ∙ ap (shown c.args.at.elem) (c.in-None.ensures.frame m f k i)
