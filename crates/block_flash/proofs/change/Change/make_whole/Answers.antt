use Rattle.std.proofs.Common.{◌∙◌}
use Rattle.block_flash.specs.Change.{operation_of}
use Rattle.block_flash.proofs.Whole.{cut_by_ones}
use Rattle.block_flash.proofs.change.Change.make_whole.Goals as goal

pub returns-clause-content : goal.returns-clause-content
returns-clause-content c = c.make.ensures.content ∙ cut_by_ones (operation_of c.args.self.now) c.args.content.now c.requires.bytes
