use Rattle.std.proofs.Common.{arith}
use Rattle.tiny_ram.proofs.Kept.{frame_new, frame_stays}
use Rattle.tiny_ram.proofs.law.frames_are_made.Goals as goal

pub returns-clause-new : goal.returns-clause-new
returns-clause-new c m f = frame_new m.room f m.frames

pub returns-clause-others : goal.returns-clause-others
returns-clause-others c m f x thing l i = frame_stays m.room f m.frames thing x (omega (arith, l)) i
