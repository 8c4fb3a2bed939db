use Rattle.tiny_ram.proofs.Kept.{frame_put, frame_other}
use Rattle.tiny_ram.proofs.law.frames_are_put.Goals as goal

pub returns-clause-here : goal.returns-clause-here
returns-clause-here c m f g thing i z = frame_put m.room m.frames thing f g i z

pub returns-clause-others : goal.returns-clause-others
returns-clause-others c m f g x thing other i z d o = frame_other m.room m.frames thing other f g x i z d o
