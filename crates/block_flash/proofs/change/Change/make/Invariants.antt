use Rattle.flash_trait.specs.Flash.{AreBytes}
use Rattle.block_flash.specs.Change.{operation_of}
use Rattle.block_flash.proofs.Sofar.{Sofar}
use Rattle.block_flash.proofs.change.Change.make.Given as goal

abbrev pub invariant-loop-i : goal.invariant-loop-i
invariant-loop-i l = record { sofar : Sofar (operation_of l.self) l.mask l.i l.initial.content l.content; bytes : AreBytes l.content }
