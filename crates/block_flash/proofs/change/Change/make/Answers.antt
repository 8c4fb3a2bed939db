use Rattle.std.proofs.Common.{◌≡◌, ◌+◌, ℕ, subst, arith}
use Rattle.flash_trait.specs.Flash.{span}
use Rattle.block_flash.specs.Change.{operation_of}
use Rattle.block_flash.proofs.Sofar.{Sofar, sofar_all, sofar_at, set_bytes}
use Rattle.block_flash.proofs.change.Change.make.Goals as goal

pub returns-clause-content : goal.returns-clause-content
returns-clause-content c =
    let all : c.loop-i.i ≡ span (operation_of c.args.self.now) = omega arith in
    sofar_all (operation_of c.args.self.now) c.args.mask.now c.args.content.now c.loop-i.content
    (subst (λ (n : ℕ). Sofar (operation_of c.args.self.now) c.args.mask.now n c.args.content.now c.loop-i.content) all c.loop-i.invariant.sofar)

pub loop-i-preserved : goal.loop-i-preserved
loop-i-preserved c =
    record {
      sofar = sofar_at (operation_of c.args.self.now) c.args.mask.now c.args.content.now c.loop-i.content c.loop-i.i c.byte-byte.result c.start-start.result c.start-start.ensures.value c.loop-i.invariant.sofar (omega arith) c.byte-byte.ensures;
      bytes = set_bytes c.loop-i.content (c.start-start.result + c.loop-i.i) c.byte-byte.result (omega arith) c.byte-byte.type_inv c.loop-i.invariant.bytes;
    }
