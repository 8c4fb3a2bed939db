use Rattle.std.proofs.Common.{◌≡◌, ◌+◌, ◌*◌, arith}
use Rattle.tiny_ram.specs.Memory.{frames_cells}
use Rattle.tiny_ram.proofs.Stacks.{stacked-end}
use Rattle.tiny_ram.proofs.Waits.{numbered}
use Rattle.tiny_ram.proofs.memory.Ram.top.Goals as goal

pub returns : goal.returns
returns c m k =
    let fills : k.low + 3 * frames_cells m.frames ≡ 3 * m.room = stacked-end c.args.self.now.words.items (3 * m.room) k.low c.args.self.now.hot m.frames k.stacked in
    let first : k.low ≡ c.low.result = omega (arith, k.low_at, c.low.ensures) in
    numbered m.room c.low.result c.number_at.result m.frames (omega (arith, fills, first))
    (λ l. c.number_at.ensures.frame (omega (arith, k.size, l)) (omega (arith, k.most, l)))
    (λ l. c.number_at.ensures.none (omega (arith, k.size, l)))
