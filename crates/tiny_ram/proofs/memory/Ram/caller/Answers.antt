use Rattle.std.proofs.Common.{◌≡◌, ℕ, ◌+◌, ◌-◌, ◌*◌, List, ap, ◌∙◌, sym, arith}
use Rattle.std.specs.Prelude.{sum}
use Rattle.ram_words.specs.Frames.{sizes_at}
use Rattle.tiny_ram.specs.Memory.{frame_cells}
use Rattle.tiny_ram.proofs.Waits.{Found, found, numbered}
use Rattle.tiny_ram.proofs.memory.Ram.caller.Goals as goal

pub returns : goal.returns
returns c m f k e =
    let ws : List ℕ = c.args.self.now.words.items in
    let r : Found ws m.room k.low c.args.self.now.hot m.frames c.args.frame f = found ws m.room k.low c.args.self.now.hot m.frames c.args.frame f k.stacked e in
    let end : c.end_of.result ≡ 3 * (c.args.frame - 1) + 3 * frame_cells f =
    c.end_of.ensures.end
    ∙ ap (λ (xs : List ℕ). c.start_of.result + 3 * (2 + sum (sizes_at xs c.start_of.result))) c.deref.ensures.value
    ∙ ap (λ j. j + 3 * (2 + sum (sizes_at ws j))) c.start_of.ensures
    ∙ ap (λ (z : List ℕ). 3 * (c.args.frame - 1) + 3 * (2 + sum z)) r.stands.sizes in
    numbered m.room c.end_of.result c.number_at.result r.rest (omega (arith, end, r.fills))
    (λ l. c.number_at.ensures.frame (omega (arith, k.size, l)) (omega (arith, k.most, l)))
    (λ l. c.number_at.ensures.none (omega (arith, k.size, l)))
    ∙ sym r.caller
