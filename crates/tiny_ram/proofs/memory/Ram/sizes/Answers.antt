use Rattle.std.proofs.Common.{ℕ, List, ap, ◌∙◌}
use Rattle.ram_words.specs.Frames.{sizes_at}
use Rattle.tiny_ram.proofs.Waits.{Found, found}
use Rattle.tiny_ram.proofs.memory.Ram.sizes.Goals as goal

pub returns : goal.returns
returns c m f k e =
    let ws : List ℕ = c.args.self.now.words.items in
    let r : Found ws m.room k.low c.args.self.now.hot m.frames c.args.frame f = found ws m.room k.low c.args.self.now.hot m.frames c.args.frame f k.stacked e in
    c.sizes.ensures ∙ ap (λ (xs : List ℕ). sizes_at xs c.start_of.result) c.deref.ensures.value ∙ ap (sizes_at ws) c.start_of.ensures ∙ r.stands.sizes
