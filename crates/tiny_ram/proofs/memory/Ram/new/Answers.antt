use Rattle.std.proofs.Common.{◌≡◌, ℕ, ◌*◌, List, length, refl, sym, ap, ◌∙◌, arith}
use Rattle.ram_words.specs.declared.frames.Hot.{Hot}
use Rattle.ram_words.specs.Frames.{hot_at}
use Rattle.tiny_ram.proofs.memory.Ram.new.Goals as goal

pub returns : goal.returns
unfolding hot_at
returns c =
    let ws : List ℕ = c.in_ok-words.words.items in
    let n : c.in_ok-words.words.len ≡ 3 * c.args.cells = c.in_ok-words.ensures.len in
    let size : length ws ≡ 3 * c.args.cells = sym c.in_ok-words.words.ok.0 ∙ n in
    let hot : c.waiting-hot.result ≡ hot_at ws (3 * c.args.cells) =
    c.waiting-hot.ensures ∙ ap (λ (xs : List ℕ). hot_at xs c.len.result) c.deref.ensures.value ∙ ap (hot_at ws) (c.len.ensures ∙ n) in
    record {
      size = size;
      most = omega (arith, c.if-cells-gt-MOST_CELLS.false);
      heap = refl;
      laid = tt;
      low = 3 * c.args.cells;
      low_at = ap (λ (h : Hot). h.arguments) hot;
      stacked = (refl, hot);
      order = omega arith;
    }
