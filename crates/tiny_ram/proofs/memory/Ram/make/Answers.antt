use Rattle.std.proofs.Common.{◌≡◌, ℕ, ◌+◌, ◌*◌, ◌≤◌, List, [], ◌∷◌, ◌++◌, inl, refl, sym, ap, ◌∙◌, subst, arith}
use Rattle.std.proofs.lemmas.List.{with_items_is}
use Rattle.ram_words.specs.Region.{SameBut}
use Rattle.tiny_ram.specs.Things.{entry_cells, fresh, cells_in}
use Rattle.tiny_ram.specs.Memory.{heap_cells, frames_cells, with_entry}
use Rattle.tiny_ram.specs.Region.{Lies, Holds}
use Rattle.tiny_ram.proofs.Elsewhere.{laid-same}
use Rattle.tiny_ram.proofs.Heaps.{laid-made, cells-made}
use Rattle.tiny_ram.proofs.Stacks.{stacked-end, stacked-same}
use Rattle.tiny_ram.proofs.memory.Ram.make.Goals as goal
use Rattle.tiny_ram.proofs.memory.Ram.make.Goals.{then-low-len-via-then-low-len, then-low-len-via-else-low-len+then-len-gt-MOST_WORDS, then-at-low-via-then-at-low, then-at-low-via-else-at-low+then-low-at}

pub returns-then-low-len : goal.returns-then-low-len
returns-then-low-len c m k =
    let end : k.low + 3 * frames_cells m.frames ≡ 3 * m.room = stacked-end c.args.self.now.words.items (3 * m.room) k.low c.args.self.now.hot m.frames k.stacked in
    absurd (elim c.then-low-len.branch [
      | then-low-len-via-then-low-len w ↦ omega (arith, k.size, k.most, k.low_at, end, c.low-low.ensures)
      | then-low-len-via-else-low-len+then-len-gt-MOST_WORDS w ↦ omega (arith, k.size, k.most, k.low_at, end, c.low-low.ensures)
    ])

pub returns-then-at-low : goal.returns-then-at-low
returns-then-at-low c m k =
    let end : k.low + 3 * frames_cells m.frames ≡ 3 * m.room = stacked-end c.args.self.now.words.items (3 * m.room) k.low c.args.self.now.hot m.frames k.stacked in
    let size : c.cells-cells.result ≡ entry_cells (fresh c.args.shape) = c.cells-cells.ensures.cells ∙ ap (λ l. cells_in l c.args.shape.count) c.layout_for.ensures in
    elim c.then-at-low.branch [
      | then-at-low-via-then-at-low w ↦ absurd (omega (arith, k.heap, k.order, k.low_at, end, c.low-low.ensures))
      | then-at-low-via-else-at-low+then-low-at w ↦ (omega (arith, k.heap, k.order, k.low_at, end, c.low-low.ensures, size), refl)
    ]

pub returns : goal.returns
returns c m k =
    let ws : List ℕ = c.args.self.now.words.items in
    let us : List ℕ = c.put_thing.new.words in
    let at : ℕ = c.args.self.now.heap in
    let end : k.low + 3 * frames_cells m.frames ≡ 3 * m.room = stacked-end ws (3 * m.room) k.low c.args.self.now.hot m.frames k.stacked in
    let size : c.cells-cells.result ≡ entry_cells (fresh c.args.shape) = c.cells-cells.ensures.cells ∙ ap (λ l. cells_in l c.args.shape.count) c.layout_for.ensures in
    let same : SameBut at (at + 3 * c.cells-cells.result) ws us = subst (λ (xs : List ℕ). SameBut at (at + 3 * c.cells-cells.result) xs us) c.as_mut_slice.ensures.value c.put_thing.ensures.outside in
    let fits : at + 3 * c.cells-cells.result ≤ k.low = omega (arith, k.low_at, c.low-low.ensures) in
    let made : heap_cells (m.heap ++ fresh c.args.shape ∷ []) ≡ heap_cells m.heap + entry_cells (fresh c.args.shape) = cells-made m.heap (fresh c.args.shape) in (
      omega (arith, k.heap, end, size, fits),
      omega (arith, k.heap),
      subst (λ (xs : List ℕ). Holds xs (at + 3 * c.cells-cells.result) c.args.self.now.hot (with_entry m (fresh c.args.shape))) (sym (with_items_is c.args.self.now.words us (same.size ∙ sym c.args.self.now.words.ok.0)))
          (record {
            size = same.size ∙ k.size;
            most = k.most;
            heap = omega (arith, k.heap, size, made);
            laid = laid-made us 0 m.heap (fresh c.args.shape) (laid-same ws us 0 at (at + 3 * c.cells-cells.result) m.heap same (inl (omega (arith, k.heap))) k.laid) (subst (λ j. Lies us j (fresh c.args.shape)) (omega (arith, k.heap)) c.put_thing.ensures.lies);
            low = k.low;
            low_at = k.low_at;
            stacked = stacked-same ws us (3 * m.room) k.low c.args.self.now.hot m.frames at (at + 3 * c.cells-cells.result) same fits k.stacked;
            order = fits;
          }),
    )
