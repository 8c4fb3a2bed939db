use Rattle.std.proofs.Common.{◌≡◌, ℕ, ◌+◌, ◌-◌, ◌*◌, ◌≤◌, List, ◌∷◌, length, inl, refl, sym, ap, ◌∙◌, subst, arith}
use Rattle.std.proofs.lemmas.List.{with_items_is}
use Rattle.ram_words.specs.declared.frames.Hot.{Hot}
use Rattle.ram_words.specs.Region.{SameBut}
use Rattle.ram_words.specs.Frames.{hot_at}
use Rattle.tiny_ram.specs.Memory.{frames_cells, fresh_frame, with_frame}
use Rattle.tiny_ram.specs.Region.{Stacked, Holds}
use Rattle.tiny_ram.proofs.Elsewhere.{laid-same}
use Rattle.tiny_ram.proofs.Stacks.{stacked-end}
use Rattle.tiny_ram.proofs.memory.Ram.frame.Goals as goal
use Rattle.tiny_ram.proofs.memory.Ram.frame.Goals.{then-low-len-via-then-low-len, then-low-len-via-else-low-len+then-len-gt-MOST_WORDS, then-at-low-via-then-at-low, then-at-low-via-else-at-low+then-low-at}

pub returns-then-low-len : goal.returns-then-low-len
returns-then-low-len c m k =
    let end : k.low + 3 * frames_cells m.frames ≡ 3 * m.room = stacked-end c.args.self.now.words.items (3 * m.room) k.low c.args.self.now.hot m.frames k.stacked in
    absurd (elim c.then-low-len.branch [
      | then-low-len-via-then-low-len w ↦ omega (arith, k.size, k.most, k.low_at, end, c.low-low.ensures)
      | then-low-len-via-else-low-len+then-len-gt-MOST_WORDS w ↦ omega (arith, k.size, k.most, k.low_at, end, c.low-low.ensures)
    ])

pub returns-then-at-low : goal.returns-then-at-low
returns-then-at-low c m k =
    let end : k.low + 3 * frames_cells m.frames ≡ 3 * m.room = stacked-end c.args.self.now.words.items (3 * m.room) k.low c.args.self.now.hot m.frames k.stacked in
    elim c.then-at-low.branch [
      | then-at-low-via-then-at-low w ↦ absurd (omega (arith, k.heap, k.order, k.low_at, end, c.low-low.ensures))
      | then-at-low-via-else-at-low+then-low-at w ↦ (omega (arith, k.heap, k.order, k.low_at, end, c.low-low.ensures, c.total-cells.ensures.sum), refl)
    ]

pub returns : goal.returns
unfolding hot_at
returns c m k =
    let ws : List ℕ = c.args.self.now.words.items in
    let us : List ℕ = c.push_frame.new.words in
    let at : ℕ = c.args.self.now.heap in
    let low : ℕ = c.low-low.result in
    let base : ℕ = low - 3 * (2 + c.total-cells.result) in
    let end : k.low + 3 * frames_cells m.frames ≡ 3 * m.room = stacked-end ws (3 * m.room) k.low c.args.self.now.hot m.frames k.stacked in
    let first : k.low ≡ low = omega (arith, k.low_at, c.low-low.ensures) in
    let fits : at ≤ base = omega arith in
    let same : SameBut base (low + 3) ws us = subst (λ (xs : List ℕ). SameBut base (low + 3) xs us) c.as_mut_slice.ensures.value c.push_frame.ensures.outside in
    let stacked : Stacked us (3 * m.room) base (hot_at us base) (fresh_frame c.args.method c.args.sizes ∷ m.frames) =
    c.push_frame.ensures.stacked (3 * m.room) m.frames (ap length c.as_mut_slice.ensures.value ∙ k.size)
    (subst (λ (xs : List ℕ). Stacked xs (3 * m.room) low c.args.self.now.hot m.frames) (sym c.as_mut_slice.ensures.value) (subst (λ j. Stacked ws (3 * m.room) j c.args.self.now.hot m.frames) first k.stacked)) in
    let back = with_items_is c.args.self.now.words us (same.size ∙ sym c.args.self.now.words.ok.0) in
    let hot : c.waiting-self.result ≡ hot_at us base = c.waiting-self.ensures ∙ ap (λ (xs : List ℕ). hot_at xs base) (c.deref.ensures.value ∙ back) in (
      omega (arith, k.heap, end, first, fits, c.total-cells.ensures.sum),
      omega (arith, end, first, fits, c.total-cells.ensures.sum),
      subst (λ (xs : List ℕ). Holds xs at c.waiting-self.result (with_frame m (fresh_frame c.args.method c.args.sizes))) (sym back)
          (subst (λ (h : Hot). Holds us at h (with_frame m (fresh_frame c.args.method c.args.sizes))) (sym hot)
          (record {
            size = same.size ∙ k.size;
            most = k.most;
            heap = k.heap;
            laid = laid-same ws us 0 base (low + 3) m.heap same (inl (omega (arith, k.heap, fits))) k.laid;
            low = base;
            low_at = refl;
            stacked = stacked;
            order = fits;
          })),
    )
