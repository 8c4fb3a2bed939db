use Rattle.std.proofs.Common.{◌≡◌, ℕ, ◌+◌, ◌*◌, ◌≤◌, List, refl, sym, ap, ◌∙◌, subst, arith}
use Rattle.std.specs.Prelude.{sum}
use Rattle.ram_words.specs.declared.frames.Hot.{Hot}
use Rattle.ram_words.specs.Frames.{sizes_at, hot_at}
use Rattle.tiny_ram.specs.Memory.{RamFrame, callers}
use Rattle.tiny_ram.specs.Region.{Holds}
use Rattle.tiny_ram.proofs.Waits.{Left, left, none_left}
use Rattle.tiny_ram.proofs.memory.Ram.end_frame.Goals as goal
use Rattle.tiny_ram.proofs.memory.Ram.end_frame.Goals.{else-base-len-via-then-base-len+else-base-lt-MOST_WORDS, else-base-len-via-else-base-len}

pub returns-then-base-lt-MOST_WORDS : goal.returns-then-base-lt-MOST_WORDS
unfolding hot_at
returns-then-base-lt-MOST_WORDS c m k =
    let ws : List ℕ = c.args.self.now.words.items in
    let end : ℕ = c.end_of-end.result in
    let first : c.low-base.result ≡ k.low = omega (arith, k.low_at, c.low-base.ensures) in
    let size : c.args.self.now.words.len ≡ 3 * m.room = c.args.self.now.words.ok.0 ∙ k.size in
    let e : end ≡ k.low + 3 * (2 + sum (sizes_at ws k.low)) =
    c.end_of-end.ensures.end
    ∙ ap (λ (xs : List ℕ). c.low-base.result + 3 * (2 + sum (sizes_at xs c.low-base.result))) c.deref.ensures.value
    ∙ ap (λ j. j + 3 * (2 + sum (sizes_at ws j))) first in
    let rest : Left ws m.room k.low end m.frames = left ws m.room k.low end c.args.self.now.hot m.frames k.stacked (omega (arith, first, size, c.len.ensures)) e in
    let hot : c.waiting-self.result ≡ hot_at ws end = c.waiting-self.ensures ∙ ap (λ (xs : List ℕ). hot_at xs end) c.deref-then-base-lt-MOST_WORDS.ensures.value in
    subst (λ (h : Hot). Holds ws c.args.self.now.heap h (record m { frames = callers m.frames })) (sym hot)
    (record { size = k.size; most = k.most; heap = k.heap; laid = k.laid; low = end; low_at = refl; stacked = rest.stacked; order = omega (arith, k.order, rest.order) })

pub returns-else-base-len : goal.returns-else-base-len
returns-else-base-len c m k =
    let first : c.low-base.result ≡ k.low = omega (arith, k.low_at, c.low-base.ensures) in
    let size : c.args.self.now.words.len ≡ 3 * m.room = c.args.self.now.words.ok.0 ∙ k.size in
    let past : 3 * m.room ≤ k.low =
    elim c.else-base-len.branch [
      | else-base-len-via-then-base-len+else-base-lt-MOST_WORDS w ↦ omega (arith, first, size, k.most, c.len.ensures)
      | else-base-len-via-else-base-len w ↦ omega (arith, first, size, c.len.ensures)
    ] in
    subst (λ (fs : List RamFrame). Holds c.args.self.now.words.items c.args.self.now.heap c.args.self.now.hot (record m { frames = fs }))
    (none_left c.args.self.now.words.items m.room k.low c.args.self.now.hot m.frames k.stacked past) k
