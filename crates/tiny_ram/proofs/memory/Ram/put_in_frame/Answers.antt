use Rattle.std.proofs.Common.{◌≡◌, ℕ, ◌+◌, ◌-◌, ◌*◌, ◌<◌, ◌≤◌, List, length, inl, ⊎_elim, sym, ap, ◌∙◌, subst, arith}
use Rattle.std.specs.Prelude.{sum}
use Rattle.std.proofs.lemmas.List.{with_items_is}
use Rattle.ram_words.specs.declared.frames.Hot.{Hot}
use Rattle.ram_words.specs.Region.{SameBut}
use Rattle.ram_words.specs.Frames.{hot_at}
use Rattle.tiny_ram.specs.Memory.{RamFrame, frame_cells, part_of, with_frame_value, put_in_frame}
use Rattle.tiny_ram.specs.Region.{Stands, Holds}
use Rattle.tiny_ram.proofs.Elsewhere.{laid-same}
use Rattle.tiny_ram.proofs.Waits.{Found, found}
use Rattle.tiny_ram.proofs.Puts.{same_cells, frame_behind, replaced_first, replaced_later}
use Rattle.tiny_ram.proofs.memory.Ram.put_in_frame.Goals as goal

pub returns-then-start-hot : goal.returns-then-start-hot
returns-then-start-hot c m f k i t =
    let ws : List ℕ = c.args.self.now.words.items in
    let us : List ℕ = c.put_frame_place-self.new.words in
    let heap : ℕ = c.args.self.now.heap in
    let hot : Hot = c.args.self.now.hot in
    let thing : ℕ = c.args.at.thing in
    let start : ℕ = c.args.start in
    let new : Hot = c.put_frame_place-self.result in
    let g : RamFrame = with_frame_value f c.args.at.index c.args.at.elem c.args.value in
    let r : Found ws m.room k.low hot m.frames thing f = found ws m.room k.low hot m.frames thing f k.stacked i in
    let first : start ≡ 3 * (thing - 1) = c.requires in
    let low : 3 * (thing - 1) ≡ k.low = omega (arith, c.if-start-hot.true, first, k.low_at) in
    let own : r.hot ≡ hot =
    ⊎_elim
    (λ (z : (3 * (thing - 1) ≡ k.low) × (r.hot ≡ hot)). z.1)
    (λ (z : (k.low < 3 * (thing - 1)) × (r.hot ≡ hot_at ws (3 * (thing - 1)))). absurd (omega (arith, z.0, low)))
    r.first in
    let old : Stands c.as_mut_slice.result.now start hot f =
    subst (λ (xs : List ℕ). Stands xs start hot f) (sym c.as_mut_slice.ensures.value)
    (subst (λ j. Stands ws j hot f) (sym first) (subst (λ (x : Hot). Stands ws (3 * (thing - 1)) x f) own r.stands)) in
    let room : start + 3 * frame_cells f ≤ length c.as_mut_slice.result.now = omega (arith, r.fills, first, k.size, ap length c.as_mut_slice.ensures.value) in
    let now : Stands us (3 * (thing - 1)) new g = subst (λ j. Stands us j new g) first (c.put_frame_place-self.ensures.stands f old room t) in
    let same : SameBut (3 * (thing - 1)) (3 * (thing - 1) + 3 * frame_cells f) ws us =
    subst (λ j. SameBut j (j + 3 * frame_cells f) ws us) first (subst (λ (xs : List ℕ). SameBut start (start + 3 * frame_cells f) xs us) c.as_mut_slice.ensures.value (c.put_frame_place-self.ensures.outside f old)) in
    let back = with_items_is c.args.self.now.words us (same.size ∙ sym c.args.self.now.words.ok.0) in
    let behind : heap ≤ 3 * (thing - 1) = frame_behind ws heap hot m thing f k i in
    let cells : frame_cells g ≡ frame_cells f = same_cells f c.args.at.index c.args.at.elem (part_of (sum f.sizes) c.args.at.index) c.args.value in
    subst (λ (xs : List ℕ). Holds xs heap new (put_in_frame m thing g)) (sym back)
    (record {
      size = same.size ∙ k.size;
      most = k.most;
      heap = k.heap;
      laid = laid-same ws us 0 (3 * (thing - 1)) (3 * (thing - 1) + 3 * frame_cells f) m.heap same (inl (omega (arith, k.heap, behind))) k.laid;
      low = k.low;
      low_at = ap (λ (x : Hot). x.arguments) now.hot ∙ ap (λ n. n + 6) low;
      stacked = replaced_first ws us m.room k.low hot new m.frames thing f g k.stacked i low cells same now;
      order = k.order;
    })

pub returns-else-start-hot : goal.returns-else-start-hot
returns-else-start-hot c m f k i t =
    let ws : List ℕ = c.args.self.now.words.items in
    let us : List ℕ = c.put_in_waiting.new.words in
    let heap : ℕ = c.args.self.now.heap in
    let hot : Hot = c.args.self.now.hot in
    let thing : ℕ = c.args.at.thing in
    let start : ℕ = c.args.start in
    let xs : List ℕ = c.as_mut_slice-else-start-hot.result.now in
    let g : RamFrame = with_frame_value f c.args.at.index c.args.at.elem c.args.value in
    let r : Found ws m.room k.low hot m.frames thing f = found ws m.room k.low hot m.frames thing f k.stacked i in
    let first : start ≡ 3 * (thing - 1) = c.requires in
    let later : (k.low < 3 * (thing - 1)) × (r.hot ≡ hot_at ws (3 * (thing - 1))) =
    ⊎_elim
    (λ (z : (3 * (thing - 1) ≡ k.low) × (r.hot ≡ hot)). absurd (omega (arith, c.if-start-hot.false, first, z.0, k.low_at)))
    (λ (z : (k.low < 3 * (thing - 1)) × (r.hot ≡ hot_at ws (3 * (thing - 1)))). z)
    r.first in
    let old : Stands xs start (hot_at xs start) f =
    subst (λ (ys : List ℕ). Stands ys start (hot_at ys start) f) (sym c.as_mut_slice-else-start-hot.ensures.value)
    (subst (λ j. Stands ws j (hot_at ws j) f) (sym first) (subst (λ (x : Hot). Stands ws (3 * (thing - 1)) x f) later.1 r.stands)) in
    let room : start + 3 * frame_cells f ≤ length xs = omega (arith, r.fills, first, k.size, ap length c.as_mut_slice-else-start-hot.ensures.value) in
    let now : Stands us (3 * (thing - 1)) (hot_at us (3 * (thing - 1))) g = subst (λ j. Stands us j (hot_at us j) g) first (c.put_in_waiting.ensures.stands f old room t) in
    let same : SameBut (3 * (thing - 1)) (3 * (thing - 1) + 3 * frame_cells f) ws us =
    subst (λ j. SameBut j (j + 3 * frame_cells f) ws us) first (subst (λ (ys : List ℕ). SameBut start (start + 3 * frame_cells f) ys us) c.as_mut_slice-else-start-hot.ensures.value (c.put_in_waiting.ensures.outside f old)) in
    let back = with_items_is c.args.self.now.words us (same.size ∙ sym c.args.self.now.words.ok.0) in
    let behind : heap ≤ 3 * (thing - 1) = frame_behind ws heap hot m thing f k i in
    let cells : frame_cells g ≡ frame_cells f = same_cells f c.args.at.index c.args.at.elem (part_of (sum f.sizes) c.args.at.index) c.args.value in
    subst (λ (ys : List ℕ). Holds ys heap hot (put_in_frame m thing g)) (sym back)
    (record {
      size = same.size ∙ k.size;
      most = k.most;
      heap = k.heap;
      laid = laid-same ws us 0 (3 * (thing - 1)) (3 * (thing - 1) + 3 * frame_cells f) m.heap same (inl (omega (arith, k.heap, behind))) k.laid;
      low = k.low;
      low_at = k.low_at;
      stacked = replaced_later ws us m.room k.low hot m.frames thing f g k.stacked i later.0 cells same now;
      order = k.order;
    })
