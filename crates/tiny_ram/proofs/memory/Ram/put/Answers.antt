use Rattle.std.proofs.Common.{◌≡◌, ℕ, ◌+◌, ◌-◌, ◌*◌, ◌≤◌, List, length, refl, sym, ap, ◌∙◌, subst, arith}
use Rattle.std.proofs.lemmas.List.{with_items_is}
use Rattle.ram_words.specs.Region.{SameBut}
use Rattle.tiny_ram.specs.Things.{Entry, layout_of, entry_cells, with_place}
use Rattle.tiny_ram.specs.Memory.{heap_cells, frames_cells, put_in, put_entry}
use Rattle.tiny_ram.specs.Region.{Lies, Holds}
use Rattle.tiny_ram.proofs.Elsewhere.{some_cells}
use Rattle.tiny_ram.proofs.Heaps.{laid-put, cells-put}
use Rattle.tiny_ram.proofs.Stacks.{stacked-end, stacked-same}
use Rattle.tiny_ram.proofs.Puts.{Here, here, frame_behind}
use Rattle.tiny_ram.proofs.memory.Ram.put.Goals as goal

pub returns-then-start-self-clause-thing : goal.returns-then-start-self-clause-thing
returns-then-start-self-clause-thing c m e k i l t =
    let ws : List ℕ = c.args.self.now.words.items in
    let us : List ℕ = c.put_place.new.words in
    let heap : ℕ = c.args.self.now.heap in
    let start : ℕ = c.start_of-start.result in
    let at : ℕ = c.args.at.thing - 1 in
    let g : Entry = with_place e c.args.at.index c.args.at.elem c.args.value in
    let h : Here ws heap c.args.at.thing e = here ws heap c.args.self.now.hot m c.args.at.thing e k i in
    let first : 3 * at ≡ start = sym c.start_of-start.ensures in
    let lies : Lies c.as_mut_slice.result.now start e = subst (λ (xs : List ℕ). Lies xs start e) (sym c.as_mut_slice.ensures.value) (subst (λ j. Lies ws j e) first h.lies) in
    let fills : k.low + 3 * frames_cells m.frames ≡ 3 * m.room = stacked-end ws (3 * m.room) k.low c.args.self.now.hot m.frames k.stacked in
    let room : start + 3 * entry_cells e ≤ length c.as_mut_slice.result.now = omega (arith, h.inside, first, k.size, k.order, fills, ap length c.as_mut_slice.ensures.value) in
    let inner : start + 3 * entry_cells e ≤ k.low = omega (arith, h.inside, first, k.order) in
    let same : SameBut start (start + 3 * entry_cells e) ws us =
    subst (λ (xs : List ℕ). SameBut start (start + 3 * entry_cells e) xs us) c.as_mut_slice.ensures.value (c.put_place.ensures.outside e lies l) in
    let z : 0 + 3 * at ≡ start = omega (arith, first) in
    let back = with_items_is c.args.self.now.words us (same.size ∙ sym c.args.self.now.words.ok.0) in
    let cells : heap_cells (put_entry m.heap at g) ≡ heap_cells m.heap = cells-put at m.heap e g i.there refl in
    subst (λ (xs : List ℕ). Holds xs heap c.args.self.now.hot (put_in m c.args.at.thing g)) (sym back)
    (record {
      size = same.size ∙ k.size;
      most = k.most;
      heap = k.heap ∙ ap (λ n. 3 * n) (sym cells);
      laid = laid-put ws us 0 at start (start + 3 * entry_cells e) m.heap e g k.laid i.there refl same (omega (arith, z)) (omega (arith, z)) (subst (λ j. Lies us j g) (sym z) (c.put_place.ensures.lies e lies room l t));
      low = k.low;
      low_at = k.low_at;
      stacked = stacked-same ws us (3 * m.room) k.low c.args.self.now.hot m.frames start (start + 3 * entry_cells e) same inner k.stacked;
      order = k.order;
    })

pub returns-then-start-self-clause-frame : goal.returns-then-start-self-clause-frame
returns-then-start-self-clause-frame c m f k i t =
    let past : c.args.self.now.heap ≤ 3 * (c.args.at.thing - 1) = frame_behind c.args.self.now.words.items c.args.self.now.heap c.args.self.now.hot m c.args.at.thing f k i in
    absurd (omega (arith, past))

pub returns-else-start-self-clause-thing : goal.returns-else-start-self-clause-thing
returns-else-start-self-clause-thing c m e k i l t =
    let h : Here c.args.self.now.words.items c.args.self.now.heap c.args.at.thing e = here c.args.self.now.words.items c.args.self.now.heap c.args.self.now.hot m c.args.at.thing e k i in
    let some : 1 ≤ entry_cells e = some_cells (layout_of e.shape) e.shape.count in
    absurd (omega (arith, h.inside, some))
