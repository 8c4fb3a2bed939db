use Rattle.std.proofs.Common.{◌≡◌, ℕ, ◌+◌, ◌-◌, ◌*◌, ◌<◌, ◌≤◌, List, None, ⊎_elim, sym, ap, ◌∙◌, subst, arith}
use Rattle.std.specs.Prelude.{unwrap_or}
use Rattle.ram_words.specs.declared.frames.Hot.{Hot}
use Rattle.ram_words.specs.Headers.{shape_at}
use Rattle.ram_words.specs.Frames.{hot_at}
use Rattle.tiny_ram.specs.Things.{Layout, layout_of, place_at, entry_cells}
use Rattle.tiny_ram.specs.Region.{Stands}
use Rattle.tiny_ram.proofs.Elsewhere.{some_cells}
use Rattle.tiny_ram.proofs.Waits.{Found, found}
use Rattle.tiny_ram.proofs.Puts.{Here, here, frame_behind}
use Rattle.tiny_ram.proofs.memory.Ram.held.Goals as goal

pub returns-then-start-self-clause-thing : goal.returns-then-start-self-clause-thing
returns-then-start-self-clause-thing c m e k i l =
    let ws : List ℕ = c.args.self.now.words.items in
    let j : ℕ = c.args.at.index in
    let h : Here ws c.args.self.now.heap c.args.at.thing e = here ws c.args.self.now.heap c.args.self.now.hot m c.args.at.thing e k i in
    let shape : c.shape.result ≡ e.shape = c.shape.ensures ∙ ap (λ (xs : List ℕ). shape_at xs c.start_of-start.result) c.deref.ensures.value ∙ ap (shape_at ws) c.start_of-start.ensures ∙ h.lies.shape in
    c.place.ensures
    ∙ ap (λ (x : Layout). place_at x c.deref-then-start-self.result.now c.start_of-start.result j) (c.layout_for-layout.ensures ∙ ap layout_of shape)
    ∙ ap (λ (xs : List ℕ). place_at (layout_of e.shape) xs c.start_of-start.result j) c.deref-then-start-self.ensures.value
    ∙ ap (λ n. place_at (layout_of e.shape) ws n j) c.start_of-start.ensures
    ∙ sym (ap (λ o. unwrap_or o None) (h.lies.places j l))

pub returns-then-start-self-clause-frame : goal.returns-then-start-self-clause-frame
returns-then-start-self-clause-frame c m f k i =
    let past : c.args.self.now.heap ≤ 3 * (c.args.at.thing - 1) = frame_behind c.args.self.now.words.items c.args.self.now.heap c.args.self.now.hot m c.args.at.thing f k i in
    absurd (omega (arith, past))

pub returns-else-start-self-clause-thing : goal.returns-else-start-self-clause-thing
returns-else-start-self-clause-thing c m e k i l =
    let h : Here c.args.self.now.words.items c.args.self.now.heap c.args.at.thing e = here c.args.self.now.words.items c.args.self.now.heap c.args.self.now.hot m c.args.at.thing e k i in
    let some : 1 ≤ entry_cells e = some_cells (layout_of e.shape) e.shape.count in
    absurd (omega (arith, h.inside, some))

pub returns-else-start-self-clause-frame : goal.returns-else-start-self-clause-frame
returns-else-start-self-clause-frame c m f k i =
    let ws : List ℕ = c.args.self.now.words.items in
    let start : ℕ = c.start_of-start.result in
    let r : Found ws m.room k.low c.args.self.now.hot m.frames c.args.at.thing f = found ws m.room k.low c.args.self.now.hot m.frames c.args.at.thing f k.stacked i in
    let hot : c.hot_of.result ≡ r.hot =
    ⊎_elim
    (λ (z : (3 * (c.args.at.thing - 1) ≡ k.low) × (r.hot ≡ c.args.self.now.hot)). c.hot_of.ensures.innermost (omega (arith, c.start_of-start.ensures, z.0, k.low_at)) ∙ sym z.1)
    (λ (z : (k.low < 3 * (c.args.at.thing - 1)) × (r.hot ≡ hot_at ws (3 * (c.args.at.thing - 1)))).
    c.hot_of.ensures.waiting (λ (q : start + 6 ≡ c.args.self.now.hot.arguments). omega (arith, q, c.start_of-start.ensures, z.0, k.low_at)) ∙ ap (hot_at ws) c.start_of-start.ensures ∙ sym z.1)
    r.first in
    c.frame_place.ensures f
    (subst (λ (xs : List ℕ). Stands xs start c.hot_of.result f) (sym c.deref-else-start-self.ensures.value)
    (subst (λ n. Stands ws n c.hot_of.result f) (sym c.start_of-start.ensures)
    (subst (λ (h : Hot). Stands ws (3 * (c.args.at.thing - 1)) h f) (sym hot) r.stands)))
