use Rattle.std.proofs.Common.{◌≡◌, ℕ, ◌+◌, ◌-◌, ◌*◌, ◌<◌, Bool, List, None, refl, sym, ap, ◌∙◌, arith}
use Rattle.std.specs.Prelude.{if◌then◌else◌, unwrap_or, slice_get}
use Rattle.std.proofs.lemmas.Bool.{eq-eqb, ne_eqb}
use Rattle.ram_words.specs.declared.frames.Hot.{Hot}
use Rattle.ram_words.specs.Cells.{kept_at}
use Rattle.tiny_ram.specs.Memory.{frame_cells, variables, popped}
use Rattle.tiny_ram.proofs.Tops.{Top, top_of, top_changed, deep, unchanged}
use Rattle.tiny_ram.proofs.memory.Ram.pop.Goals as goal
use Rattle.tiny_ram.proofs.memory.Ram.pop.Goals.{then-top-self-via-then-top-self, then-top-self-via-else-top-self+then-top}

pub returns-then-top-self-clause-value : goal.returns-then-top-self-clause-value
returns-then-top-self-clause-value c m f fs k e =
    let t : Top c.args.self.now.words.items c.args.self.now.heap k.low m.room c.args.self.now.hot f fs = top_of c.args.self.now.words.items c.args.self.now.heap c.args.self.now.hot m f fs k e in
    let empty : f.depth ≡ 0 =
    elim c.then-top-self.branch [
      | then-top-self-via-then-top-self w ↦ omega (arith, t.top, t.stack)
      | then-top-self-via-else-top-self+then-top w ↦ absurd (omega (arith, t.top, t.three, t.inside, t.small, t.stands.depth))
    ] in
    sym (ap (λ (b : Bool). if b then None else unwrap_or (slice_get f.places (variables f + (f.depth - 1))) None) (eq-eqb f.depth 0 empty))

pub returns-then-top-self-clause-popped : goal.returns-then-top-self-clause-popped
returns-then-top-self-clause-popped c m f fs k e =
    let ws : List ℕ = c.args.self.now.words.items in
    let t : Top ws c.args.self.now.heap k.low m.room c.args.self.now.hot f fs = top_of ws c.args.self.now.heap c.args.self.now.hot m f fs k e in
    let empty : f.depth ≡ f.depth - 1 =
    elim c.then-top-self.branch [
      | then-top-self-via-then-top-self w ↦ omega (arith, t.top, t.stack)
      | then-top-self-via-else-top-self+then-top w ↦ absurd (omega (arith, t.top, t.three, t.inside, t.small, t.stands.depth))
    ] in
    top_changed ws ws c.args.self.now.heap c.args.self.now.hot c.args.self.now.hot m f (popped f) fs k e refl (unchanged k.low (k.low + 3 * frame_cells f) ws)
    (deep ws k.low c.args.self.now.hot f (f.depth - 1) c.args.self.now.hot.top t.stands (omega (arith, t.stands.depth)) (omega (arith, t.top, empty)))

pub returns-clause-value : goal.returns-clause-value
returns-clause-value c m f fs k e =
    let ws : List ℕ = c.args.self.now.words.items in
    let t : Top ws c.args.self.now.heap k.low m.room c.args.self.now.hot f fs = top_of ws c.args.self.now.heap c.args.self.now.hot m f fs k e in
    let n : ℕ = variables f + (f.depth - 1) in
    let some : 0 < f.depth = omega (arith, t.top, t.stack) in
    let at : c.saturating_sub-at.result ≡ k.low + 6 + 3 * n = omega (arith, t.top, some, c.saturating_sub-at.ensures) in
    c.kept.ensures ∙ ap (λ (xs : List ℕ). kept_at xs c.saturating_sub-at.result) c.deref.ensures.value ∙ ap (kept_at ws) at
    ∙ sym (ap (λ o. unwrap_or o None) (t.stands.places n (omega (arith, some, t.three, t.stands.count, t.stands.depth))))
    ∙ sym (ap (λ (b : Bool). if b then None else unwrap_or (slice_get f.places n) None) (ne_eqb f.depth 0 (λ q. omega arith)))

pub returns-clause-popped : goal.returns-clause-popped
returns-clause-popped c m f fs k e =
    let ws : List ℕ = c.args.self.now.words.items in
    let hot : Hot = c.args.self.now.hot in
    let t : Top ws c.args.self.now.heap k.low m.room hot f fs = top_of ws c.args.self.now.heap hot m f fs k e in
    let some : 0 < f.depth = omega (arith, t.top, t.stack) in
    top_changed ws ws c.args.self.now.heap hot (record hot { top = c.saturating_sub-at.result }) m f (popped f) fs k e refl (unchanged k.low (k.low + 3 * frame_cells f) ws)
    (deep ws k.low hot f (f.depth - 1) c.saturating_sub-at.result t.stands (omega (arith, t.stands.depth)) (omega (arith, t.top, some, c.saturating_sub-at.ensures)))
