use Rattle.std.proofs.Common.{◌≡◌, ℕ, ◌+◌, ◌*◌, ◌%◌, ◌<◌, ◌≤◌, Bool, List, None, sym, ap, ◌∙◌, arith}
use Rattle.std.specs.Prelude.{if◌then◌else◌, unwrap_or, slice_get}
use Rattle.std.proofs.lemmas.Bool.{lt-ltb, le-ltb}
use Rattle.ram_words.specs.Cells.{kept_at}
use Rattle.tiny_ram.specs.Memory.{variables}
use Rattle.tiny_ram.proofs.Tops.{Top, top_of}
use Rattle.tiny_ram.proofs.memory.Ram.variable.Goals as goal
use Rattle.tiny_ram.proofs.memory.Ram.variable.Goals.{then-at-self-via-then-at-self, then-at-self-via-else-at-self+then-at-ge-MOST_WORDS}

pub returns-then-at-self : goal.returns-then-at-self
returns-then-at-self c m f fs k e =
    let t : Top c.args.self.now.words.items c.args.self.now.heap k.low m.room c.args.self.now.hot f fs = top_of c.args.self.now.words.items c.args.self.now.heap c.args.self.now.hot m f fs k e in
    let past : variables f ≤ c.args.n =
    elim c.then-at-self.branch [
      | then-at-self-via-then-at-self w ↦ omega (arith, t.arguments, t.stack, t.three, t.inside, t.small)
      | then-at-self-via-else-at-self+then-at-ge-MOST_WORDS w ↦ omega (arith, t.arguments, t.stack, t.three, t.inside, t.small)
    ] in
    sym (ap (λ (b : Bool). if b then unwrap_or (slice_get f.places c.args.n) None else None) (le-ltb c.args.n (variables f) past))

pub returns : goal.returns
returns c m f fs k e =
    let ws : List ℕ = c.args.self.now.words.items in
    let t : Top ws c.args.self.now.heap k.low m.room c.args.self.now.hot f fs = top_of ws c.args.self.now.heap c.args.self.now.hot m f fs k e in
    let there : c.args.n < variables f = omega (arith, t.arguments, t.stack, t.three, t.inside, t.small) in
    let at : (c.args.self.now.hot.arguments + 3 * c.args.n) % 18446744073709551616 ≡ k.low + 6 + 3 * c.args.n = omega (arith, t.arguments, t.inside, t.small) in
    c.kept.ensures ∙ ap (λ (xs : List ℕ). kept_at xs ((c.args.self.now.hot.arguments + 3 * c.args.n) % 18446744073709551616)) c.deref.ensures.value ∙ ap (kept_at ws) at
    ∙ sym (ap (λ o. unwrap_or o None) (t.stands.places c.args.n (omega (arith, there, t.three, t.stands.count))))
    ∙ sym (ap (λ (b : Bool). if b then unwrap_or (slice_get f.places c.args.n) None else None) (lt-ltb c.args.n (variables f) there))
