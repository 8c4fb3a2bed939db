use Rattle.std.proofs.Common.{◌≡◌, ℕ, ◌+◌, ◌*◌, ◌%◌, ◌<◌, ◌≤◌, List, ◌∷◌, length, Some, refl, sym, ap, ◌∙◌, subst, arith}
use Rattle.std.proofs.lemmas.Bool.{lt-ltb, le-ltb}
use Rattle.std.proofs.lemmas.List.{with_items_is}
use Rattle.ram_words.specs.Region.{SameBut}
use Rattle.ram_words.specs.Cells.{kept_at}
use Rattle.tiny_ram.specs.Memory.{frame_cells, variables, with_variable, with_frames}
use Rattle.tiny_ram.specs.Region.{Holds}
use Rattle.tiny_ram.proofs.Puts.{stands-slot}
use Rattle.tiny_ram.proofs.Tops.{Top, top_of, top_changed, wider}
use Rattle.tiny_ram.proofs.memory.Ram.put_variable.Goals as goal
use Rattle.tiny_ram.proofs.memory.Ram.put_variable.Goals.{then-at-self-via-then-at-self, then-at-self-via-else-at-self+then-at-ge-MOST_WORDS}

pub returns-then-at-self-clause-there : goal.returns-then-at-self-clause-there
returns-then-at-self-clause-there c m f fs k e =
    let t : Top c.args.self.now.words.items c.args.self.now.heap k.low m.room c.args.self.now.hot f fs = top_of c.args.self.now.words.items c.args.self.now.heap c.args.self.now.hot m f fs k e in
    let past : variables f ≤ c.args.n =
    elim c.then-at-self.branch [
      | then-at-self-via-then-at-self w ↦ omega (arith, t.arguments, t.stack, t.three, t.inside, t.small)
      | then-at-self-via-else-at-self+then-at-ge-MOST_WORDS w ↦ omega (arith, t.arguments, t.stack, t.three, t.inside, t.small)
    ] in
    sym (le-ltb c.args.n (variables f) past)

pub returns-clause-there : goal.returns-clause-there
returns-clause-there c m f fs k e =
    let t : Top c.args.self.now.words.items c.args.self.now.heap k.low m.room c.args.self.now.hot f fs = top_of c.args.self.now.words.items c.args.self.now.heap c.args.self.now.hot m f fs k e in
    let there : c.args.n < variables f = omega (arith, t.arguments, t.stack, t.three, t.inside, t.small) in
    sym (lt-ltb c.args.n (variables f) there)

pub returns-clause-done : goal.returns-clause-done
returns-clause-done c m f fs k e =
    let ws : List ℕ = c.args.self.now.words.items in
    let us : List ℕ = c.put_kept.new.words in
    let n : ℕ = c.args.n in
    let t : Top ws c.args.self.now.heap k.low m.room c.args.self.now.hot f fs = top_of ws c.args.self.now.heap c.args.self.now.hot m f fs k e in
    let there : n < variables f = omega (arith, t.arguments, t.stack, t.three, t.inside, t.small) in
    let at : (c.args.self.now.hot.arguments + 3 * n) % 18446744073709551616 ≡ k.low + 6 + 3 * n = omega (arith, t.arguments, t.inside, t.small) in
    let s : SameBut (k.low + 6 + 3 * n) (k.low + 6 + 3 * n + 3) ws us =
    subst (λ j. SameBut j (j + 3) ws us) at (subst (λ (xs : List ℕ). SameBut ((c.args.self.now.hot.arguments + 3 * n) % 18446744073709551616) ((c.args.self.now.hot.arguments + 3 * n) % 18446744073709551616 + 3) xs us) c.as_mut_slice.ensures.value c.put_kept.ensures.outside) in
    let here : kept_at us (k.low + 6 + 3 * n) ≡ Some c.args.value =
    ap (kept_at us) (sym at) ∙ c.put_kept.ensures.here (omega (arith, at, there, t.three, t.inside, ap length c.as_mut_slice.ensures.value)) in
    let back = with_items_is c.args.self.now.words us (s.size ∙ sym c.args.self.now.words.ok.0) in
    subst (λ (xs : List ℕ). Holds xs c.args.self.now.heap c.args.self.now.hot (with_frames m (with_variable f n c.args.value ∷ fs))) (sym back)
    (top_changed ws us c.args.self.now.heap c.args.self.now.hot c.args.self.now.hot m f (with_variable f n c.args.value) fs k e refl
    (wider (k.low + 6 + 3 * n) (k.low + 6 + 3 * n + 3) k.low (k.low + 3 * frame_cells f) ws us s (omega arith) (omega (arith, there, t.three)))
    (stands-slot ws us k.low c.args.self.now.hot f n c.args.value t.stands (omega (arith, there, t.three)) here s))
