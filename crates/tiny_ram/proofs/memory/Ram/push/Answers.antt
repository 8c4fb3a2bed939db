use Rattle.std.proofs.Common.{◌≡◌, ℕ, ◌+◌, ◌*◌, ◌≤◌, List, ◌∷◌, length, Some, refl, sym, ap, ◌∙◌, subst, arith}
use Rattle.std.specs.Prelude.{slice_index}
use Rattle.std.proofs.lemmas.Bool.{le-ltb}
use Rattle.std.proofs.lemmas.List.{with_items_is}
use Rattle.ram_words.specs.declared.frames.Hot.{Hot}
use Rattle.ram_words.specs.Region.{SameBut}
use Rattle.ram_words.specs.Cells.{kept_at}
use Rattle.tiny_ram.specs.Memory.{frame_cells, variables, with_variable, pushed, with_frames}
use Rattle.tiny_ram.specs.Region.{Stands, Holds}
use Rattle.tiny_ram.proofs.Puts.{stands-slot}
use Rattle.tiny_ram.proofs.Tops.{Top, top_of, top_changed, deep, wider}
use Rattle.tiny_ram.proofs.memory.Ram.push.Goals as goal
use Rattle.tiny_ram.proofs.memory.Ram.push.Goals.{then-top-self-via-then-top-self, then-top-self-via-else-top-self+then-top-ge-MOST_WORDS}

pub returns-then-top-self-clause-room : goal.returns-then-top-self-clause-room
returns-then-top-self-clause-room c m f fs k e =
    let t : Top c.args.self.now.words.items c.args.self.now.heap k.low m.room c.args.self.now.hot f fs = top_of c.args.self.now.words.items c.args.self.now.heap c.args.self.now.hot m f fs k e in
    let full : slice_index f.sizes 2 ≤ f.depth =
    elim c.then-top-self.branch [
      | then-top-self-via-then-top-self w ↦ omega (arith, t.top, t.limit)
      | then-top-self-via-else-top-self+then-top-ge-MOST_WORDS w ↦ omega (arith, t.top, t.three, t.inside, t.small)
    ] in
    sym (le-ltb f.depth (slice_index f.sizes 2) full)

pub returns-clause-done : goal.returns-clause-done
returns-clause-done c m f fs k e =
    let ws : List ℕ = c.args.self.now.words.items in
    let us : List ℕ = c.put_kept.new.words in
    let hot : Hot = c.args.self.now.hot in
    let n : ℕ = variables f + f.depth in
    let t : Top ws c.args.self.now.heap k.low m.room hot f fs = top_of ws c.args.self.now.heap hot m f fs k e in
    let room : f.depth + 1 ≤ slice_index f.sizes 2 = omega (arith, t.top, t.limit) in
    let at : hot.top ≡ k.low + 6 + 3 * n = omega (arith, t.top) in
    let s : SameBut (k.low + 6 + 3 * n) (k.low + 6 + 3 * n + 3) ws us =
    subst (λ j. SameBut j (j + 3) ws us) at (subst (λ (xs : List ℕ). SameBut hot.top (hot.top + 3) xs us) c.as_mut_slice.ensures.value c.put_kept.ensures.outside) in
    let here : kept_at us (k.low + 6 + 3 * n) ≡ Some c.args.value =
    ap (kept_at us) (sym at) ∙ c.put_kept.ensures.here (omega (arith, at, room, t.three, t.inside, ap length c.as_mut_slice.ensures.value)) in
    let back = with_items_is c.args.self.now.words us (s.size ∙ sym c.args.self.now.words.ok.0) in
    let slot : Stands us k.low hot (with_variable f n c.args.value) = stands-slot ws us k.low hot f n c.args.value t.stands (omega (arith, room, t.three)) here s in
    subst (λ (xs : List ℕ). Holds xs c.args.self.now.heap (record hot { top = hot.top + 3 }) (with_frames m (pushed f c.args.value ∷ fs))) (sym back)
    (top_changed ws us c.args.self.now.heap hot (record hot { top = hot.top + 3 }) m f (pushed f c.args.value) fs k e refl
    (wider (k.low + 6 + 3 * n) (k.low + 6 + 3 * n + 3) k.low (k.low + 3 * frame_cells f) ws us s (omega arith) (omega (arith, room, t.three)))
    (deep us k.low hot (with_variable f n c.args.value) (f.depth + 1) (hot.top + 3) slot room (omega (arith, t.top))))
