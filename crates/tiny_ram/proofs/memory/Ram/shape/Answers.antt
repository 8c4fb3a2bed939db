use Rattle.std.proofs.Common.{◌≡◌, ℕ, ◌-◌, ◌*◌, ◌≤◌, List, ap, ◌∙◌, arith}
use Rattle.std.specs.Prelude.{sum}
use Rattle.plain_types.specs.declared.elem.Elem.TheVariants.{Void}
use Rattle.ram_words.specs.Headers.{shape_at}
use Rattle.ram_words.specs.Frames.{sizes_at, method_at}
use Rattle.tiny_ram.specs.Things.{row_type}
use Rattle.tiny_ram.proofs.Elsewhere.{some_cells}
use Rattle.tiny_ram.specs.Things.{layout_of, entry_cells}
use Rattle.tiny_ram.proofs.Waits.{Found, found}
use Rattle.tiny_ram.proofs.Puts.{Here, here, frame_behind, shape_of_parts}
use Rattle.tiny_ram.proofs.memory.Ram.shape.Goals as goal

pub returns-then-start-self-clause-thing : goal.returns-then-start-self-clause-thing
returns-then-start-self-clause-thing c m e k i =
    let h : Here c.args.self.now.words.items c.args.self.now.heap c.args.thing e = here c.args.self.now.words.items c.args.self.now.heap c.args.self.now.hot m c.args.thing e k i in
    c.shape.ensures ∙ ap (λ (xs : List ℕ). shape_at xs c.start_of-start.result) c.deref.ensures.value ∙ ap (shape_at c.args.self.now.words.items) c.start_of-start.ensures ∙ h.lies.shape

pub returns-then-start-self-clause-frame : goal.returns-then-start-self-clause-frame
returns-then-start-self-clause-frame c m f k i =
    let past : c.args.self.now.heap ≤ 3 * (c.args.thing - 1) = frame_behind c.args.self.now.words.items c.args.self.now.heap c.args.self.now.hot m c.args.thing f k i in
    absurd (omega (arith, past))

pub returns-else-start-self-clause-thing : goal.returns-else-start-self-clause-thing
returns-else-start-self-clause-thing c m e k i =
    let h : Here c.args.self.now.words.items c.args.self.now.heap c.args.thing e = here c.args.self.now.words.items c.args.self.now.heap c.args.self.now.hot m c.args.thing e k i in
    let some : 1 ≤ entry_cells e = some_cells (layout_of e.shape) e.shape.count in
    absurd (omega (arith, h.inside, some))

pub returns-else-start-self-clause-frame : goal.returns-else-start-self-clause-frame
returns-else-start-self-clause-frame c m f k i =
    let ws : List ℕ = c.args.self.now.words.items in
    let r : Found ws m.room k.low c.args.self.now.hot m.frames c.args.thing f = found ws m.room k.low c.args.self.now.hot m.frames c.args.thing f k.stacked i in
    let start : ℕ = c.start_of-start.result in
    let method : method_at c.deref-else-start-self.result.now start ≡ f.method =
    ap (λ (xs : List ℕ). method_at xs start) c.deref-else-start-self.ensures.value ∙ ap (method_at ws) c.start_of-start.ensures ∙ r.stands.method in
    let sizes : sizes_at c.deref-else-start-self.result.now start ≡ f.sizes =
    ap (λ (xs : List ℕ). sizes_at xs start) c.deref-else-start-self.ensures.value ∙ ap (sizes_at ws) c.start_of-start.ensures ∙ r.stands.sizes in
    shape_of_parts c.shape_of_frame.result 4 (sum f.sizes) (row_type Void f.method) c.shape_of_frame.ensures.what
    (c.shape_of_frame.ensures.method ∙ ap (row_type Void) method) (c.shape_of_frame.ensures.count ∙ ap (λ (z : List ℕ). sum z) sizes)
