use Rattle.std.proofs.Common.{◌≡◌, ℕ, ◌+◌, ◌*◌, ◌^◌, ◌<◌, List, Some, sym, ap, ◌∙◌, subst, arith, w32}
use Rattle.std.specs.Prelude.{sum, slice_index, pos}
use Rattle.std.proofs.lemmas.Int.{to_z_pos}
use Rattle.board_types.specs.declared.value.Value.TheVariants.{Int}
use Rattle.ram_words.specs.declared.frames.Hot.{Hot}
use Rattle.tiny_ram.specs.declared.parts.Part.TheVariants.{Depth}
use Rattle.tiny_ram.specs.Memory.{part_of, part_value}
use Rattle.tiny_ram.proofs.Waits.{small_stack}
use Rattle.tiny_ram.proofs.parts.frame_place.Goals as goal

pub returns-in-Depth : goal.returns-in-Depth
returns-in-Depth c f k =
    let total : c.places.result ≡ sum f.sizes = c.places.ensures.sum ∙ ap (λ (z : List ℕ). sum z) k.sizes in
    let part : part_of (sum f.sizes) c.args.index ≡ Depth = ap (λ n. part_of n c.args.index) (sym total) ∙ sym c.part_at.ensures ∙ c.in-Depth.is in
    let most : slice_index f.sizes 2 < 2 ^ 22 = subst (λ (z : List ℕ). slice_index z 2 < 2 ^ 22) k.sizes (small_stack c.args.words.now c.args.base) in
    let top : c.args.hot.top ≡ c.args.base + 6 + 3 * slice_index f.sizes 0 + 3 * slice_index f.sizes 1 + 3 * f.depth = ap (λ (g : Hot). g.top) k.hot in
    let stack : c.args.hot.stack ≡ c.args.base + 6 + 3 * slice_index f.sizes 0 + 3 * slice_index f.sizes 1 = ap (λ (g : Hot). g.stack) k.hot in
    let depth : c.depth.result ≡ f.depth = c.depth.ensures.value ∙ omega (arith, top, stack, most, k.depth) in
    ap (λ z. Some (Int z)) (to_z_pos w32 c.depth.result (omega (arith, c.depth.ensures.small)) ∙ ap pos depth)
    ∙ ap (part_value f c.args.index) (sym part)
