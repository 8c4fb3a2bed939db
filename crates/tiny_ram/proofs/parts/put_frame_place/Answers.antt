use Rattle.std.proofs.Common.{◌≡◌, ℕ, ◌+◌, ◌*◌, ◌<◌, List, Some, sym, ap, ◌∙◌, subst, arith}
use Rattle.std.specs.Prelude.{sum}
use Rattle.board_types.specs.declared.value.Value.{Value}
use Rattle.board_types.specs.declared.value.Value.TheVariants.{Int}
use Rattle.tiny_ram.specs.declared.parts.Part.{Part}
use Rattle.tiny_ram.specs.declared.parts.Part.TheVariants.{Slot, Initialiser}
use Rattle.tiny_ram.specs.Memory.{part_of, PartTakes, with_part}
use Rattle.tiny_ram.specs.Region.{Stands}
use Rattle.ram_words.specs.Cells.{kept_at}
use Rattle.ram_words.specs.Elements.{cut_by, elem_held}
use Rattle.tiny_ram.proofs.Rooms.{slot_inside}
use Rattle.tiny_ram.proofs.Puts.{stands-slot, stands-int}
use Rattle.tiny_ram.proofs.parts.put_frame_place.Goals as goal

pub returns-in-Slot-default-clause-stands : goal.returns-in-Slot-default-clause-stands
returns-in-Slot-default-clause-stands c f k room t =
    let total : c.places.result ≡ sum f.sizes = c.places.ensures.sum ∙ ap (λ (z : List ℕ). sum z) k.sizes in
    let part : part_of (sum f.sizes) c.args.at.index ≡ Slot = ap (λ n. part_of n c.args.at.index) (sym total) ∙ sym c.part_at.ensures ∙ c.in-Slot-default.is-0 in
    let inner : c.args.at.index < sum f.sizes = slot_inside (sum f.sizes) c.args.at.index part in
    let here : kept_at c.put_kept.new.words (c.args.base + 6 + 3 * c.args.at.index) ≡ Some (cut_by (elem_held c.args.at.elem) c.args.value) =
    c.put_kept.ensures.here (omega (arith, inner, room)) ∙ ap Some c.cut_to.ensures in
    subst (λ (p : Part). Stands c.put_kept.new.words c.args.base c.args.hot (with_part f c.args.at.index c.args.at.elem p c.args.value)) (sym part)
    (stands-slot c.args.words.now c.put_kept.new.words c.args.base c.args.hot f c.args.at.index (cut_by (elem_held c.args.at.elem) c.args.value) k inner here c.put_kept.ensures.outside)

pub returns-in-Initialiser-Int-clause-stands : goal.returns-in-Initialiser-Int-clause-stands
returns-in-Initialiser-Int-clause-stands c f k room t =
    let total : c.places.result ≡ sum f.sizes = c.places.ensures.sum ∙ ap (λ (z : List ℕ). sum z) k.sizes in
    let part : part_of (sum f.sizes) c.args.at.index ≡ Initialiser = ap (λ n. part_of n c.args.at.index) (sym total) ∙ sym c.part_at.ensures ∙ c.in-Initialiser-Int.is-0 in
    let takes : PartTakes f Initialiser (Int c.in-Initialiser-Int.n) =
    subst (λ (v : Value). PartTakes f Initialiser v) c.in-Initialiser-Int.is-1 (subst (λ (p : Part). PartTakes f p c.args.value) part t) in
    subst (λ (p : Part). Stands c.put_initialiser.new.words c.args.base c.args.hot (with_part f c.args.at.index c.args.at.elem p c.args.value)) (sym part)
    (subst (λ (v : Value). Stands c.put_initialiser.new.words c.args.base c.args.hot (with_part f c.args.at.index c.args.at.elem Initialiser v)) (sym c.in-Initialiser-Int.is-1)
    (stands-int c.args.words.now c.put_initialiser.new.words c.args.base c.args.hot f c.args.at.index c.args.at.elem c.in-Initialiser-Int.n k takes (c.put_initialiser.ensures.here (omega (arith, room))) c.put_initialiser.ensures.outside))
