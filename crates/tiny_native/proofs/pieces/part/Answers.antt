use Rattle.std.proofs.Common.{◌≡◌, ℕ, ◌+◌, Some, None, map, sym, ap, ◌∙◌, subst, arith, rules, get_or, w32}
use Rattle.std.specs.Prelude.{unsigned_abs}
use Rattle.std.specs.Int.{cast_signed, cast_unsigned}
use Rattle.cil_opcodes.specs.declared.shape.IntegerType.TheVariants.{U2}
use Rattle.machine.specs.Data.{Bits}
use Rattle.machine.specs.Natives.{is_range, piece, new_text}
use Rattle.tiny_native.specs.Copies.{IsRange, AllHaveKind, PlaceHasKind, unit_in, part_of}
use Rattle.tiny_native.proofs.Made.{text_meets}
use Rattle.tiny_native.proofs.pieces.part.Goals as goal

pub returns-in-Some : goal.returns-in-Some
returns-in-Some c s e h is most kinds =
    let i : ℕ = c.in-Some.range.start in
    let n : ℕ = c.in-Some.range.count in
    let back_i : cast_signed w32 (cast_unsigned w32 c.args.start) ≡ c.args.start = search rules in
    let back_n : cast_signed w32 (cast_unsigned w32 c.args.count) ≡ c.args.count = search rules in
    let r : IsRange c.args.most c.args.start c.args.count (Some c.in-Some.range) =
    subst (λ z. IsRange c.args.most c.args.start z (Some c.in-Some.range)) back_n (subst (λ z. IsRange c.args.most z (cast_signed w32 (cast_unsigned w32 c.args.count)) (Some c.in-Some.range)) back_i c.in-Some.ensures) in
    let some : AllHaveKind (Bits U2) e.places i n = λ k l. let z : 0 + (i + k) ≡ i + k = omega arith in subst (λ t. PlaceHasKind (Bits U2) (get_or e.places t None)) z (kinds (i + k) (omega (arith, r.3, l))) in
    let made = c.copied.ensures s.memory e h.keeps is (omega (arith, r.3, most)) some in
    let same : piece (unsigned_abs c.args.start) (unsigned_abs c.args.count) e.places ≡ piece i n e.places = ap (λ x. piece x (unsigned_abs c.args.count) e.places) (sym r.1) ∙ ap (λ x. piece i x e.places) (sym r.2) in
    text_meets s c.copied.new.ram (map unit_in (piece i n e.places)) (part_of s (is_range c.args.most c.args.start c.args.count) (map unit_in (piece (unsigned_abs c.args.start) (unsigned_abs c.args.count) e.places))) c.copied.result h.cells
    (ap (λ b. part_of s b (map unit_in (piece (unsigned_abs c.args.start) (unsigned_abs c.args.count) e.places))) r.0
    ∙ ap (λ ps. new_text s.program s.state s.frame s.callers s.next s.rest (map unit_in ps)) same)
    made
