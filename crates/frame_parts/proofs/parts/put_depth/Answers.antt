use Rattle.std.specs.Int.{w32, cast_signed, cast_unsigned}
use Rattle.std.proofs.Common.{◌≡◌, ◌+◌, ◌≤◌, pos, sym, ap, ◌∙◌, subst, arith}
use Rattle.std.specs.Prelude.{sum}
use Rattle.plain_types.specs.declared.elem.Elem.{Elem}
use Rattle.plain_types.specs.declared.elem.Elem.TheVariants.{I4}
use Rattle.board_types.specs.declared.value.Value.{Value}
use Rattle.board_types.specs.declared.value.Value.TheVariants.{Int}
use Rattle.tiny_ram.specs.Memory.{RamFrame, IsFrame, put_in_frame, with_frame_value, FrameTakes}
use Rattle.tiny_ram.specs.Region.{Keeps}
use Rattle.tiny_except.proofs.Walks.{small}
use Rattle.tiny_except.proofs.Tops.{four_sizes, there_back}
use Rattle.frame_parts.proofs.Behind.{small_number, deep_takes, deep_put}
use Rattle.frame_parts.proofs.parts.put_depth.Goals as goal

pub returns : goal.returns
returns c = λ m f k e l.
    let at = c.part-at.result in
    let few = small c.args.ram.now m c.args.frame f k e in
    let four = four_sizes f.sizes in
    let low : c.args.n ≤ 4194304 = omega (arith, l, few, four) in
    let is : IsFrame m at.thing f = subst (λ z. IsFrame m z f) (sym c.part-at.ensures.thing) e in
    let index = c.part-at.ensures.index m f k e (omega arith) in
    let held : Int (cast_signed w32 (cast_unsigned w32 c.cast_signed.result)) ≡ Int (pos c.args.n) = ap Int (there_back c.args.n c.cast_signed.result (omega (arith, low)) c.cast_signed.ensures ∙ small_number c.args.n low) in
    let takes : FrameTakes f at.index (Int (cast_signed w32 (cast_unsigned w32 c.cast_signed.result))) =
    subst (λ i. FrameTakes f i (Int (cast_signed w32 (cast_unsigned w32 c.cast_signed.result)))) (sym index) (subst (λ (v : Value). FrameTakes f (sum f.sizes + 1) v) (sym held) (deep_takes f c.args.n l)) in
    let put : with_frame_value f at.index at.elem (Int (cast_signed w32 (cast_unsigned w32 c.cast_signed.result))) ≡ record f { depth = c.args.n } =
    ap (λ (z : Elem). with_frame_value f at.index z (Int (cast_signed w32 (cast_unsigned w32 c.cast_signed.result)))) c.part-at.ensures.elem
    ∙ ap (λ i. with_frame_value f i I4 (Int (cast_signed w32 (cast_unsigned w32 c.cast_signed.result)))) index
    ∙ ap (λ (v : Value). with_frame_value f (sum f.sizes + 1) I4 v) held
    ∙ deep_put f c.args.n in
    subst (λ z. Keeps c.put.new.self (put_in_frame m z (record f { depth = c.args.n }))) c.part-at.ensures.thing
    (subst (λ (g : RamFrame). Keeps c.put.new.self (put_in_frame m at.thing g)) put (c.put.ensures.frame m f k is takes))
