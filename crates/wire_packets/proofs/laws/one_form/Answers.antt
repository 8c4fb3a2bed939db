use Rattle.std.proofs.Common.{◌≡◌, ℕ, ◌+◌, List, ◌++◌, length, sym, ap, ◌∙◌}
use Rattle.wire_packets.specs.declared.decoding.Decoded.TheVariants.{Whole}
use Rattle.wire_packets.specs.Spelling.{spelling}
use Rattle.wire_packets.specs.Decoding.{decoded}
use Rattle.wire_packets.proofs.Spelt.{decoded-spelling}
use Rattle.wire_packets.proofs.laws.one_form.Goals as goal

pub returns : goal.returns
returns c p q a b x y left right same =
    let joined : spelling p ++ x ≡ spelling q ++ y =
    ap (λ (zs : List ℕ). zs ++ x) (sym left.spelt) ∙ same ∙ ap (λ (zs : List ℕ). zs ++ y) right.spelt in
    let answer : Whole p (32 + length p.payload.items) ≡ Whole q (32 + length q.payload.items) =
    sym (decoded-spelling p x left.packet) ∙ ap decoded joined ∙ decoded-spelling q y right.packet in
    let p-is : p ≡ q = cc in
    (p-is, left.spelt ∙ ap spelling p-is ∙ sym right.spelt)
