use Rattle.std.proofs.Common.{length, ap, subst, arith}
use Rattle.cil_code.specs.Bodies.{BodyPart}
use Rattle.kept_closure.specs.Named.{InOption}
use Rattle.code_shrink.specs.Lines.{AreBytes}
use Rattle.code_shrink.specs.Shrunk.{CanShrink}
use Rattle.image_codes.proofs.LengthLaws.{short_small}
use Rattle.image_codes.proofs.length.body_length.Goals as goal

pub within-requires-clause-fits : goal.within-requires-clause-fits
within-requires-clause-fits c =
    let code = c.in-Some.body.code in
    let sound : CanShrink code = subst (InOption (λ (b : BodyPart). CanShrink b.code)) c.in-Some.is c.requires in
    let bytes : AreBytes code = subst AreBytes c.code-code.ensures (λ k. (c.type_inv.code k).fits) in
    let small = short_small code bytes sound.whole in
    let same = ap length c.code-code.ensures in
    omega (arith, small, c.length.ensures, same)
