use Rattle.std.proofs.Common.{◌∙◌, ap, true}
use Rattle.set_signatures.specs.Meant.{with_place, type_told}
use Rattle.set_signatures.proofs.PartLaws.{rest_is, pointer_place}
use Rattle.set_signatures.proofs.parts.place.Goals as goal

pub returns-then-code-eq-POINTER : goal.returns-then-code-eq-POINTER
returns-then-code-eq-POINTER c =
    c.place_of.ensures
    ∙ ap (λ rest. with_place true (type_told c.args.tokens.now rest)) (rest_is 1 c.args.bytes.now)
    ∙ pointer_place c.args.tokens.now c.args.bytes.now c.in-len1-up.len_at_least c.if-code-eq-POINTER.true
