use Rattle.std.proofs.Common.{◌∙◌, ap, drop}
use Rattle.set_signatures.specs.Meant.{bracketed}
use Rattle.set_signatures.proofs.PartLaws.{rest_is, type_is}
use Rattle.set_signatures.proofs.parts.lone_type.Goals as goal

pub returns : goal.returns
returns c =
    let bytes = c.args.bytes.now in
    c.inner_type.ensures
    ∙ ap (bracketed c.args.tokens.now c.ranks_of-ranks.result) (rest_is c.ranks_of-ranks.result bytes)
    ∙ ap (λ n. bracketed c.args.tokens.now n (drop n bytes)) c.ranks_of-ranks.ensures.ranks
    ∙ type_is c.args.tokens.now bytes
