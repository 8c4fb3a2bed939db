use Rattle.std.proofs.Common.{◌++◌, [], ◌∷◌, ℕ, List, sym, ap, ◌∙◌}
use Rattle.msspot_write.specs.declared.parts.PartLiteral.{PartLiteral}
use Rattle.kept_bodies.proofs.LiteralLaws.{units_back}
use Rattle.kept_bodies.proofs.literals.push_text.Goals as goal

pub returns : goal.returns
returns c =
    let made : List ℕ → List PartLiteral = λ t. c.args.out.now.items ++ record { method = c.args.method; offset = c.args.offset; text = t } ∷ [] in
    c.in_ok-push.ensures.items ∙ ap made (c.from_vec.ensures ∙ c.in_ok-text.ensures.items ∙ sym (units_back c.args.bytes.now c.requires (λ k. (c.type_inv.bytes k).fits)))
