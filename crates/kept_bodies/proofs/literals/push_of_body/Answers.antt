use Rattle.std.proofs.Common.{◌≡◌, ◌++◌, List, subst, ap, ◌∙◌}
use Rattle.std.specs.Prelude.{OnOk}
use Rattle.cil_code.specs.Walk.{instructions_of}
use Rattle.short_code.specs.Short.{to_short}
use Rattle.code_shrink.specs.Shrunk.{pieces_of}
use Rattle.msspot_write.specs.declared.parts.PartLiteral.{PartLiteral}
use Rattle.kept_bodies.specs.Literals.{literals_of}
use Rattle.kept_bodies.proofs.LiteralLaws.{body_literals}
use Rattle.kept_bodies.proofs.literals.push_of_body.Goals as goal

pub returns : goal.returns
returns c = λ kept.
    let Pushed : List PartLiteral → Type 0 = λ ls. OnOk c.push_of_code.result (c.push_of_code.new.out.items ≡ c.args.out.now.items ++ ls) in
    subst Pushed
    (ap (λ w. literals_of c.args.tables.now c.args.method w (instructions_of c.code-2.result.now)) (c.in_ok-places.ensures {u = tt} ∙ ap (λ code. to_short (pieces_of code)) c.code.ensures)
    ∙ ap (λ code. literals_of c.args.tables.now c.args.method (to_short (pieces_of c.args.body.now.code)) (instructions_of code)) c.code-2.ensures
    ∙ body_literals kept c.args.tables.now c.args.method c.args.body.now)
    c.push_of_code.ensures
