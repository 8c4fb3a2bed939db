use Rattle.std.proofs.Common.{◌≡◌, IfOk, List, subst}
use Rattle.msspot_write.specs.declared.parts.PartLiteral.{PartLiteral}
use Rattle.looked_rows.specs.Looked.{file_with}
use Rattle.kept_marks.specs.Masks.{masks_of}
use Rattle.kept_bodies.proofs.LiteralLaws.{literals_walked}
use Rattle.kept_bodies.proofs.literals.literal_parts.Goals as goal

pub returns : goal.returns
returns c =
    let Made : List PartLiteral → Type 0 = λ made. IfOk c.all_parts.result (λ parts. parts ≡ made) in
    subst Made (literals_walked (masks_of c.args.choice.now) (file_with c.args.pe.now c.args.tables.now)) c.all_parts.ensures
