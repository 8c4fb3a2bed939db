use Rattle.std.proofs.Common.{◌≡◌, IfOk, List, subst}
use Rattle.msspot_write.specs.declared.parts.PartRow.{PartRow}
use Rattle.looked_rows.specs.Looked.{file_with}
use Rattle.kept_marks.specs.Masks.{masks_of}
use Rattle.image_methods.proofs.MethodLaws.{methods_walked}
use Rattle.image_methods.proofs.methods.method_parts.Goals as goal

pub returns : goal.returns
returns c =
    let Made : List PartRow → Type 0 = λ made. IfOk c.all_parts.result (λ parts. parts ≡ made) in
    subst Made (methods_walked (masks_of c.args.choice.now) (file_with c.args.pe.now c.args.tables.now) c.args.rows.now c.requires) c.all_parts.ensures
