use Rattle.std.proofs.Common.{◌≡◌, IfOk, List, sym, subst, ◌∙◌}
use Rattle.msspot_write.specs.declared.parts.PartRow.{PartRow}
use Rattle.kept_marks.specs.Masks.{masks_of}
use Rattle.image_rows.proofs.FieldLaws.{datas_are}
use Rattle.image_rows.proofs.fields.data_parts.Goals as goal

pub returns : goal.returns
returns c =
    let Made : List PartRow → Type 0 = λ made. IfOk c.ranged_parts.result (λ parts. parts ≡ made) in
    subst Made (datas_are (masks_of c.args.choice.now) c.args.tables.now c.args.rows.now c.rows-count.result (c.rows-count.ensures ∙ sym c.requires)) c.ranged_parts.ensures
