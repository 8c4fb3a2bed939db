use Rattle.std.proofs.Common.{◌≡◌, ℕ, List, IfOk, map, subst}
use Rattle.file_tables.specs.Metadata.{rows_of}
use Rattle.kept_rows.specs.Select.{select}
use Rattle.world_rows.specs.Tokens.{type_refs}
use Rattle.row_numbers.specs.declared.table.Table.TheVariants as table
use Rattle.kept_marks.specs.Masks.{masks_of}
use Rattle.image_rows.specs.Kept.{reference_part_of}
use Rattle.image_rows.proofs.SelectLaws.{all_pass}
use Rattle.image_rows.proofs.references.reference_parts.Goals as goal

pub returns : goal.returns
returns c =
    let Made : List (List ℕ) → Type 0 = λ rows. IfOk c.kept_parts.result (λ parts. parts ≡ map (reference_part_of (masks_of c.args.choice.now) c.args.tables.now) (select (masks_of c.args.choice.now table.TypeRef) rows)) in
    subst Made (all_pass (rows_of c.args.tables.now type_refs)) c.kept_parts.ensures
