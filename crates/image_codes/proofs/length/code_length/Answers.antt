use Rattle.std.proofs.Common.{◌<◌, get_or, [], sym, ap, ◌∙◌, subst, arith}
use Rattle.std.specs.Prelude.{if◌then◌else◌}
use Rattle.file_tables.specs.Metadata.{rows_of, row_count}
use Rattle.file_tables.specs.Pe.{PePart}
use Rattle.kept_marks.specs.Masks.{masks_of}
use Rattle.looked_rows.specs.Looked.{file_with}
use Rattle.world_rows.specs.Tokens.{methods}
use Rattle.row_numbers.specs.declared.table.Table.TheVariants as table
use Rattle.converted.specs.Bodies.{body_of, code_in}
use Rattle.image_codes.specs.Codes.{AllCanShrink, short_length}
use Rattle.image_codes.proofs.LeftLaws.{total_next}
use Rattle.image_codes.proofs.length.code_length.Goals as goal

pub row_length-size-requires-clause-sound : goal.row_length-size-requires-clause-sound
row_length-size-requires-clause-sound c = subst (λ (p : PePart). AllCanShrink (masks_of c.args.choice.now) (file_with p c.args.tables.now)) (sym c.loop-n.invariant.same) c.requires

pub loop-n-preserved : goal.loop-n-preserved
loop-n-preserved c =
    let m = c.args.tables.now in
    let kept = masks_of c.args.choice.now in
    let n = c.loop-n.n in
    let within : n < row_count m methods = omega (arith, c.loop-n-test.true, c.rows-n-end.ensures) in
    let size =
    c.row_length-size.ensures.length
    ∙ ap (λ (p : PePart). if kept table.MethodDef n then short_length (code_in (body_of (file_with p m) (get_or (rows_of m methods) n []))) else 0) c.loop-n.invariant.same in
    record {
      same = c.row_length-size.ensures.same ∙ c.loop-n.invariant.same;
      small = omega (arith, c.row_length-size.ensures.small, c.loop-n.invariant.small);
      total = total_next kept (file_with c.args.pe.now m) n c.loop-n.size c.row_length-size.result within size c.loop-n.invariant.total;
    }
