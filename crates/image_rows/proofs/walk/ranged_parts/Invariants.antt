use Rattle.std.proofs.Common.{◌≡◌}
use Rattle.kept_rows.specs.Select.{rows}
use Rattle.kept_marks.specs.Masks.{masks_of}
use Rattle.image_rows.specs.Walk.{parts_from}
use Rattle.image_rows.proofs.WalkLaws.{total}
use Rattle.image_rows.proofs.walk.ranged_parts.Given as goal

abbrev pub invariant-loop-n : goal.invariant-loop-n
invariant-loop-n g l = record {
  made : l.out.items ≡ parts_from (g.T.RangedParts.parts l.of) (g.T.RangedParts.range l.of) 0 (rows (masks_of l.choice l.table) l.n);
  counted : l.first ≡ total (g.T.RangedParts.range l.of) (rows (masks_of l.choice l.table) l.n);
}
