use Rattle.std.proofs.Common.{◌≡◌}
use Rattle.looked_rows.specs.Looked.{file_with}
use Rattle.kept_marks.specs.Masks.{masks_of}
use Rattle.image_codes.specs.Codes.{codes_of_kept, IsLeft}
use Rattle.image_codes.proofs.LeftLaws.{left_from}
use Rattle.image_codes.proofs.codes.image_codes.Given as goal

abbrev pub invariant-loop-n : goal.invariant-loop-n
invariant-loop-n g l = record {
  same : l.sections ≡ l.pe;
  left : IsLeft (g.R.Renumber.numbered l.renumber) l.found (left_from (masks_of l.choice) (file_with l.pe l.tables) l.n) (codes_of_kept (masks_of l.choice) (file_with l.pe l.tables));
}
