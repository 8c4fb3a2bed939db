use Rattle.std.proofs.Common.{◌≡◌, ◌+◌, ◌*◌, ◌≤◌}
use Rattle.looked_rows.specs.Looked.{file_with}
use Rattle.kept_marks.specs.Masks.{masks_of}
use Rattle.image_codes.specs.Codes.{codes_of_kept, short_lengths}
use Rattle.image_codes.proofs.LeftLaws.{left_from}
use Rattle.image_codes.proofs.length.code_length.Given as goal

abbrev pub invariant-loop-n : goal.invariant-loop-n
invariant-loop-n l = record {
  same : l.sections ≡ l.pe;
  small : l.size ≤ l.n * 4294967295;
  total : l.size + short_lengths (left_from (masks_of l.choice) (file_with l.pe l.tables) l.n) ≡ short_lengths (codes_of_kept (masks_of l.choice) (file_with l.pe l.tables));
}
