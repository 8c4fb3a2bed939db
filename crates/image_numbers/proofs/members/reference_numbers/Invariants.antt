use Rattle.std.proofs.Common.{◌≡◌, ◌≤◌, map}
use Rattle.std.specs.List.{range_with_len}
use Rattle.kept_marks.specs.Masks.{masks_of}
use Rattle.converted.specs.Cut.{two_bytes}
use Rattle.image_numbers.specs.Numbers.{reference_number}
use Rattle.image_numbers.proofs.ReferenceLaws.{fields_before}
use Rattle.image_numbers.proofs.members.reference_numbers.Given as goal

abbrev pub invariant-loop-n : goal.invariant-loop-n
invariant-loop-n l = record {
  counted : l.fields ≡ fields_before l.tables l.n;
  few : l.fields ≤ l.n;
  made : l.numbers.items ≡ map (reference_number two_bytes (masks_of l.choice) l.tables) (range_with_len 0 l.n);
}
