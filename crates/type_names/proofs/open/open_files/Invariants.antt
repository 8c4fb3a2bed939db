use Rattle.std.proofs.Common.{◌≡◌, length, map, drop}
use Rattle.type_names.specs.Files.{parts_of}
use Rattle.type_names.specs.Opening.{files_opened, opened_from}
use Rattle.type_names.proofs.Openings.{before}
use Rattle.type_names.proofs.open.open_files.Given as goal

abbrev pub invariant-loop-n : goal.invariant-loop-n
invariant-loop-n l = record {
  size : length l.opened.items ≡ l.n;
  opened : files_opened (map (λ bytes. bytes.items) l.files) ≡ before (parts_of l.opened.items) (opened_from l.n (drop l.n (map (λ bytes. bytes.items) l.files)));
}
