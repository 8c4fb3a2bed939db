use Rattle.std.proofs.Common.{◌≡◌, ℕ, ◌<◌, None, Some}
use Rattle.std.specs.Prelude.{slice_get}
use Rattle.std.specs.Option.{option_map}
use Rattle.file_tables.specs.File.{FilePart}
use Rattle.judged_classes.specs.Judged.{IsJudged}
use Rattle.code_order.specs.Told.{row_told}
use Rattle.code_order.proofs.order.file_fault.Given as goal

abbrev pub invariant-loop-n : goal.invariant-loop-n
invariant-loop-n l =
    record {
      sections : option_map (λ (x : FilePart). x.pe) (slice_get l.judge.subject.now.world.now l.file) ≡ Some l.sections;
      kept : IsJudged l.judge.subject.now.world.now → (k : ℕ) → k < l.n → row_told l.judge.subject.now.world.now l.file k ≡ None;
    }
