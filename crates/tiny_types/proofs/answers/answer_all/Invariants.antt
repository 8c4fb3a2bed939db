use Rattle.std.proofs.Common.{◌≡◌, ℕ, length}
use Rattle.std.specs.Prelude.{Some, slice_get}
use Rattle.class_queries.specs.Numbers.{count_at}
use Rattle.tiny_types.specs.declared.answers.FileAnswers.{FileAnswers}
use Rattle.tiny_types.specs.Answers.{AreFileAnswers}
use Rattle.tiny_types.proofs.answers.answer_all.Given as goal

abbrev pub invariant-loop-file : goal.invariant-loop-file
invariant-loop-file l = record { count : length l.all.items ≡ l.file; each : (k : ℕ) (f : FileAnswers) → slice_get l.all.items k ≡ Some f → AreFileAnswers l.table k (count_at l.table k) f }
