use Rattle.std.proofs.Common.{◌≡◌, ℕ, length}
use Rattle.std.specs.Prelude.{Some, slice_get}
use Rattle.assemblies.specs.Binding.{id_at}
use Rattle.tiny_types.specs.declared.answers.ClassAnswer.{ClassAnswer}
use Rattle.tiny_types.specs.Answers.{IsAnswer}
use Rattle.tiny_types.proofs.answers.answer_file.Given as goal

abbrev pub invariant-loop-row : goal.invariant-loop-row
invariant-loop-row l = record { count : length l.classes.items ≡ l.row; each : (n : ℕ) (a : ClassAnswer) → slice_get l.classes.items n ≡ Some a → IsAnswer l.table (id_at l.file n) a }
