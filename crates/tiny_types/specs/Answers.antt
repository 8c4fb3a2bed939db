-- What is known of classes beforehand.
use Rattle.std.specs.Prelude.{◌≡◌, ℕ, List, length, map, Option, Some, slice_get}
use Rattle.std.specs.List.{list_any}
use Rattle.machine.specs.Data.{Id, id_eq}
use Rattle.machine.specs.Throw.{on_some}
use Rattle.classes.specs.Queries.{instance_fields, is_or_implements}
use Rattle.assemblies.specs.Binding.{id_at}
use Rattle.member_keys.specs.Seen.{class_seen}
use Rattle.class_table.specs.declared.rows.ClassTable.{ClassTable}
use Rattle.class_table.specs.Seen.{classes_seen}
use Rattle.class_queries.specs.Numbers.{count_at}
use Rattle.tiny_types.specs.declared.answers.ClassAnswer.{ClassAnswer}
use Rattle.tiny_types.specs.declared.answers.FileAnswers.{FileAnswers}

-- how many fields the class's objects have, and what it is or implements
pub record IsAnswer (t : ClassTable) (c : Id) (a : ClassAnswer) : Type 0 where
  pub fields : a.field_count ≡ length (instance_fields (classes_seen t) c)
  pub reached : (d : Id) → list_any (id_eq d) (map class_seen a.reached.items) ≡ is_or_implements (classes_seen t) c d

-- those of the first classes of a file
pub record AreFileAnswers (t : ClassTable) (file size : ℕ) (f : FileAnswers) : Type 0 where
  pub count : length f.classes.items ≡ size
  pub each : (n : ℕ) (a : ClassAnswer) → slice_get f.classes.items n ≡ Some a → IsAnswer t (id_at file n) a

abbrev pub answer_at : List FileAnswers → Id → Option ClassAnswer
answer_at all c = on_some (slice_get all c.file) (λ f. slice_get f.classes.items c.row)

-- those of all classes of a table
pub record AreAnswers (t : ClassTable) (all : List FileAnswers) : Type 0 where
  pub count : length all ≡ length t.files.items
  pub each : (k : ℕ) (f : FileAnswers) → slice_get all k ≡ Some f → AreFileAnswers t k (count_at t k) f
