-- The numbers of classes.
use Rattle.std.specs.Prelude.{◌≡◌, ℕ, zero, suc, ◌+◌, ◌<◌, ◌^◌, if◌then◌else◌, length, Some, is_some, slice_get, unwrap_or}
use Rattle.std.specs.Option.{option_map}
use Rattle.machine.specs.Data.{Id}
use Rattle.class_table.specs.declared.rows.FileRows.{FileRows}
use Rattle.class_table.specs.declared.rows.ClassTable.{ClassTable}
use Rattle.class_queries.specs.declared.numbers.Numbers.{Numbers}
use Rattle.class_queries.specs.Found.{found_row}

-- how many classes a file has
abbrev pub count_at : ClassTable → ℕ → ℕ
count_at t k = unwrap_or (option_map (λ (f : FileRows). length f.classes.items) (slice_get t.files.items k)) 0

-- how many the files before it have
abbrev pub start_at : ClassTable → ℕ → ℕ
start_at t zero = 0
start_at t (suc k) = start_at t k + count_at t k

abbrev pub total_of : ClassTable → ℕ
total_of t = start_at t (length t.files.items)

abbrev pub number_of : ClassTable → Id → ℕ
number_of t c = if is_some (found_row t c) then start_at t c.file + c.row else total_of t

pub record AreNumbers (t : ClassTable) (n : Numbers) : Type 0 where
  pub count : length n.starts.items ≡ length t.files.items
  pub starts : (k : ℕ) → k < length t.files.items → slice_get n.starts.items k ≡ Some (start_at t k)
  pub total : n.total ≡ total_of t
  pub few : total_of t < 4294967295
  pub few_files : length t.files.items < 2 ^ 32
