-- A table with few rows has few classes.
use Rattle.std.proofs.Common.{◌≡◌, ℕ, zero, suc, ◌*◌, ◌≤◌, ◌<◌, ◌^◌, length, Option, Some, None, refl, arith}
use Rattle.std.specs.Prelude.{slice_get, unwrap_or}
use Rattle.std.specs.Option.{option_map}
use Rattle.class_table.specs.declared.rows.FileRows.{FileRows}
use Rattle.class_table.specs.declared.rows.ClassTable.{ClassTable}
use Rattle.class_queries.specs.Numbers.{count_at, start_at, total_of}
use Rattle.tiny_types.specs.Small.{IsSmall}

module _ (t : ClassTable) (small : IsSmall t) where
  pub count_small : (k : ℕ) → count_at t k ≤ 65535
  count_small k = go (slice_get t.files.items k) refl
    where
      go : (o : Option FileRows) → slice_get t.files.items k ≡ o → unwrap_or (option_map (λ (f : FileRows). length f.classes.items) o) 0 ≤ 65535
      go None at = omega arith
      go (Some f) at = (small.each k f at).classes

  start_small : (k : ℕ) → start_at t k ≤ k * 65535
  start_small zero = omega arith
  start_small (suc k) = let low = start_small k in let more = count_small k in omega (arith, low, more)

  pub total_small : total_of t < 2 ^ 32
  total_small = let low = start_small (length t.files.items) in omega (arith, low, small.files)
