-- Numbers of classes stay below the number behind all.
use Rattle.std.proofs.Common.{◌≡◌, ℕ, zero, suc, ◌+◌, ◌<◌, ◌≤◌, ◌⊎◌, inl, inr, cond, true, false, length, Option, Some, None, refl, sym, ap, arith}
use Rattle.std.specs.Prelude.{slice_get, is_some, unwrap_or}
use Rattle.std.specs.Option.{option_map}
use Rattle.std.proofs.lemmas.Bool.{cases_Bool, cases_eq}
use Rattle.std.proofs.lemmas.Option.{slice_get_within}
use Rattle.machine.specs.Data.{Id}
use Rattle.machine.specs.Throw.{on_some}
use Rattle.class_table.specs.declared.rows.ClassRow.{ClassRow}
use Rattle.class_table.specs.declared.rows.FileRows.{FileRows}
use Rattle.class_table.specs.declared.rows.ClassTable.{ClassTable}
use Rattle.class_queries.specs.Found.{found_row}
use Rattle.class_queries.specs.Numbers.{count_at, start_at, total_of, number_of}

module _ (t : ClassTable) where
  -- where a class is found, its file and its row are there
  pub row_within : (c : Id) → is_some (found_row t c) ≡ true → (c.file < length t.files.items) × (c.row < count_at t c.file)
  row_within c e = go (slice_get t.files.items c.file) refl e
    where
      in_file : (f : FileRows) → slice_get t.files.items c.file ≡ Some f → (o : Option ClassRow) → slice_get f.classes.items c.row ≡ o → is_some o ≡ true → (c.file < length t.files.items) × (c.row < count_at t c.file)
      in_file f at None there e = absurd (cc e)
      in_file f at (Some r) there e =
          let inside = slice_get_within f.classes.items c.row r there in
          let count : length f.classes.items ≡ count_at t c.file = sym (ap (λ o. unwrap_or (option_map (λ (f : FileRows). length f.classes.items) o) 0) at) in
          (slice_get_within t.files.items c.file f at, omega (arith, inside, count))

      go : (o : Option FileRows) → slice_get t.files.items c.file ≡ o → is_some (on_some o (λ (f : FileRows). slice_get f.classes.items c.row)) ≡ true → (c.file < length t.files.items) × (c.row < count_at t c.file)
      go None at e = absurd (cc e)
      go (Some f) at e = in_file f at (slice_get f.classes.items c.row) refl e

  pub starts_rise : (k n row : ℕ) → k < n → row < count_at t k → start_at t k + row < start_at t n
  starts_rise k zero row low inside = absurd (omega (arith, low))
  starts_rise k (suc n) row low inside = go (cases_eq k n) (λ h. starts_rise k n row h inside)
    where
      go : (k ≡ n) ⊎ (k ≡ n → ⊥) → (k < n → start_at t k + row < start_at t n) → start_at t k + row < start_at t (suc n)
      go (inl same) ih = let here = ap (λ i. start_at t i) same in let count = ap (λ i. count_at t i) same in omega (arith, here, count, inside)
      go (inr apart) ih = let before = ih (omega (arith, low, apart)) in omega (arith, before)

  pub number_found : (c : Id) → is_some (found_row t c) ≡ true → number_of t c ≡ start_at t c.file + c.row
  number_found c e = ap (λ b. cond b (start_at t c.file + c.row) (total_of t)) e

  pub number_missing : (c : Id) → is_some (found_row t c) ≡ false → number_of t c ≡ total_of t
  number_missing c e = ap (λ b. cond b (start_at t c.file + c.row) (total_of t)) e

  pub number_low : (c : Id) → is_some (found_row t c) ≡ true → start_at t c.file + c.row < total_of t
  number_low c e = let w = row_within c e in starts_rise c.file (length t.files.items) c.row w.0 w.1

  pub number_inside : (c : Id) → number_of t c < total_of t + 1
  number_inside c = go (cases_Bool (is_some (found_row t c)))
    where
      go : (is_some (found_row t c) ≡ true) ⊎ (is_some (found_row t c) ≡ false) → number_of t c < total_of t + 1
      go (inl found) = let low = number_low c found in let is = number_found c found in omega (arith, low, is)
      go (inr missing) = let is = number_missing c missing in omega (arith, is)

  pub count_low : (k : ℕ) → k < length t.files.items → count_at t k ≤ total_of t
  count_low k inside = go (count_at t k) refl
    where
      go : (n : ℕ) → count_at t k ≡ n → count_at t k ≤ total_of t
      go zero e = omega (arith, e)
      go (suc n) e = let low = starts_rise k (length t.files.items) n inside (omega (arith, e)) in omega (arith, e, low)
