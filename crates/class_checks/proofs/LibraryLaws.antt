-- The first class of the library's file with a name.
use Rattle.std.proofs.Common.{◌≡◌, ℕ, zero, suc, ◌+◌, ◌<◌, Bool, cond, true, false, List, [], ◌∷◌, length, Option, Some, None, refl, sym, ap, ◌∙◌, arith, subst}
use Rattle.std.specs.Prelude.{slice_get, unwrap_or}
use Rattle.std.specs.List.{find}
use Rattle.std.specs.Option.{option_map}
use Rattle.std.proofs.lemmas.Option.{slice_get_within}
use Rattle.machine.specs.Data.{Id}
use Rattle.machine.specs.Throw.{on_some}
use Rattle.classes.specs.Queries.{has_name, library_class}
use Rattle.assemblies.specs.Binding.{id_at, numbered}
use Rattle.class_table.specs.declared.rows.FileRows.{FileRows}
use Rattle.class_table.specs.declared.rows.ClassTable.{ClassTable}
use Rattle.class_table.specs.Seen.{classes_seen, library_rows}
use Rattle.class_queries.specs.Numbers.{count_at, total_of}
use Rattle.class_queries.proofs.NumberLaws.{count_low}
use Rattle.class_checks.specs.Library.{rows_from, file_rows}

module _ (p : Id → Bool) (file : ℕ) where
  first_in : (n s i : ℕ) → i < n → ((k : ℕ) → k < i → p (id_at file (s + k)) ≡ false) → p (id_at file (s + i)) ≡ true → find p (rows_from file s n) ≡ Some (id_at file (s + i))
  first_in zero s i low before here = absurd (omega (arith, low))
  first_in (suc n) s zero low before here =
      let at : s + 0 ≡ s = omega arith in
      let holds : p (id_at file s) ≡ true = subst (λ r. p (id_at file r) ≡ true) at here in
      ap (λ b. cond b (Some (id_at file s)) (find p (rows_from file (suc s) n))) holds ∙ ap (λ r. Some (id_at file r)) (sym at)
  first_in (suc n) s (suc i) low before here =
      let at : s + 0 ≡ s = omega arith in
      let none : p (id_at file s) ≡ false = subst (λ r. p (id_at file r) ≡ false) at (before 0 (omega arith)) in
      let moved : (k : ℕ) → s + suc k ≡ suc s + k = λ k. omega arith in
      ap (λ b. cond b (Some (id_at file s)) (find p (rows_from file (suc s) n))) none
      ∙ first_in n (suc s) i (omega (arith, low)) (λ k h. subst (λ r. p (id_at file r) ≡ false) (moved k) (before (suc k) (omega (arith, h)))) (subst (λ r. p (id_at file r) ≡ true) (moved i) here)
      ∙ ap (λ r. Some (id_at file r)) (sym (moved i))

  none_in : (n s : ℕ) → ((k : ℕ) → k < n → p (id_at file (s + k)) ≡ false) → find p (rows_from file s n) ≡ None
  none_in zero s before = refl
  none_in (suc n) s before =
      let at : s + 0 ≡ s = omega arith in
      let none : p (id_at file s) ≡ false = subst (λ r. p (id_at file r) ≡ false) at (before 0 (omega arith)) in
      let moved : (k : ℕ) → s + suc k ≡ suc s + k = λ k. omega arith in
      ap (λ b. cond b (Some (id_at file s)) (find p (rows_from file (suc s) n))) none
      ∙ none_in n (suc s) (λ k h. subst (λ r. p (id_at file r) ≡ false) (moved k) (before (suc k) (omega (arith, h))))

  from_zero : (k : ℕ) → k ≡ 0 + k
  from_zero k = omega arith

  pub first_row : (n row : ℕ) → row < n → ((k : ℕ) → k < row → p (id_at file k) ≡ false) → p (id_at file row) ≡ true → find p (rows_from file 0 n) ≡ Some (id_at file row)
  first_row n row low before here =
      first_in n 0 row low (λ k h. subst (λ r. p (id_at file r) ≡ false) (from_zero k) (before k h)) (subst (λ r. p (id_at file r) ≡ true) (from_zero row) here) ∙ ap (λ r. Some (id_at file r)) (sym (from_zero row))

  pub no_row : (n : ℕ) → ((k : ℕ) → k < n → p (id_at file k) ≡ false) → find p (rows_from file 0 n) ≡ None
  no_row n before = none_in n 0 (λ k h. subst (λ r. p (id_at file r) ≡ false) (from_zero k) (before k h))

rows_numbered : {A : Type 0} (file s : ℕ) (xs : List A) → numbered (λ n c. id_at file n) s xs ≡ rows_from file s (length xs)
rows_numbered file s [] = refl
rows_numbered file s (x ∷ xs) = ap (λ ids. id_at file s ∷ ids) (rows_numbered file (suc s) xs)

module _ (t : ClassTable) where
  file_numbered : (file : ℕ) (o : Option FileRows) → unwrap_or (option_map (λ (f : FileRows). numbered (λ n c. id_at file n) 0 f.classes.items) o) [] ≡ unwrap_or (option_map (λ (f : FileRows). rows_from file 0 (length f.classes.items)) o) []
  file_numbered file None = refl
  file_numbered file (Some f) = rows_numbered file 0 f.classes.items

  library_by : (o : Option ℕ) → t.library ≡ o → library_rows t ≡ unwrap_or (on_some o (λ file. option_map (λ (f : FileRows). numbered (λ n c. id_at file n) 0 f.classes.items) (slice_get t.files.items file))) []
  library_by o e = ap (λ o. unwrap_or (on_some o (λ file. option_map (λ (f : FileRows). numbered (λ n c. id_at file n) 0 f.classes.items) (slice_get t.files.items file))) []) e

  pub no_library : (name : List ℕ) → t.library ≡ None → library_class (classes_seen t) name ≡ None
  no_library name e = ap (find (has_name (classes_seen t) name)) (library_by None e)

  pub in_library : (name : List ℕ) (file : ℕ) → t.library ≡ Some file → library_class (classes_seen t) name ≡ find (has_name (classes_seen t) name) (file_rows t file)
  in_library name file e = ap (find (has_name (classes_seen t) name)) (library_by (Some file) e ∙ file_numbered file (slice_get t.files.items file))

  -- a file of a table of few classes has few
  pub rows_few : (file : ℕ) (f : FileRows) → slice_get t.files.items file ≡ Some f → total_of t < 4294967296 → length f.classes.items < 4294967296
  rows_few file f at few =
      let inside = slice_get_within t.files.items file f at in
      let low = count_low t file inside in
      let count : length f.classes.items ≡ count_at t file = sym (ap (λ o. unwrap_or (option_map (λ (f : FileRows). length f.classes.items) o) 0) at) in
      omega (arith, low, count, few)
