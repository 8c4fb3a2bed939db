-- The lists of a file's types rise (rule 12), so that a field lies in one at most.
use Rattle.std.proofs.Common.{◌≡◌, ℕ, zero, suc, ◌+◌, ◌-◌, ◌<◌, ◌≤◌, Bool, true, false, List, [], ◌∷◌, Option, Some, None, refl, sym, ap, ◌∙◌, subst, arith, cond}
use Rattle.std.specs.Prelude.{◌&&◌, max, nat_le, nat_lt, if◌then◌else◌, slice_get, slice_index}
use Rattle.std.specs.List.{list_all, filter_map, enumerate_from, position}
use Rattle.std.specs.Option.{option_map, option_map_or}
use Rattle.std.proofs.lemmas.Bool.{and_parts, leb-true, ltb-true, lt-leb}
use Rattle.std.proofs.lemmas.Option.{get_or_from_slice_get}
use Rattle.file_tables.specs.declared.schema.Column.TheVariants.{ListOf}
use Rattle.file_tables.specs.Schema.{columns_of}
use Rattle.file_tables.specs.Metadata.{MetadataPart, rows_of, row_count, column_of, is_column, is_row}
use Rattle.classes.specs.Queries.{listed}
use Rattle.assemblies.specs.Rows.{TypeRow}
use Rattle.assemblies.specs.Binding.{id_at, numbered, holds}
use Rattle.assemblies.proofs.Back.{get_within, get_there}
use Rattle.assemblies.proofs.Numbered.{get_numbered}
use Rattle.kept_rows.proofs.SelectLaws.{position_step}
use Rattle.world_rows.specs.Tokens.{type_defs, fields}
use Rattle.world_rows.specs.Rows.{list_first, list_end, list_count}
use Rattle.verdict_rules.specs.Members.{lists_field, if_lists}

-- numbered from 0
pub from_zero : {A B : Type 0} (make : ℕ → A → B) (i : ℕ) (xs : List A) → slice_get (numbered make 0 xs) i ≡ option_map (make i) (slice_get xs i)
from_zero make i xs = let same : 0 + i ≡ i = omega arith in get_numbered make 0 i xs ∙ ap (λ n. option_map (make n) (slice_get xs i)) same

all_at : {A : Type 0} (test : A → Bool) (xs : List A) (n : ℕ) (x : A) → list_all test xs ≡ true → slice_get xs n ≡ Some x → test x ≡ true
all_at test [] n x h e = absurd (cc e)
all_at test (y ∷ ys) zero x h e = let same : y ≡ x = cc e in subst (λ z. test z ≡ true) same (and_parts (test y) (list_all test ys) h).0
all_at test (y ∷ ys) (suc n) x h e = all_at test ys n x (and_parts (test y) (list_all test ys) h).1 e

-- the column of the list of fields
list_column : (m : MetadataPart) (k : ℕ) → is_row m type_defs (suc k) ≡ true → (nat_le (max 1 (column_of m type_defs k 4)) (column_of m type_defs (suc k) 4) && nat_le (column_of m type_defs (suc k) 4) (row_count m fields + 1)) ≡ true
unfolding is_row columns_of is_column
list_column m k e = all_at (λ c. is_column m c.1 (column_of m type_defs k c.0) (column_of m type_defs (suc k) c.0)) (enumerate_from 0 (columns_of type_defs)) 4 (4, ListOf fields) e refl

module _ (m : MetadataPart) (kept : (row : ℕ) → row ≤ row_count m type_defs → is_row m type_defs row ≡ true) where
  column : ℕ → ℕ
  column j = column_of m type_defs (suc j) 4

  first : (j : ℕ) → j < row_count m type_defs → 1 ≤ column j
  unfolding column
  first j below =
      let b = and_parts (nat_le (max 1 (column_of m type_defs j 4)) (column j)) (nat_le (column j) (row_count m fields + 1)) (list_column m j (kept (suc j) (omega (arith, below)))) in
      let low = leb-true (max 1 (column_of m type_defs j 4)) (column j) b.0 in
      omega (arith, low)

  next : (j : ℕ) → suc j < row_count m type_defs → column j ≤ column (suc j)
  unfolding column
  next j below =
      let b = and_parts (nat_le (max 1 (column j)) (column (suc j))) (nat_le (column (suc j)) (row_count m fields + 1)) (list_column m (suc j) (kept (suc (suc j)) (omega (arith, below)))) in
      let low = leb-true (max 1 (column j)) (column (suc j)) b.0 in
      omega (arith, low)

  upward : (i d : ℕ) → i + d < row_count m type_defs → column i ≤ column (i + d)
  upward i zero below = let same : i + 0 ≡ i = omega arith in subst (λ z. column i ≤ column z) (sym same) (omega arith)
  upward i (suc d) below =
      let same : i + suc d ≡ suc (i + d) = omega arith in
      let here = upward i d (omega (arith, below)) in
      let on = next (i + d) (omega (arith, below)) in
      subst (λ z. column i ≤ column z) (sym same) (omega (arith, here, on))

  row_column : (j : ℕ) (row : List ℕ) → slice_get (rows_of m type_defs) j ≡ Some row → slice_index row 4 ≡ column j
  unfolding column
  row_column j row e = sym (ap (λ r. slice_index r 4) (get_or_from_slice_get (rows_of m type_defs) j row [] e))

  pub lists_rise : (i j : ℕ) (a b : List ℕ) → i < j → slice_get (rows_of m type_defs) i ≡ Some a → slice_get (rows_of m type_defs) j ≡ Some b → list_first 4 a + list_count m fields 4 i a ≤ list_first 4 b
  lists_rise i j a b below ea eb = by (get_there (rows_of m type_defs) (suc i) (omega (arith, within, below)))
    where
      within : j < row_count m type_defs
      within = get_within (rows_of m type_defs) j b eb

      by : (c : List ℕ) × (slice_get (rows_of m type_defs) (suc i) ≡ Some c) → list_first 4 a + list_count m fields 4 i a ≤ list_first 4 b
      by (c, ec) =
          let end : list_end m fields 4 i ≡ list_first 4 c = ap (λ o. option_map_or (list_first 4) o (row_count m fields)) ec in
          let fa = row_column i a ea in
          let fb = row_column j b eb in
          let fc = row_column (suc i) c ec in
          let one = first i (omega (arith, within, below)) in
          let up = next i (omega (arith, within, below)) in
          let whole : suc i + (j - suc i) ≡ j = omega (arith, below) in
          let far = subst (λ z. column (suc i) ≤ column z) whole (upward (suc i) (j - suc i) (omega (arith, within, below))) in
          omega (arith, end, fa, fb, fc, one, up, far)

-- ---- the types in whose list a field is

abbrev pub Rise : List TypeRow → Type 0
Rise ts = (a b : ℕ) (x y : TypeRow) → a < b → slice_get ts a ≡ Some x → slice_get ts b ≡ Some y → x.first_field + x.field_count ≤ y.first_field

held : (first count n : ℕ) → holds first count n ≡ true → n < first + count
held first count n e = ltb-true n (first + count) (and_parts (nat_le first n) (nat_lt n (first + count)) e).1

not_held : (first count n : ℕ) → n < first → holds first count n ≡ false
not_held first count n below = ap (λ b. b && nat_lt n (first + count)) (lt-leb first n below)

module _ (file n : ℕ) where
  none_behind : (i : ℕ) (ts : List TypeRow) → ((b : ℕ) (y : TypeRow) → slice_get ts b ≡ Some y → n < y.first_field) → filter_map (λ o. o) (numbered (if_lists file n) i ts) ≡ []
  none_behind i [] h = refl
  none_behind i (t ∷ ts) h =
      ap (λ (b : Bool). filter_map (λ o. o) ((if b then Some (id_at file i) else None) ∷ numbered (if_lists file n) (suc i) ts)) (not_held t.first_field t.field_count n (h 0 t refl))
      ∙ none_behind (suc i) ts (λ b y e. h (suc b) y e)

  owners_from : (i : ℕ) (ts : List TypeRow) → Rise ts → filter_map (λ o. o) (numbered (if_lists file n) i ts) ≡ listed (option_map (λ k. id_at file (i + k)) (position (lists_field n) ts))
  owners_from i [] rise = refl
  owners_from i (t ∷ ts) rise =
      by (lists_field n t) refl (owners_from (suc i) ts (λ a b x y below ea eb. rise (suc a) (suc b) x y (omega (arith, below)) ea eb))
      ∙ ap (λ o. listed (option_map (λ k. id_at file (i + k)) o)) (sym (position_step (lists_field n) t ts))
    where
      shift : (o : Option ℕ) → option_map (λ k. id_at file (suc i + k)) o ≡ option_map (λ k. id_at file (i + k)) (option_map suc o)
      shift None = refl
      shift (Some k) = let same : suc i + k ≡ i + suc k = omega arith in ap (λ j. Some (id_at file j)) same

      by : (b : Bool) → lists_field n t ≡ b → filter_map (λ o. o) (numbered (if_lists file n) (suc i) ts) ≡ listed (option_map (λ k. id_at file (suc i + k)) (position (lists_field n) ts)) → filter_map (λ o. o) (numbered (if_lists file n) i (t ∷ ts)) ≡ listed (option_map (λ k. id_at file (i + k)) (cond b (Some 0) (option_map suc (position (lists_field n) ts))))
      by true e ih =
          let here = held t.first_field t.field_count n e in
          let same : i ≡ i + 0 = omega arith in
          ap (λ (b : Bool). filter_map (λ o. o) ((if b then Some (id_at file i) else None) ∷ numbered (if_lists file n) (suc i) ts)) e
          ∙ ap (λ cs. id_at file i ∷ cs) (none_behind (suc i) ts (λ b y ey. let up = rise 0 (suc b) t y (omega arith) refl ey in omega (arith, here, up)))
          ∙ ap (λ j. id_at file j ∷ []) same
      by false e ih =
          ap (λ (b : Bool). filter_map (λ o. o) ((if b then Some (id_at file i) else None) ∷ numbered (if_lists file n) (suc i) ts)) e
          ∙ ih
          ∙ ap listed (shift (position (lists_field n) ts))

  pub one_owner : (ts : List TypeRow) → Rise ts → filter_map (λ o. o) (numbered (if_lists file n) 0 ts) ≡ listed (option_map (id_at file) (position (lists_field n) ts))
  one_owner ts rise = owners_from 0 ts rise ∙ ap listed (from_none (position (lists_field n) ts))
    where
      from_none : (o : Option ℕ) → option_map (λ k. id_at file (0 + k)) o ≡ option_map (id_at file) o
      from_none None = refl
      from_none (Some k) = let same : 0 + k ≡ k = omega arith in ap (λ j. Some (id_at file j)) same
