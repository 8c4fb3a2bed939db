-- A field is found among those of the class that has it, by its number.
use Rattle.std.proofs.Common.{◌≡◌, ◌⊎◌, inl, inr, ℕ, zero, suc, ◌+◌, ◌-◌, ◌<◌, ◌≤◌, Bool, true, false, ◌&&◌, ◌==◌, cond, List, [], ◌∷◌, take, drop, Option, Some, None, refl, sym, ap, ◌∙◌, subst, arith}
use Rattle.std.specs.Prelude.{nat_le, nat_lt, slice_get, unwrap_or}
use Rattle.std.specs.List.{find}
use Rattle.std.specs.Option.{option_map}
use Rattle.std.proofs.lemmas.Bool.{cases_lt, eq-eqb, ne_eqb, and_parts, lt-ltb, le-leb, leb-true, ltb-true}
use Rattle.machine.specs.Data.{Id, id_eq}
use Rattle.machine.specs.Throw.{on_some}
use Rattle.classes.specs.Classes.{Class, OwnField}
use Rattle.classes.specs.Queries.{fields_of, field_at}
use Rattle.assemblies.specs.Binding.{id_at, numbered, range, holds}
use Rattle.class_table.specs.declared.rows.ClassRow.{ClassRow}
use Rattle.class_table.specs.declared.rows.FieldRow.{FieldRow}
use Rattle.class_table.specs.declared.rows.FileRows.{FileRows}
use Rattle.class_table.specs.declared.rows.ClassTable.{ClassTable}
use Rattle.class_table.specs.Seen.{field_seen, row_seen, classes_seen}
use Rattle.class_queries.specs.Found.{found_row}
use Rattle.method_facts.specs.Found.{field_found}

-- ---- lists

taken_get : {A : Type 0} (count : ℕ) (xs : List A) (i : ℕ) → i < count → slice_get (take count xs) i ≡ slice_get xs i
taken_get zero xs i h = absurd (omega (arith, h))
taken_get (suc count) [] i h = refl
taken_get (suc count) (x ∷ xs) zero h = refl
taken_get (suc count) (x ∷ xs) (suc i) h = taken_get count xs i (omega (arith, h))

past_taken : {A : Type 0} (count : ℕ) (xs : List A) (i : ℕ) → count ≤ i → slice_get (take count xs) i ≡ None
past_taken zero xs i h = refl
past_taken (suc count) [] i h = refl
past_taken (suc count) (x ∷ xs) zero h = absurd (omega (arith, h))
past_taken (suc count) (x ∷ xs) (suc i) h = past_taken count xs i (omega (arith, h))

dropped_get : {A : Type 0} (first : ℕ) (xs : List A) (i : ℕ) → slice_get (drop first xs) i ≡ slice_get xs (first + i)
dropped_get zero xs i = let same : i ≡ 0 + i = omega arith in ap (slice_get xs) same
dropped_get (suc first) [] i = refl
dropped_get (suc first) (x ∷ xs) i = let same : suc first + i ≡ suc (first + i) = omega arith in dropped_get first xs i ∙ sym (ap (slice_get (x ∷ xs)) same)

-- ---- by number

abbrev has_id : Id → OwnField → Bool
has_id id m = id_eq m.id id

module _ (file : ℕ) where
  by_number : (first k : ℕ) (xs : List FieldRow) → find (has_id (id_at file (first + k))) (numbered (field_seen file) first xs) ≡ option_map (field_seen file (first + k)) (slice_get xs k)
  by_number first k [] = refl
  by_number first zero (x ∷ xs) =
      let same : first ≡ first + 0 = omega arith in
      ap (λ b. cond b (Some (field_seen file first x)) (find (has_id (id_at file (first + 0))) (numbered (field_seen file) (suc first) xs)))
      (ap (λ b. b && (first == first + 0)) (eq-eqb file file refl) ∙ eq-eqb first (first + 0) same)
      ∙ ap (λ n. Some (field_seen file n x)) same
  by_number first (suc k) (x ∷ xs) =
      let same : suc first + k ≡ first + suc k = omega arith in
      ap (λ b. cond b (Some (field_seen file first x)) (find (has_id (id_at file (first + suc k))) (numbered (field_seen file) (suc first) xs)))
      (ap (λ b. b && (first == first + suc k)) (eq-eqb file file refl) ∙ ne_eqb first (first + suc k) (λ e. omega (arith, e)))
      ∙ subst (λ n. find (has_id (id_at file n)) (numbered (field_seen file) (suc first) xs) ≡ option_map (field_seen file n) (slice_get xs k)) same (by_number (suc first) k xs)

  before_all : (first row : ℕ) (xs : List FieldRow) → row < first → find (has_id (id_at file row)) (numbered (field_seen file) first xs) ≡ None
  before_all first row [] h = refl
  before_all first row (x ∷ xs) h =
      ap (λ b. cond b (Some (field_seen file first x)) (find (has_id (id_at file row)) (numbered (field_seen file) (suc first) xs)))
      (ap (λ b. b && (first == row)) (eq-eqb file file refl) ∙ ne_eqb first row (λ e. omega (arith, e, h)))
      ∙ before_all (suc first) row xs (omega (arith, h))

  in_range : (first count row : ℕ) (ms : List FieldRow) → holds first count row ≡ true → find (has_id (id_at file row)) (numbered (field_seen file) first (range first count ms)) ≡ option_map (field_seen file row) (slice_get ms row)
  in_range first count row ms e =
      let both = and_parts (nat_le first row) (nat_lt row (first + count)) e in
      let low = leb-true first row both.0 in
      let high = ltb-true row (first + count) both.1 in
      let same : first + (row - first) ≡ row = omega (arith, low) in
      subst (λ n. find (has_id (id_at file n)) (numbered (field_seen file) first (range first count ms)) ≡ option_map (field_seen file n) (slice_get (range first count ms) (row - first))) same (by_number first (row - first) (range first count ms))
      ∙ ap (option_map (field_seen file row)) (taken_get count (drop first ms) (row - first) (omega (arith, low, high)) ∙ dropped_get first ms (row - first) ∙ ap (slice_get ms) same)

  out_of_range : (first count row : ℕ) (ms : List FieldRow) → holds first count row ≡ false → find (has_id (id_at file row)) (numbered (field_seen file) first (range first count ms)) ≡ None
  out_of_range first count row ms e = go (cases_lt row first)
    where
      go : (row < first) ⊎ (first ≤ row) → find (has_id (id_at file row)) (numbered (field_seen file) first (range first count ms)) ≡ None
      go (inl below) = before_all first row (range first count ms) below
      go (inr low) = past (cases_lt row (first + count))
        where
          same : first + (row - first) ≡ row
          same = omega (arith, low)

          past : (row < first + count) ⊎ (first + count ≤ row) → find (has_id (id_at file row)) (numbered (field_seen file) first (range first count ms)) ≡ None
          past (inl high) =
              let inside : holds first count row ≡ true = ap (λ b. b && nat_lt row (first + count)) (le-leb first row low) ∙ lt-ltb row (first + count) high in
              absurd (cc (sym e ∙ inside))
          past (inr over) =
              subst (λ n. find (has_id (id_at file n)) (numbered (field_seen file) first (range first count ms)) ≡ option_map (field_seen file n) (slice_get (range first count ms) (row - first))) same (by_number first (row - first) (range first count ms))
              ∙ ap (option_map (field_seen file row)) (past_taken count (drop first ms) (row - first) (omega (arith, low, over)))

-- ---- the rows of a table

module _ (t : ClassTable) (id : Id) where
  pub no_row : field_found t id ≡ None → field_at (classes_seen t) id ≡ None
  no_row e = ap (λ o. on_some o (λ c. find (has_id id) (fields_of (classes_seen t) c))) (go (slice_get t.files.items id.file) e)
    where
      go : (o : Option FileRows) → on_some o (λ (f : FileRows). slice_get f.fields.items id.row) ≡ None → on_some o (λ (f : FileRows). on_some (slice_get f.fields.items id.row) (λ (x : FieldRow). option_map (id_at id.file) x.owner)) ≡ None
      go None h = refl
      go (Some f) h = ap (λ o. on_some o (λ (x : FieldRow). option_map (id_at id.file) x.owner)) h

  module _ (r : FieldRow) (found : field_found t id ≡ Some r) where
    file_there : (f : FileRows) × (slice_get t.files.items id.file ≡ Some f) × (slice_get f.fields.items id.row ≡ Some r)
    file_there = go (slice_get t.files.items id.file) refl found
      where
        go : (o : Option FileRows) → slice_get t.files.items id.file ≡ o → on_some o (λ (f : FileRows). slice_get f.fields.items id.row) ≡ Some r → (f : FileRows) × (slice_get t.files.items id.file ≡ Some f) × (slice_get f.fields.items id.row ≡ Some r)
        go None e h = absurd (cc h)
        go (Some f) e h = (f, e, h)

    pub owner_is : (classes_seen t).field_owner id ≡ option_map (id_at id.file) r.owner
    owner_is =
        ap (λ o. on_some o (λ (f : FileRows). on_some (slice_get f.fields.items id.row) (λ (x : FieldRow). option_map (id_at id.file) x.owner))) file_there.1
        ∙ ap (λ o. on_some o (λ (x : FieldRow). option_map (id_at id.file) x.owner)) file_there.2

    pub no_owner : r.owner ≡ None → field_at (classes_seen t) id ≡ None
    no_owner e = ap (λ o. on_some o (λ c. find (has_id id) (fields_of (classes_seen t) c))) (owner_is ∙ ap (option_map (id_at id.file)) e)

    module _ (owner : ℕ) (has : r.owner ≡ Some owner) where
      pub owner_at : (classes_seen t).field_owner id ≡ Some (id_at id.file owner)
      owner_at = owner_is ∙ ap (option_map (id_at id.file)) has

      at_owner : field_at (classes_seen t) id ≡ find (has_id id) (fields_of (classes_seen t) (id_at id.file owner))
      at_owner = ap (λ o. on_some o (λ c. find (has_id id) (fields_of (classes_seen t) c))) owner_at

      of_file : (o : Option ClassRow) → found_row t (id_at id.file owner) ≡ o → fields_of (classes_seen t) (id_at id.file owner) ≡ unwrap_or (option_map (λ (k : Class). k.fields) (option_map (row_seen id.file file_there.0) o)) []
      of_file o e =
          ap (λ p. unwrap_or (option_map (λ (k : Class). k.fields) (on_some p (λ (f : FileRows). option_map (row_seen id.file f) (slice_get f.classes.items owner)))) []) file_there.1
          ∙ ap (λ p. unwrap_or (option_map (λ (k : Class). k.fields) (option_map (row_seen id.file file_there.0) p)) []) (sym (ap (λ p. on_some p (λ (f : FileRows). slice_get f.classes.items owner)) file_there.1) ∙ e)

      pub no_class : found_row t (id_at id.file owner) ≡ None → field_at (classes_seen t) id ≡ None
      no_class e = at_owner ∙ ap (find (has_id id)) (of_file None e)

      module _ (k : ClassRow) (class : found_row t (id_at id.file owner) ≡ Some k) where
        pub not_listed : holds k.first_field k.field_count id.row ≡ false → field_at (classes_seen t) id ≡ None
        not_listed e = at_owner ∙ ap (find (has_id id)) (of_file (Some k) class) ∙ out_of_range id.file k.first_field k.field_count id.row file_there.0.fields.items e

        pub listed_at : holds k.first_field k.field_count id.row ≡ true → field_at (classes_seen t) id ≡ Some (field_seen id.file id.row r)
        listed_at e = at_owner ∙ ap (find (has_id id)) (of_file (Some k) class) ∙ in_range id.file k.first_field k.field_count id.row file_there.0.fields.items e ∙ ap (option_map (field_seen id.file id.row)) file_there.2
