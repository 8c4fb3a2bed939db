-- Each field belongs to the class that lists it, and is found there by its number.
use Rattle.std.proofs.Common.{◌≡◌, ℕ, zero, suc, ◌+◌, ◌-◌, ◌<◌, ◌≤◌, Bool, true, false, List, [], ◌∷◌, Option, Some, None, refl, sym, ap, ◌∙◌, subst, arith, cond}
use Rattle.std.specs.Prelude.{◌&&◌, ◌==◌, max, nat_le, nat_lt, slice_get, slice_index, unwrap_or}
use Rattle.std.specs.List.{find, position, enumerate_from}
use Rattle.std.specs.Option.{option_map, option_map_or}
use Rattle.std.proofs.lemmas.Bool.{and_parts, eq-eqb, ne_eqb, lt-ltb, le-ltb, le-leb, leb-true}
use Rattle.std.proofs.lemmas.Option.{get_or_from_slice_get}
use Rattle.file_tables.specs.declared.schema.Column.TheVariants.{ListOf}
use Rattle.file_tables.specs.Schema.{columns_of}
use Rattle.file_tables.specs.Metadata.{MetadataPart, rows_of, row_count, column_of, is_column, is_row}
use Rattle.file_tables.specs.File.{FilePart}
use Rattle.machine.specs.Data.{Id, id_eq}
use Rattle.machine.specs.Throw.{on_some}
use Rattle.classes.specs.Classes.{OwnField, Class}
use Rattle.classes.specs.Queries.{fields_of, field_at}
use Rattle.class_rules.proofs.Ways.{all_at}
use Rattle.kept_rows.proofs.SelectLaws.{position_step}
use Rattle.assemblies.specs.Rows.{TypeRow, FieldRow, Assembly}
use Rattle.assemblies.specs.Binding.{id_at, own_field, numbered, range, class_with, holds, field_owner, classes_of}
use Rattle.assemblies.proofs.Back.{get_within, get_there}
use Rattle.assemblies.proofs.Numbered.{get_numbered}
use Rattle.assemblies.proofs.Belong.{some_map}
use Rattle.world_rows.specs.Tokens.{type_defs, fields}
use Rattle.world_rows.specs.Rows.{list_first, list_end, list_count, type_row}
use Rattle.world_rows.specs.Kinds.{kind_of}
use Rattle.world_rows.specs.World.{size_of, rows_alone, assemblies_of, ecma_sources}
use Rattle.world_rows.specs.Read.{TypesStand}
use Rattle.verdict_laws.proofs.Rows.{get_range, from_zero, whole, file_there}

-- ---- lists of fields rise

list_column : (m : MetadataPart) (k : ℕ) → is_row m type_defs (suc k) ≡ true → (nat_le (max 1 (column_of m type_defs k 4)) (column_of m type_defs (suc k) 4) && nat_le (column_of m type_defs (suc k) 4) (row_count m fields + 1)) ≡ true
unfolding is_row columns_of is_column
list_column m k e = all_at (λ c. is_column m c.1 (column_of m type_defs k c.0) (column_of m type_defs (suc k) c.0)) (enumerate_from 0 (columns_of type_defs)) 4 (4, ListOf fields) e refl

module _ (m : MetadataPart) (kept : (row : ℕ) → row ≤ row_count m type_defs → is_row m type_defs row ≡ true) where
  column : ℕ → ℕ
  column j = column_of m type_defs (suc j) 4

  bounds : (j : ℕ) → j < row_count m type_defs → (1 ≤ column j) × (column j ≤ row_count m fields + 1)
  unfolding column
  bounds j below =
      let b = and_parts (nat_le (max 1 (column_of m type_defs j 4)) (column j)) (nat_le (column j) (row_count m fields + 1)) (list_column m j (kept (suc j) (omega (arith, below)))) in
      let low = leb-true (max 1 (column_of m type_defs j 4)) (column j) b.0 in
      (omega (arith, low), leb-true (column j) (row_count m fields + 1) b.1)

  next : (j : ℕ) → suc j < row_count m type_defs → column j ≤ column (suc j)
  unfolding column
  next j below =
      let b = and_parts (nat_le (max 1 (column j)) (column (suc j))) (nat_le (column (suc j)) (row_count m fields + 1)) (list_column m (suc j) (kept (suc (suc j)) (omega (arith, below)))) in
      let low = leb-true (max 1 (column j)) (column (suc j)) b.0 in
      omega (arith, low)

  upward : (i d : ℕ) → i + d < row_count m type_defs → column i ≤ column (i + d)
  upward i zero below = let same : i + 0 ≡ i = omega arith in subst (λ z. column i ≤ column z) (sym same) (omega arith)
  upward i (suc d) below =
      let same : i + suc d ≡ suc (i + d) = omega arith in
      let here = upward i d (omega (arith, below)) in
      let on = next (i + d) (omega (arith, below)) in
      subst (λ z. column i ≤ column z) (sym same) (omega (arith, here, on))

  -- the row's own column
  row_column : (j : ℕ) (row : List ℕ) → slice_get (rows_of m type_defs) j ≡ Some row → slice_index row 4 ≡ column j
  unfolding column
  row_column j row e = sym (ap (λ r. slice_index r 4) (get_or_from_slice_get (rows_of m type_defs) j row [] e))

  list_rises : (i j : ℕ) (a b : List ℕ) → i < j → slice_get (rows_of m type_defs) i ≡ Some a → slice_get (rows_of m type_defs) j ≡ Some b → list_first 4 a + list_count m fields 4 i a ≤ list_first 4 b
  list_rises i j a b below ea eb = by (get_there (rows_of m type_defs) (suc i) (omega (arith, within, below)))
    where
      within : j < row_count m type_defs
      within = get_within (rows_of m type_defs) j b eb

      by : (c : List ℕ) × (slice_get (rows_of m type_defs) (suc i) ≡ Some c) → list_first 4 a + list_count m fields 4 i a ≤ list_first 4 b
      by (c, ec) =
          let end : list_end m fields 4 i ≡ list_first 4 c = ap (λ o. option_map_or (list_first 4) o (row_count m fields)) ec in
          let fa = row_column i a ea in
          let fb = row_column j b eb in
          let fc = row_column (suc i) c ec in
          let one = bounds i (omega (arith, within, below)) in
          let up = next i (omega (arith, within, below)) in
          let whole : suc i + (j - suc i) ≡ j = omega (arith, below) in
          let far = subst (λ z. column (suc i) ≤ column z) whole (upward (suc i) (j - suc i) (omega (arith, within, below))) in
          omega (arith, end, fa, fb, fc, one.0, up, far)

abbrev Rises : Assembly → Type 0
Rises p = (i j : ℕ) (t u : TypeRow) → i < j → slice_get p.types i ≡ Some t → slice_get p.types j ≡ Some u → t.first_field + t.field_count ≤ u.first_field

module _ (files : List FilePart) (stand : TypesStand files) where
  file_rises : (f : ℕ) (x : FilePart) → slice_get files f ≡ Some x → Rises (whole files f x)
  file_rises f x here i j t u below et eu =
      let a = row_at i t et in
      let b = row_at j u eu in
      let up = list_rises x.metadata (stand f x here) i j a.0 b.0 below a.1 b.1 in
      let first_a = ap (λ (z : TypeRow). z.first_field) a.2 in
      let count_a = ap (λ (z : TypeRow). z.field_count) a.2 in
      let first_b = ap (λ (z : TypeRow). z.first_field) b.2 in
      omega (arith, up, first_a, count_a, first_b)
    where
      row_at : (n : ℕ) (z : TypeRow) → slice_get (whole files f x).types n ≡ Some z → (row : List ℕ) × (slice_get (rows_of x.metadata type_defs) n ≡ Some row) × (type_row x.metadata (λ n. kind_of (size_of (rows_alone files)) (rows_alone files) (id_at f n)) n row ≡ z)
      row_at n z h =
          some_map (type_row x.metadata (λ n. kind_of (size_of (rows_alone files)) (rows_alone files) (id_at f n)) n) (slice_get (rows_of x.metadata type_defs) n) z
          (sym (from_zero (type_row x.metadata (λ n. kind_of (size_of (rows_alone files)) (rows_alone files) (id_at f n))) n (rows_of x.metadata type_defs)) ∙ h)

  all_rise : (f : ℕ) (p : Assembly) → slice_get (assemblies_of files) f ≡ Some p → Rises p
  all_rise f p e = by (slice_get files f) refl (sym (file_there files f) ∙ e)
    where
      by : (o : Option FilePart) → slice_get files f ≡ o → option_map (whole files f) o ≡ Some p → Rises p
      by None here h = absurd (cc h)
      by (Some x) here h = let same : whole files f x ≡ p = cc h in subst Rises same (file_rises f x here)

-- ---- the rows of a class

position_is : {A : Type 0} (test : A → Bool) (xs : List A) (n : ℕ) (x : A) → slice_get xs n ≡ Some x → test x ≡ true → ((i : ℕ) (y : A) → i < n → slice_get xs i ≡ Some y → test y ≡ false) → position test xs ≡ Some n
position_is test [] n x e t before = absurd (cc e)
position_is test (y ∷ ys) zero x e t before =
    let same : y ≡ x = cc e in
    position_step test y ys ∙ ap (λ b. cond b (Some 0) (option_map suc (position test ys))) (ap test same ∙ t)
position_is test (y ∷ ys) (suc n) x e t before =
    position_step test y ys
    ∙ (ap (λ b. cond b (Some 0) (option_map suc (position test ys))) (before 0 y (omega arith) refl)
    ∙ ap (option_map suc) (position_is test ys n x e t (λ i z below at. before (suc i) z (omega (arith, below)) at)))

and_false : (b : Bool) → (b && false) ≡ false
and_false true = refl
and_false false = refl

module _ (k : ℕ) (ps : List Assembly) where
  -- the row of the i-th field of a class
  record Listed (c : Id) (i : ℕ) (g : OwnField) : Type 0 where
    pub assembly : Assembly
    pub type : TypeRow
    pub row : FieldRow
    pub is_assembly : slice_get ps c.file ≡ Some assembly
    pub is_type : slice_get assembly.types c.row ≡ Some type
    pub below : i < type.field_count
    pub is_row : slice_get assembly.fields (type.first_field + i) ≡ Some row
    pub is : own_field k ps c.file (type.first_field + i) row ≡ g
    pub of_class : fields_of (classes_of k ps) c ≡ numbered (own_field k ps c.file) type.first_field (range type.first_field type.field_count assembly.fields)

  listed : (c : Id) (i : ℕ) (g : OwnField) → slice_get (fields_of (classes_of k ps) c) i ≡ Some g → Listed c i g
  listed c i g e = by (slice_get ps c.file) refl e
    where
      of_type : (p : Assembly) → slice_get ps c.file ≡ Some p → (o : Option TypeRow) → slice_get p.types c.row ≡ o → slice_get (unwrap_or (option_map (λ (z : Class). z.fields) (option_map (class_with k ps c.file p) o)) []) i ≡ Some g → Listed c i g
      of_type p here None there h = absurd (cc h)
      of_type p here (Some t) there h =
          let f = some_map (own_field k ps c.file (t.first_field + i)) (slice_get (range t.first_field t.field_count p.fields) i) g (sym (get_numbered (own_field k ps c.file) t.first_field i (range t.first_field t.field_count p.fields)) ∙ h) in
          let r = get_range t.first_field t.field_count p.fields i f.0 f.1 in
          record {
            assembly = p;
            type = t;
            row = f.0;
            is_assembly = here;
            is_type = there;
            below = r.0;
            is_row = r.1;
            is = f.2;
            of_class =
                ap (λ o. unwrap_or (option_map (λ (z : Class). z.fields) (on_some o (λ p. option_map (class_with k ps c.file p) (slice_get p.types c.row)))) []) here
                ∙ ap (λ o. unwrap_or (option_map (λ (z : Class). z.fields) (option_map (class_with k ps c.file p) o)) []) there;
          }

      by : (o : Option Assembly) → slice_get ps c.file ≡ o → slice_get (unwrap_or (option_map (λ (z : Class). z.fields) (on_some o (λ p. option_map (class_with k ps c.file p) (slice_get p.types c.row)))) []) i ≡ Some g → Listed c i g
      by None here h = absurd (cc h)
      by (Some p) here h = of_type p here (slice_get p.types c.row) refl h

  -- of rows with rising numbers, that of the number
  by_number : (file n : ℕ) (xs : List FieldRow) (i : ℕ) (g : OwnField) → slice_get (numbered (own_field k ps file) n xs) i ≡ Some g → find (λ z. id_eq z.id g.id) (numbered (own_field k ps file) n xs) ≡ Some g
  by_number file n [] i g e = absurd (cc e)
  by_number file n (x ∷ xs) zero g e =
      let same : own_field k ps file n x ≡ g = cc e in
      let here : id_eq (id_at file n) g.id ≡ true = subst (λ (z : OwnField). id_eq (id_at file n) z.id ≡ true) same (ap (λ b. b && (n == n)) (eq-eqb file file refl) ∙ eq-eqb n n refl) in
      ap (λ b. cond b (Some (own_field k ps file n x)) (find (λ z. id_eq z.id g.id) (numbered (own_field k ps file) (suc n) xs))) here ∙ ap Some same
  by_number file n (x ∷ xs) (suc i) g e =
      let r = some_map (own_field k ps file (suc n + i)) (slice_get xs i) g (sym (get_numbered (own_field k ps file) (suc n) i xs) ∙ e) in
      let apart : id_eq (id_at file n) g.id ≡ false = subst (λ (z : OwnField). id_eq (id_at file n) z.id ≡ false) r.2 (ap (λ b. b && (n == suc n + i)) (eq-eqb file file refl) ∙ ne_eqb n (suc n + i) (λ same. omega (arith, same))) in
      ap (λ b. cond b (Some (own_field k ps file n x)) (find (λ z. id_eq z.id g.id) (numbered (own_field k ps file) (suc n) xs))) apart ∙ by_number file (suc n) xs i g e

  module _ (rise : (f : ℕ) (p : Assembly) → slice_get ps f ≡ Some p → Rises p) where
    owner : (c : Id) (i : ℕ) (g : OwnField) → slice_get (fields_of (classes_of k ps) c) i ≡ Some g → field_owner ps g.id ≡ Some c
    owner c i g e = subst (λ (z : OwnField). field_owner ps z.id ≡ Some c) l.is at
      where
        l : Listed c i g
        l = listed c i g e

        row : ℕ
        row = l.type.first_field + i

        owns : TypeRow → Bool
        owns t = holds t.first_field t.field_count row

        mine : owns l.type ≡ true
        mine = ap (λ b. b && nat_lt row (l.type.first_field + l.type.field_count)) (le-leb l.type.first_field row (omega arith)) ∙ lt-ltb row (l.type.first_field + l.type.field_count) (let h = l.below in omega (arith, h))

        earlier : (j : ℕ) (t : TypeRow) → j < c.row → slice_get l.assembly.types j ≡ Some t → owns t ≡ false
        earlier j t below there =
            let up = rise c.file l.assembly l.is_assembly j c.row t l.type below there l.is_type in
            ap (λ b. nat_le t.first_field row && b) (le-ltb row (t.first_field + t.field_count) (omega (arith, up))) ∙ and_false (nat_le t.first_field row)

        at : field_owner ps (id_at c.file row) ≡ Some c
        at =
            ap (λ o. on_some o (λ (p : Assembly). on_some (slice_get p.fields row) (λ x. option_map (id_at c.file) (position (λ (t : TypeRow). holds t.first_field t.field_count row) p.types)))) l.is_assembly
            ∙ (ap (λ o. on_some o (λ (x : FieldRow). option_map (id_at c.file) (position owns l.assembly.types))) l.is_row
            ∙ ap (option_map (id_at c.file)) (position_is owns l.assembly.types c.row l.type l.is_type mine earlier))

    entry : (c : Id) (i : ℕ) (g : OwnField) → slice_get (fields_of (classes_of k ps) c) i ≡ Some g → field_at (classes_of k ps) g.id ≡ Some g
    entry c i g e =
        ap (λ o. on_some o (λ c. find (λ z. id_eq z.id g.id) (fields_of (classes_of k ps) c))) (owner c i g e)
        ∙ (ap (find (λ (z : OwnField). id_eq z.id g.id)) l.of_class
        ∙ by_number c.file l.type.first_field (range l.type.first_field l.type.field_count l.assembly.fields) i g (sym (ap (λ zs. slice_get zs i) l.of_class) ∙ e))
      where
        l : Listed c i g
        l = listed c i g e

pub fields_found : (files : List FilePart) → TypesStand files → (c : Id) (i : ℕ) (g : OwnField) → slice_get (fields_of (ecma_sources files).classes c) i ≡ Some g → field_at (ecma_sources files).classes g.id ≡ Some g
fields_found files stand = entry (size_of (rows_alone files)) (assemblies_of files) (all_rise files stand)
