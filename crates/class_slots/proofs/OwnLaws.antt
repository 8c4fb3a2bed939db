-- The rows of a class's methods are its methods.
use Rattle.std.proofs.Common.{◌≡◌, ℕ, suc, ◌+◌, ◌-◌, ◌<◌, ◌≤◌, List, [], ◌∷◌, length, drop, length-drop, Option, Some, None, refl, sym, ap, ◌∙◌, arith}
use Rattle.std.specs.Prelude.{min, slice_get, unwrap_or}
use Rattle.std.specs.Option.{option_map}
use Rattle.std.proofs.lemmas.List.{length-take}
use Rattle.machine.specs.Data.{Id}
use Rattle.machine.specs.Throw.{on_some}
use Rattle.classes.specs.Classes.{Class, OwnMethod}
use Rattle.classes.specs.Queries.{methods_of}
use Rattle.assemblies.specs.Binding.{id_at, numbered, range}
use Rattle.assemblies.proofs.Numbered.{get_numbered}
use Rattle.assemblies.proofs.Back.{get_there}
use Rattle.class_table.specs.declared.rows.ClassRow.{ClassRow}
use Rattle.class_table.specs.declared.rows.MethodRow.{MethodRow}
use Rattle.class_table.specs.declared.rows.FileRows.{FileRows}
use Rattle.class_table.specs.declared.rows.ClassTable.{ClassTable}
use Rattle.class_table.specs.Seen.{classes_seen, method_row, method_seen, row_seen}
use Rattle.class_targets.specs.Owned.{method_found}
use Rattle.class_targets.proofs.RowLaws.{taken_get, dropped_get}
use Rattle.class_slots.specs.declared.own.OwnRows.{OwnRows}
use Rattle.class_slots.specs.Own.{AreClipped, InClass, AreIn, AreOwn}

length_numbered : {A B : Type 0} (make : ℕ → A → B) (n : ℕ) (xs : List A) → length (numbered make n xs) ≡ length xs
length_numbered make n [] = refl
length_numbered make n (x ∷ xs) = ap suc (length_numbered make (suc n) xs)

length_range : {A : Type 0} (first count : ℕ) (xs : List A) → length (range first count xs) ≡ min count (length xs - first)
length_range first count xs = length-take count (drop first xs) ∙ ap (min count) (length-drop first xs)

-- ---- the rows that a class's row tells

module _ (t : ClassTable) (c : Id) where
  pub none_there : (r : OwnRows) → slice_get t.files.items c.file ≡ None → r.start ≡ 0 → r.end ≡ 0 → AreOwn t c r
  none_there r at start end =
      let empty : methods_of (classes_seen t) c ≡ [] = ap (λ (o : Option FileRows). unwrap_or (option_map (λ (k : Class). k.methods) (on_some o (λ (f : FileRows). option_map (row_seen c.file f) (slice_get f.classes.items c.row)))) []) at in
      let none : length (methods_of (classes_seen t) c) ≡ 0 = ap length empty in
      record {
        count = omega (arith, none, start, end);
        rows = λ i below. absurd (omega (arith, below, none));
      }

  module _ (f : FileRows) (at : slice_get t.files.items c.file ≡ Some f) where
    abbrev ms : List OwnMethod
    ms = methods_of (classes_seen t) c

    abbrev listed : Option ClassRow → List OwnMethod
    listed o = unwrap_or (option_map (λ (k : Class). k.methods) (option_map (row_seen c.file f) o)) []

    are : ms ≡ listed (slice_get f.classes.items c.row)
    are = ap (λ (o : Option FileRows). unwrap_or (option_map (λ (k : Class). k.methods) (on_some o (λ (f : FileRows). option_map (row_seen c.file f) (slice_get f.classes.items c.row)))) []) at

    row_at : (n : ℕ) → method_row t (id_at c.file n) ≡ option_map (method_seen c.file n) (slice_get f.methods.items n)
    row_at n = ap (λ (o : Option FileRows). on_some o (λ (f : FileRows). option_map (method_seen c.file n) (slice_get f.methods.items n))) at

    -- of a class that is there
    class_is : (r : OwnRows) (k : ClassRow) → slice_get f.classes.items c.row ≡ Some k → AreClipped (length f.methods.items) k.first_method k.method_count r → AreOwn t c r
    class_is r k here clipped =
        let start = clipped.start in
        let end = clipped.end in
        let same : ms ≡ numbered (method_seen c.file) k.first_method (range k.first_method k.method_count f.methods.items) = are ∙ ap listed here in
        let long : length ms ≡ min k.method_count (length f.methods.items - k.first_method) = ap length same ∙ length_numbered (method_seen c.file) k.first_method (range k.first_method k.method_count f.methods.items) ∙ length_range k.first_method k.method_count f.methods.items in
        record {
          count = end ∙ sym (ap (λ n. n + length ms) start ∙ ap (λ n. k.first_method + n) long);
          rows =
              λ i below.
              let few : i < k.method_count = omega (arith, below, long) in
              ap (λ xs. slice_get xs i) same
              ∙ get_numbered (method_seen c.file) k.first_method i (range k.first_method k.method_count f.methods.items)
              ∙ ap (option_map (method_seen c.file (k.first_method + i))) (taken_get k.method_count (drop k.first_method f.methods.items) i few ∙ dropped_get k.first_method f.methods.items i)
              ∙ sym (ap (λ n. method_row t (id_at c.file (n + i))) start ∙ row_at (k.first_method + i));
        }

    pub own_in : (r : OwnRows) → AreIn f c.row r → AreOwn t c r
    own_in r there = by (slice_get f.classes.items c.row) refl there
      where
        by : (o : Option ClassRow) → slice_get f.classes.items c.row ≡ o → InClass f r o → AreOwn t c r
        by None here none =
            let empty : length ms ≡ 0 = ap length (are ∙ ap listed here) in
            let start = none.0 in
            let end = none.1 in
            record {
              count = omega (arith, empty, start, end);
              rows = λ i below. absurd (omega (arith, below, empty));
            }
        by (Some k) here clipped = class_is r k here clipped

-- ---- the row of a method

pub row_seen_at : (t : ClassTable) (id : Id) → method_row t id ≡ option_map (method_seen id.file id.row) (method_found t id)
row_seen_at t id = go (slice_get t.files.items id.file)
  where
    go : (o : Option FileRows) → on_some o (λ (f : FileRows). option_map (method_seen id.file id.row) (slice_get f.methods.items id.row)) ≡ option_map (method_seen id.file id.row) (on_some o (λ (f : FileRows). slice_get f.methods.items id.row))
    go None = refl
    go (Some f) = refl

pub found_is : (t : ClassTable) (id : Id) (r : MethodRow) (m : OwnMethod) → method_found t id ≡ Some r → method_row t id ≡ Some m → method_seen id.file id.row r ≡ m
found_is t id r m found row =
    let both : Some (method_seen id.file id.row r) ≡ Some m = sym (row_seen_at t id ∙ ap (option_map (method_seen id.file id.row)) found) ∙ row in
    cc both

pub not_found : (t : ClassTable) (id : Id) (m : OwnMethod) → method_found t id ≡ None → method_row t id ≡ Some m → ⊥
not_found t id m found row =
    let both : None ≡ Some m = sym (row_seen_at t id ∙ ap (option_map (method_seen id.file id.row)) found) ∙ row in
    cc both

pub id_of : (t : ClassTable) (id : Id) (m : OwnMethod) → method_row t id ≡ Some m → m.id ≡ id_at id.file id.row
id_of t id m row = go (method_found t id) (sym (row_seen_at t id) ∙ row)
  where
    go : (o : Option MethodRow) → option_map (method_seen id.file id.row) o ≡ Some m → m.id ≡ id_at id.file id.row
    go None e = absurd (cc e)
    go (Some r) e = let same : method_seen id.file id.row r ≡ m = cc e in ap (λ (z : OwnMethod). z.id) (sym same)

-- ---- the method of each row

pub record MethodOf (t : ClassTable) (c : Id) (start n : ℕ) : Type 0 where
  pub method : OwnMethod
  pub listed : slice_get (methods_of (classes_seen t) c) (n - start) ≡ Some method
  pub row : method_row t (id_at c.file n) ≡ Some method
  pub id : method.id ≡ id_at c.file n

pub method_of : (t : ClassTable) (c : Id) (r : OwnRows) (n : ℕ) → AreOwn t c r → r.start ≤ n → n < r.end → MethodOf t c r.start n
method_of t c r n own low high =
    let count = own.count in
    let below : n - r.start < length (methods_of (classes_seen t) c) = omega (arith, low, high, count) in
    let m = get_there (methods_of (classes_seen t) c) (n - r.start) below in
    let there : r.start + (n - r.start) ≡ n = omega (arith, low) in
    let row : method_row t (id_at c.file n) ≡ Some m.0 = ap (λ k. method_row t (id_at c.file k)) (sym there) ∙ sym (own.rows (n - r.start) below) ∙ m.1 in
    record { method = m.0; listed = m.1; row = row; id = id_of t (id_at c.file n) m.0 row }
